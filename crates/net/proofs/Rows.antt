-- Worked runs, computed: the count of packets posted so far after each event, then the contents of
-- single packets, and the logs.
-- An entry is written as a number made of its author and serial: 71 is serial 1 of author 7.
use Rattle.net.proofs.Words.{◌≡◌, ℕ, zero, suc, List, [], ◌∷◌, ◌++◌, length, Option, Some, None, Result, Ok, Err, refl, slice_get, Ballot, SlotReport, Packet, Prepare, Promise, Accept, Nack, Ask, Told, packet, Event, Offer, Begin, Deliver, Restart, StepFault, NoNode, NoPacket, EventsSpent, World, start, event_result, after, log}

abbrev size : ℕ → ℕ
size v = 0

abbrev run : List ℕ → List (Event ℕ) → Result (World ℕ) StepFault
run weights events = after size weights 1000000 events

abbrev counts_on : Result (World ℕ) StepFault → List (Event ℕ) → List ℕ
counts_on (Err fault) es = []
counts_on (Ok w) [] = length w.packets ∷ []
counts_on (Ok w) (e ∷ es) = length w.packets ∷ counts_on (event_result size w e) es

-- the count of packets before the first event, and after each
abbrev counts : List ℕ → List (Event ℕ) → List ℕ
counts weights events = counts_on (Ok (start weights 1000000)) events

abbrev count_after : Result (World ℕ) StepFault → Option ℕ
count_after (Err fault) = None
count_after (Ok w) = Some (length w.packets)

abbrev packet_after : Result (World ℕ) StepFault → ℕ → Option (Packet ℕ)
packet_after (Err fault) number = None
packet_after (Ok w) number = slice_get w.packets number

abbrev log_after : Result (World ℕ) StepFault → ℕ → Option (List (Option ℕ))
log_after (Err fault) k = None
log_after (Ok w) k = Some (log w k)

abbrev ballot : ℕ → ℕ → Ballot
ballot round node = record { round = round; node = node }

abbrev report : ℕ → Ballot → ℕ → SlotReport ℕ
report slot b v = record { slot = slot; ballot = b; value = Some v }

abbrev three : List ℕ
three = 1 ∷ 1 ∷ 1 ∷ []

abbrev one : List ℕ
one = 1 ∷ []

-- The highest ballot wins.

-- node 0 alone accepts 71 at 1.0, and node 1 alone 81 at 2.1
abbrev two_leaders : List (Event ℕ)
two_leaders = Offer 0 71 ∷ Begin 0 ∷ Deliver 0 ∷ Deliver 1 ∷ Deliver 3 ∷ Deliver 4 ∷ Deliver 5 ∷ Offer 1 81 ∷ Begin 1 ∷ Deliver 12 ∷ Deliver 13 ∷ Deliver 14 ∷ Deliver 15 ∷ Deliver 17 ∷ []

abbrev third_leader : List (Event ℕ)
third_leader = two_leaders ++ Begin 2 ∷ Deliver 22 ∷ Deliver 23 ∷ Deliver 25 ∷ Deliver 26 ∷ []

-- three nodes lead in turn: the third hears two promises and posts its Accepts
highest_ballot_wins : counts three third_leader ≡ 0 ∷ 0 ∷ 3 ∷ 4 ∷ 5 ∷ 5 ∷ 8 ∷ 11 ∷ 11 ∷ 14 ∷ 15 ∷ 16 ∷ 16 ∷ 19 ∷ 22 ∷ 25 ∷ 26 ∷ 27 ∷ 27 ∷ 30 ∷ []
highest_ballot_wins = refl

-- node 0 reports to node 2 what it accepted under ballot 1.0
first_acceptor_reports : packet_after (run three third_leader) 25 ≡ Some (packet 0 2 (Promise (ballot 3 2) 1 1 (report 0 (ballot 1 0) 71 ∷ [])))
first_acceptor_reports = refl

-- node 1 reports to node 2 what it accepted under ballot 2.1
second_acceptor_reports : packet_after (run three third_leader) 26 ≡ Some (packet 1 2 (Promise (ballot 3 2) 1 1 (report 0 (ballot 2 1) 81 ∷ [])))
second_acceptor_reports = refl

-- node 2 proposes the reported value with the higher ballot
higher_value_is_proposed : packet_after (run three third_leader) 27 ≡ Some (packet 2 0 (Accept (ballot 3 2) 0 (Some 81)))
higher_value_is_proposed = refl

-- A restarted proposer.

abbrev first_leader : List (Event ℕ)
first_leader = Begin 0 ∷ Deliver 0 ∷ Deliver 1 ∷ Deliver 3 ∷ Deliver 4 ∷ Offer 0 71 ∷ []

abbrev restarted_leader : List (Event ℕ)
restarted_leader = first_leader ++ Restart 0 ∷ Begin 0 ∷ Deliver 11 ∷ Deliver 6 ∷ Deliver 14 ∷ []

-- an Accept from before the restart comes late and is answered with a Nack
old_ballot_is_refused : counts three restarted_leader ≡ 0 ∷ 3 ∷ 4 ∷ 5 ∷ 5 ∷ 5 ∷ 8 ∷ 10 ∷ 13 ∷ 14 ∷ 15 ∷ 15 ∷ []
old_ballot_is_refused = refl

-- the restarted node prepares the next round, since its round survives the restart
new_ballot_is_higher : packet_after (run three restarted_leader) 11 ≡ Some (packet 0 1 (Prepare (ballot 2 0) 0))
new_ballot_is_higher = refl

-- node 1 refuses the old ballot and names the one that it promised since
refusal_names_the_promise : packet_after (run three restarted_leader) 14 ≡ Some (packet 1 0 (Nack (ballot 1 0) (ballot 2 0)))
refusal_names_the_promise = refl

-- Votes of two ballots.

abbrev split_votes : List (Event ℕ)
split_votes = two_leaders ++ Deliver 10 ∷ Deliver 10 ∷ Deliver 21 ∷ []

-- one vote under each of two ballots, one of them counted twice, is no quorum
votes_of_two_ballots_do_not_add : log_after (run three split_votes) 2 ≡ Some []
votes_of_two_ballots_do_not_add = refl

-- two votes under one ballot are a quorum, and the value is learned
votes_of_one_ballot_add : log_after (run three (split_votes ++ Deliver 18 ∷ Deliver 24 ∷ [])) 2 ≡ Some (Some 81 ∷ [])
votes_of_one_ballot_add = refl

-- only the delivery of the Accept makes node 2 post
split_votes_post : counts_on (run three two_leaders) (Deliver 10 ∷ Deliver 10 ∷ Deliver 21 ∷ Deliver 18 ∷ Deliver 24 ∷ []) ≡ 22 ∷ 22 ∷ 22 ∷ 22 ∷ 25 ∷ 25 ∷ []
split_votes_post = refl

-- One node alone, and its state after a restart.

abbrev alone : List (Event ℕ)
alone = Offer 0 71 ∷ Offer 0 71 ∷ Begin 0 ∷ Deliver 0 ∷ Deliver 1 ∷ Deliver 2 ∷ Deliver 3 ∷ Deliver 4 ∷ Deliver 5 ∷ []

-- values offered before there is a leader are proposed once the node leads
waiting_values_are_proposed : counts one alone ≡ 0 ∷ 0 ∷ 0 ∷ 1 ∷ 2 ∷ 4 ∷ 5 ∷ 6 ∷ 6 ∷ 6 ∷ []
waiting_values_are_proposed = refl

-- a value that was offered twice is learned at two slots
repeated_value_is_learned_twice : log_after (run one alone) 0 ≡ Some (Some 71 ∷ Some 71 ∷ [])
repeated_value_is_learned_twice = refl

abbrev alone_again : List (Event ℕ)
alone_again = alone ++ Restart 0 ∷ Begin 0 ∷ Deliver 6 ∷ []

-- a restart empties the log
restart_forgets_what_was_learned : log_after (run one (alone ++ Restart 0 ∷ [])) 0 ≡ Some []
restart_forgets_what_was_learned = refl

-- a promise after the restart reports both entries accepted before it
accepted_entries_are_reported_again : packet_after (run one alone_again) 7 ≡ Some (packet 0 0 (Promise (ballot 2 0) 1 1 (report 0 (ballot 1 0) 71 ∷ report 1 (ballot 1 0) 71 ∷ [])))
accepted_entries_are_reported_again = refl

-- after the restart the node posts a Prepare, a promise, two Accepts and a vote
restarted_node_goes_on : counts_on (run one alone) (Restart 0 ∷ Begin 0 ∷ Deliver 6 ∷ Deliver 7 ∷ Deliver 8 ∷ Deliver 10 ∷ []) ≡ 6 ∷ 6 ∷ 7 ∷ 8 ∷ 10 ∷ 11 ∷ 11 ∷ []
restarted_node_goes_on = refl

-- the first value is learned again under the new ballot
learned_again : log_after (run one (alone_again ++ Deliver 7 ∷ Deliver 8 ∷ Deliver 10 ∷ [])) 0 ≡ Some (Some 71 ∷ [])
learned_again = refl

-- A gap in the log.

abbrev with_gap : List (Event ℕ)
with_gap = first_leader ++ Offer 0 72 ∷ Deliver 5 ∷ Deliver 6 ∷ Deliver 8 ∷ Deliver 9 ∷ Deliver 11 ∷ Deliver 14 ∷ Deliver 19 ∷ Deliver 22 ∷ []

abbrev gap_filled : List (Event ℕ)
gap_filled = with_gap ++ Deliver 23 ∷ Deliver 25 ∷ []

-- two Asks are posted if a gap is left, a Told answers the first, and another Ask follows
gap_is_asked_for : counts three gap_filled ≡ 0 ∷ 3 ∷ 4 ∷ 5 ∷ 5 ∷ 5 ∷ 8 ∷ 11 ∷ 14 ∷ 17 ∷ 20 ∷ 23 ∷ 23 ∷ 23 ∷ 23 ∷ 25 ∷ 26 ∷ 27 ∷ []
gap_is_asked_for = refl

-- a value learned above a gap is not in the log
nothing_above_a_gap : log_after (run three with_gap) 2 ≡ Some []
nothing_above_a_gap = refl

-- the Ask is for the least slot that is not learned
least_gap_is_named : packet_after (run three with_gap) 23 ≡ Some (packet 2 0 (Ask 0))
least_gap_is_named = refl

-- node 0 answers the Ask with the value that it learned
learned_value_is_told : packet_after (run three gap_filled) 25 ≡ Some (packet 0 2 (Told 0 (Some 71)))
learned_value_is_told = refl

-- the receiver of a Told asks for the next slot that it has not learned
next_gap_is_asked_for : packet_after (run three gap_filled) 26 ≡ Some (packet 2 0 (Ask 2))
next_gap_is_asked_for = refl

-- once the gap is filled the log has both values
gap_ends : log_after (run three gap_filled) 2 ≡ Some (Some 71 ∷ Some 72 ∷ [])
gap_ends = refl

-- the leader has learned only the first value
leader_has_its_own_log : log_after (run three gap_filled) 0 ≡ Some (Some 71 ∷ [])
leader_has_its_own_log = refl

-- No such node, no such packet.

-- the delivery of a packet that was never posted meets NoPacket
no_such_packet : run one (Deliver 0 ∷ []) ≡ Err NoPacket
no_such_packet = refl

-- a begin of a node that does not exist meets NoNode
no_such_node : run one (Begin 1 ∷ []) ≡ Err NoNode
no_such_node = refl

-- as many events are taken as the limit allows
limit_is_allowed : count_after (after size one 2 (Begin 0 ∷ Begin 0 ∷ [])) ≡ Some 2
limit_is_allowed = refl

-- the next event meets EventsSpent, which comes before its other faults
limit_is_reached : after size one 2 (Begin 0 ∷ Begin 0 ∷ Begin 1 ∷ []) ≡ Err EventsSpent
limit_is_reached = refl

-- Promises in pages: 257 values, each accepted, and the promise of a second ballot.

-- offers of the values from 1 to n, before these events
abbrev offers_to : ℕ → List (Event ℕ) → List (Event ℕ)
offers_to zero es = es
offers_to (suc n) es = offers_to n (Offer 0 (suc n) ∷ es)

abbrev deliveries : ℕ → ℕ → List (Event ℕ)
deliveries number zero = []
deliveries number (suc count) = Deliver number ∷ deliveries (suc number) count

abbrev many : List (Event ℕ)
many = Begin 0 ∷ Deliver 0 ∷ Deliver 1 ∷ offers_to 257 (deliveries 2 257)

abbrev second_page_first : List (Event ℕ)
second_page_first = many ++ Begin 0 ∷ Deliver 516 ∷ Deliver 518 ∷ Deliver 518 ∷ []

-- in addition to a Prepare and a promise, an Accept and a vote are posted for each of 257 values
many_are_accepted : count_after (run one many) ≡ Some 516
many_are_accepted = refl

-- the second page of the promise has the one report for which the first has no room
second_page_has_the_rest : packet_after (run one second_page_first) 518 ≡ Some (packet 0 0 (Promise (ballot 2 0) 2 2 (report 256 (ballot 1 0) 257 ∷ [])))
second_page_has_the_rest = refl

-- the second page alone, even if it comes twice, makes no leader
one_page_is_no_promise : count_after (run one second_page_first) ≡ Some 519
one_page_is_no_promise = refl

-- once the first page comes too, all 257 values are proposed
both_pages_are : count_after (run one (second_page_first ++ Deliver 517 ∷ [])) ≡ Some 776
both_pages_are = refl

-- the last Accept has the slot and the value from the second page
last_value_is_proposed_again : packet_after (run one (second_page_first ++ Deliver 517 ∷ [])) 775 ≡ Some (packet 0 0 (Accept (ballot 2 0) 256 (Some 257)))
last_value_is_proposed_again = refl

-- Weights.

-- one node of weight 3 of 5 is a quorum
heavy_node_is_a_quorum : counts (3 ∷ 1 ∷ 1 ∷ []) (Begin 0 ∷ Deliver 0 ∷ Deliver 3 ∷ Offer 0 71 ∷ Deliver 4 ∷ Deliver 8 ∷ []) ≡ 0 ∷ 3 ∷ 4 ∷ 4 ∷ 7 ∷ 10 ∷ 10 ∷ []
heavy_node_is_a_quorum = refl

-- one vote of weight 3 of 5 chooses the value
heavy_vote_is_enough : log_after (run (3 ∷ 1 ∷ 1 ∷ []) (Begin 0 ∷ Deliver 0 ∷ Deliver 3 ∷ Offer 0 71 ∷ Deliver 4 ∷ Deliver 8 ∷ [])) 1 ≡ Some (Some 71 ∷ [])
heavy_vote_is_enough = refl

-- weight 2 of 4 is no quorum: the value waits for another node
half_is_not_enough : counts (2 ∷ 1 ∷ 1 ∷ []) (Begin 0 ∷ Deliver 0 ∷ Deliver 3 ∷ Offer 0 71 ∷ Deliver 1 ∷ Deliver 4 ∷ []) ≡ 0 ∷ 3 ∷ 4 ∷ 4 ∷ 4 ∷ 5 ∷ 8 ∷ []
half_is_not_enough = refl

-- Six entries of several authors, one ballot.

abbrev several : List (Event ℕ)
several = Begin 0 ∷ Deliver 0 ∷ Deliver 1 ∷ Offer 0 61 ∷ Offer 0 72 ∷ Offer 0 81 ∷ Offer 0 82 ∷ Offer 0 83 ∷ Offer 0 91 ∷ deliveries 2 12

-- with one node alone, an Accept and a vote are posted for each of six values
several_post : counts one several ≡ 0 ∷ 1 ∷ 2 ∷ 2 ∷ 3 ∷ 4 ∷ 5 ∷ 6 ∷ 7 ∷ 8 ∷ 9 ∷ 10 ∷ 11 ∷ 12 ∷ 13 ∷ 14 ∷ 14 ∷ 14 ∷ 14 ∷ 14 ∷ 14 ∷ 14 ∷ []
several_post = refl

-- the log has the values in the order in which they were offered
several_are_learned : log_after (run one several) 0 ≡ Some (Some 61 ∷ Some 72 ∷ Some 81 ∷ Some 82 ∷ Some 83 ∷ Some 91 ∷ [])
several_are_learned = refl
