-- The definitions of one node, computed on worked examples.
use Rattle.synod.proofs.Words.{◌≡◌, ℕ, zero, suc, List, [], ◌∷◌, Bool, true, false, Some, None, Err, length, map, replicate, refl, Promise, Nack, Ask, Busy, LogFull, RoundsSpent, TooLong, Idle, Leading, is_quorum, is_below, zero_ballot, packet, new_node, pages_of, on_prepare, on_accept, offer_result, begin_result, proposed_values, restarted}

-- Quorums.

abbrev pub only : ℕ → ℕ → Bool
only zero zero = true
only zero (suc k) = false
only (suc j) zero = false
only (suc j) (suc k) = only j k

-- one node of three with the same weight is no quorum
pub one_of_three_is_none : is_quorum (1 ∷ 1 ∷ 1 ∷ []) (only 0) ≡ false
one_of_three_is_none = refl

-- one node with three fifths of the weight is a quorum
pub a_heavy_node_is_a_quorum : is_quorum (3 ∷ 1 ∷ 1 ∷ []) (only 0) ≡ true
a_heavy_node_is_a_quorum = refl

-- weight two of four is no quorum, since it is not more than half
pub exactly_half_is_none : is_quorum (2 ∷ 1 ∷ 1 ∷ []) (only 0) ≡ false
exactly_half_is_none = refl

-- Ballots are ordered by round, and then by node.

-- round 1 of node 2 is below round 2 of node 0
pub a_round_decides : is_below (record { round = 1; node = 2 }) (record { round = 2; node = 0 }) ≡ true
a_round_decides = refl

-- in the same round, the ballot of node 1 is not below that of node 0
pub then_the_node : is_below (record { round = 2; node = 1 }) (record { round = 2; node = 0 }) ≡ false
then_the_node = refl

-- The highest ballot wins: the first of equal ones, and a no-operation if none is reported.

-- two reports of slot 0, none of slot 1, one of slot 2
pub the_highest_is_proposed : proposed_values {V = ℕ}
    (record { slot = 0; ballot = record { round = 1; node = 0 }; value = Some 7 } ∷ record { slot = 0; ballot = record { round = 2; node = 1 }; value = Some 8 } ∷ record { slot = 2; ballot = record { round = 1; node = 0 }; value = Some 9 } ∷ []) 0 3
    ≡ Some 8 ∷ None ∷ Some 9 ∷ []
the_highest_is_proposed = refl

-- An acceptor.

-- a new node answers a Prepare of round 1 with a promise of one page
pub a_higher_ballot_is_promised : (on_prepare (new_node {V = ℕ} 1 (1 ∷ 1 ∷ [])) 0 (record { round = 1; node = 0 }) 0).posts
    ≡ packet 1 0 (Promise (record { round = 1; node = 0 }) 1 1 []) ∷ []
a_higher_ballot_is_promised = refl

-- a node answers a second Prepare of the same ballot with a Nack
pub the_same_ballot_is_refused : (on_prepare (on_prepare (new_node {V = ℕ} 1 (1 ∷ 1 ∷ [])) 0 (record { round = 1; node = 0 }) 0).node 0 (record { round = 1; node = 0 }) 0).posts
    ≡ packet 1 0 (Nack (record { round = 1; node = 0 }) (record { round = 1; node = 0 })) ∷ []
the_same_ballot_is_refused = refl

-- a new node that accepts in round 3 has promised that round
pub an_accept_raises_the_promise : (on_accept (new_node {V = ℕ} 1 (1 ∷ 1 ∷ [])) 0 (record { round = 3; node = 0 }) 1 (Some 7)).node.promise ≡ record { round = 3; node = 0 }
an_accept_raises_the_promise = refl

-- The pages of a promise: no reports make one page, and 257 make two.

-- a promise is sent even if nothing was accepted
pub no_reports_are_one_page : length (pages_of {T = ℕ} []) ≡ 1
no_reports_are_one_page = refl

-- 257 reports make a page of 256 and a second page of one
pub a_page_has_256 : map (λ (page : List ℕ). length page) (pages_of (replicate 257 0)) ≡ 256 ∷ 1 ∷ []
a_page_has_256 = refl

-- Offers.

-- if 64 values are waiting, an offer is refused
pub the_65th_offer_is_busy : offer_result (λ v. 8) (record (new_node {V = ℕ} 0 (1 ∷ [])) { waiting = replicate 64 7 }) 7 ≡ Err Busy
the_65th_offer_is_busy = refl

-- a value that is one byte too long is refused as such, also if no more values may wait
pub too_long_comes_first : offer_result (λ v. 67108865) (record (new_node {V = ℕ} 0 (1 ∷ [])) { waiting = replicate 64 7 }) 7 ≡ Err TooLong
too_long_comes_first = refl

-- a leader whose next slot is the limit refuses an offer
pub the_log_is_full : offer_result (λ v. 8) (record (new_node {V = ℕ} 0 (1 ∷ [])) { role = Leading zero_ballot 1048576 }) 7 ≡ Err LogFull
the_log_is_full = refl

-- Begins.

-- no round is above the greatest 64-bit number
pub the_rounds_are_spent : begin_result (record (new_node {V = ℕ} 0 (1 ∷ [])) { promise = record { round = 18446744073709551615; node = 0 } }) ≡ Err RoundsSpent
the_rounds_are_spent = refl

-- after a restart, node 0 of three posts an Ask to nodes 1 and 2
pub a_restarted_proposer_asks_the_others : (restarted (record (new_node {V = ℕ} 0 (1 ∷ 1 ∷ 1 ∷ [])) { role = Leading zero_ballot 1; round = 4 })).posts ≡ packet 0 1 (Ask 0) ∷ packet 0 2 (Ask 0) ∷ []
a_restarted_proposer_asks_the_others = refl

-- after a restart, a leader keeps its round
pub a_restart_keeps_the_round : (restarted (record (new_node {V = ℕ} 0 (1 ∷ [])) { role = Leading zero_ballot 1; round = 4 })).node.round ≡ 4
a_restart_keeps_the_round = refl

-- after a restart, a leader is idle
pub a_restart_gives_the_role_up : (restarted (record (new_node {V = ℕ} 0 (1 ∷ [])) { role = Leading zero_ballot 1; round = 4 })).node.role ≡ Idle
a_restart_gives_the_role_up = refl
