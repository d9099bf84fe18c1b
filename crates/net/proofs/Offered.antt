-- Each entry of a log is a no-operation or was offered: it is chosen, so some node voted for it, so
-- it was proposed, and a proposer proposes a value that was offered to it, a value that was
-- reported to it, or a no-operation.
use Rattle.net.proofs.Words.{ℕ, List, Option, Some, Contains-in, In-contains, quorums_meet, IsChosen, offers_of, LogEntriesWereOffered}
use Rattle.net.proofs.Ledger.{Ledger, IsBrought, IsSound}
use Rattle.net.proofs.EveryEvent.{holds_after}
use Rattle.net.proofs.LogsAgree.{log_chosen}

-- a chosen value is a no-operation or was offered, since a quorum has a member, which voted for a
-- proposal
chosen_brought : {V : Type 0} (ws : List ℕ) (offers : List V) (l : Ledger V) → IsSound ws offers l → (s : ℕ) (v : Option V) → IsChosen ws l.votes s v → IsBrought offers v
chosen_brought ws offers l sound s v c =
    let some = quorums_meet ws c.chosen.voters c.chosen.voters c.chosen.majority c.chosen.majority in
    sound.brought _ (sound.backed _ (Contains-in _ l.votes (c.chosen.voted some.0 some.1)))

-- each entry of a log is a no-operation or was offered
pub log_entries_were_offered : {V : Type 0} → LogEntriesWereOffered V
log_entries_were_offered size ws limit events w is_after k s v e =
    let h = holds_after size ws limit events w is_after in
    In-contains v (offers_of events) (chosen_brought w.weights (offers_of events) h.ledger h.sound s (Some v) (log_chosen _ w h k s (Some v) e))
