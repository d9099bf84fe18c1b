use Rattle.nodes.proofs.MomentLemmas.{last-none}
use Rattle.nodes.proofs.shared_senders.SharedSenders.new.Goals as goal

pub invariant_of-result : goal.invariant_of-result
invariant_of-result g c = record { lock = c.requires.lock; tie = λ b. last-none 1 c.args.account.history (c.requires.none b) }
