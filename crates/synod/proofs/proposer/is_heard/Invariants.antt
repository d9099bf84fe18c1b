use Rattle.synod.proofs.Words.{◌≡◌, drop, is_heard}
use Rattle.synod.proofs.proposer.is_heard.Given as goal

abbrev pub invariant-loop-one : goal.invariant-loop-one
invariant-loop-one l = is_heard (drop l.one-index l.heard) l.fn.node ≡ is_heard l.heard l.fn.node
