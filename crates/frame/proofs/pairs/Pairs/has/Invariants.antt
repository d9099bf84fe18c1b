use Rattle.frame.proofs.Words.{◌≡◌, ◌==◌, length, list_any}
use Rattle.frame.proofs.pairs.Pairs.has.Given as goal

abbrev pub invariant-loop-symbols : goal.invariant-loop-symbols
invariant-loop-symbols l = list_any (λ list. list_any (λ c. l.y == c) list) l.disjoints ≡ list_any (λ list. list_any (λ c. l.y == c) list) l.initial.disjoints

abbrev pub decreases-loop-symbols : goal.decreases-loop-symbols
decreases-loop-symbols l = length l.disjoints
