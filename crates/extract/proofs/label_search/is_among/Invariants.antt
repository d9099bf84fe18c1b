use Rattle.std.proofs.Common.{◌≡◌, false, map, take}
use Rattle.mm_lex.specs.Alphabet.{has_name}
use Rattle.extract.proofs.label_search.is_among.Given as goal

abbrev pub invariant-loop-other : goal.invariant-loop-other
invariant-loop-other l = has_name l.label (map (λ label. label.now) (take l.other-index l.labels)) ≡ false
