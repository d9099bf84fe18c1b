use Rattle.frame.specs.MandatoryPairs.{has_number}
use Rattle.subst.proofs.Words.{◌≡◌, ◌==◌, ◌&&◌, not, false, take, list_any, code_image, images_at}
use Rattle.subst.proofs.violation.first_with.Given as goal

-- no image so far has the symbol
abbrev pub invariant-loop-other : goal.invariant-loop-other
invariant-loop-other l = list_any (λ y. not (l.x == y) && has_number (code_image (images_at l.symbols l.images) y) l.symbol) (take l.other-index l.others) ≡ false
