use Rattle.subst.proofs.Words.{◌≡◌, true, take, list_all, HasReadOnly, are_numbers_disjoint, image_named, images_at}
use Rattle.subst.proofs.violation.first_violation.Given as goal

-- the images of the groups so far are disjoint
abbrev pub invariant-loop-k : goal.invariant-loop-k
invariant-loop-k l = record {
  read : HasReadOnly l.pairs (images_at l.symbols l.images) l.disjoint_images;
  told : list_all (are_numbers_disjoint l.pairs.statements (image_named l.pairs.names (images_at l.symbols l.images))) (take l.k l.groups) ≡ true;
}
