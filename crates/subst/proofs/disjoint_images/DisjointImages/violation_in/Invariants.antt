use Rattle.subst.proofs.Words.{true, HasReadOnly, image_named, images_at}
use Rattle.subst.proofs.PairwiseLemmas.{Decides}
use Rattle.subst.proofs.disjoint_images.DisjointImages.violation_in.Given as goal

-- the images of the numbers so far are disjoint
abbrev pub invariant-loop-i : goal.invariant-loop-i
invariant-loop-i l = record {
  read : HasReadOnly l.pairs (images_at l.symbols l.images) l.self;
  decides : Decides l.pairs.statements (image_named l.pairs.names (images_at l.symbols l.images)) l.group l.i true;
}
