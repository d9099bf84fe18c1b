use Rattle.verify.proofs.Words.{◌≡◌, take, list_all, images_at, is_numbered_list_disjoint, HasReadOnly}
use Rattle.verify.specs.CitedPairs.{IsBegun, cited_lists}
use Rattle.verify.specs.Counted.{AreMadeCounted}
use Rattle.verify.proofs.disjointness.are_lists_disjoint.Given as goal

-- the answer for the lists so far
abbrev pub invariant-loop-index : goal.invariant-loop-index
invariant-loop-index l = record {
  read : HasReadOnly l.pairs (images_at l.symbols l.images) l.disjoint_images;
  counted : AreMadeCounted l.pairs (images_at l.symbols l.images) (take l.index (cited_lists l.cited)) l.disjoint_images;
  begun : IsBegun l.cited l.made;
  left : l.disjoint_images.left ≡ l.fn.disjoint_images.left;
  told : l.all ≡ list_all (is_numbered_list_disjoint l.pairs (images_at l.symbols l.images)) (take l.index (cited_lists l.cited));
}
