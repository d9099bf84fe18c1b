use Rattle.subst.proofs.Words.{length, true, sym, below-at, below-take, image_named, images_at}
use Rattle.subst.proofs.PairwiseLemmas.{decides-all, decides-more}
use Rattle.subst.proofs.disjoint_images.DisjointImages.violation_in.Goals as goal

pub violation_with-requires-clause-number : goal.violation_with-requires-clause-number
violation_with-requires-clause-number c = below-at (length c.args.pairs.now.names) c.args.group.now c.loop-i.i 0 c.requires.below c.loop-i-test.true

pub violation_with-requires-clause-below : goal.violation_with-requires-clause-below
violation_with-requires-clause-below c = below-take (length c.args.pairs.now.names) c.loop-i.i c.args.group.now c.requires.below

pub loop-i-preserved : goal.loop-i-preserved
loop-i-preserved c = record {
  read = c.in_ok-violation.ensures.read;
  decides = decides-more c.args.pairs.now.statements (image_named c.args.pairs.now.names (images_at c.args.symbols.now c.args.images.now)) c.args.group.now c.loop-i.i true true c.loop-i-test.true
      c.loop-i.invariant.decides (sym (rw c.in_default.is at c.in_ok-violation.ensures.found));
}

pub returns-clause-found : goal.returns-clause-found
returns-clause-found c =
    sym (decides-all c.args.pairs.now.statements (image_named c.args.pairs.now.names (images_at c.args.symbols.now c.args.images.now)) c.args.group.now c.loop-i.i true c.loop-i-test.false c.loop-i.invariant.decides)
