use Rattle.verify.proofs.Words.{◌≡◌, ◌∙◌, ◌-◌, ◌<◌, suc, drop, length, map, arith, ap, refl, subst, Some, slice_get_within, symbols_in, images_at, within-at}
use Rattle.subst.proofs.ImageRangesLemmas.{inside-set}
use Rattle.verify.proofs.GivenImageLemmas.{given-float, given-skip, no_range}
use Rattle.verify.specs.HypothesisResults.{AreGiven}
use Rattle.verify.proofs.results.read_tails.Goals as goal

pub without_first-requires : goal.without_first-requires
without_first-requires c =
    let k = c.loop-k.k - 1 in
    let inside : k < length c.args.places.now = (let within = slice_get_within c.args.hypotheses.now k c.get.result c.get.ensures in omega (arith, within, c.requires.same)) in
    (within-at c.requires.within.0 k c.args.places.now no_range c.requires.within.1 inside).0

pub loop-k-preserved-in-Continue-1 : goal.loop-k-preserved-in-Continue-1
loop-k-preserved-in-Continue-1 c =
    let hs = c.args.hypotheses.now in
    let places = c.args.places.now in
    let k = c.loop-k.k - 1 in
    let next : c.loop-k.k ≡ suc k = omega (arith, c.loop-k-test.true) in
    let inside : k < length places = (let within = slice_get_within hs k c.get.result c.get.ensures in omega (arith, within, c.requires.same)) in (
      λ symbols. given-float symbols hs places k inside c.loop-k.images c.set.new.self
          (subst (λ n. AreGiven (drop n hs) (map (symbols_in symbols) (drop n places)) (images_at symbols c.loop-k.images)) next (c.loop-k.invariant.0 symbols))
          c.in-Float.variable no_range c.without_first.result (c.get.ensures ∙ ap Some c.in-Float.is) (c.without_first.ensures.symbols symbols) c.in_ok-set.ensures.ok,
      λ n within. inside-set n c.loop-k.images c.set.new.self c.in-Float.variable c.without_first.result (c.loop-k.invariant.1 n within) c.in_ok-set.ensures.ok c.without_first.ensures.inside.0
          (let high = (within-at n k places no_range within inside).1 in let same = c.without_first.ensures.inside.1 in omega (arith, high, same)),
    )

pub loop-k-preserved : goal.loop-k-preserved
loop-k-preserved c =
    let hs = c.args.hypotheses.now in
    let places = c.args.places.now in
    let k = c.loop-k.k - 1 in
    let next : c.loop-k.k ≡ suc k = omega (arith, c.loop-k-test.true) in
    let inside : k < length places = (let within = slice_get_within hs k c.get.result c.get.ensures in omega (arith, within, c.requires.same)) in (
      λ symbols. given-skip symbols hs places k inside c.loop-k.images c.loop-k.images
          (subst (λ n. AreGiven (drop n hs) (map (symbols_in symbols) (drop n places)) (images_at symbols c.loop-k.images)) next (c.loop-k.invariant.0 symbols))
          c.in_default.field-0 no_range (c.get.ensures ∙ ap Some c.in_default.is) refl,
      c.loop-k.invariant.1,
    )
