use Rattle.verify.proofs.Words.{◌&&◌, [], take, take_all, arith, sym, ◌∙◌, ap, subst, list_all, list_all_more, get_or_from_slice_get, slice_get_within, images_at, images_of_names, is_numbered_list_disjoint}
use Rattle.frame.proofs.PairDisjointLemmas.{list-disjoint}
use Rattle.verify.proofs.ItemCountLemmas.{passed_on}
use Rattle.verify.proofs.PairCountLemmas.{count-kept, list-inside, made-more, past-made}
use Rattle.verify.specs.CitedPairs.{IsCitedList, cited_lists}
use Rattle.verify.specs.Counted.{AreMadeCounted}
use Rattle.verify.proofs.disjointness.are_lists_disjoint.Goals as goal

pub make_list-requires-clause-index : goal.make_list-requires-clause-index
make_list-requires-clause-index c = omega (arith, c.loop-index-test.true, c.in_ok-count.ensures.count)

pub list_at-list-requires : goal.list_at-list-requires
list_at-list-requires c = λ kept. omega (arith, c.loop-index-test.true, c.in_ok-count.ensures.count, count-kept c.args.cited.now c.args.pairs.now.names c.requires.cited kept)

pub is_list_disjoint-requires-clause-below : goal.is_list_disjoint-requires-clause-below
is_list_disjoint-requires-clause-below c =
    let m = subst (IsCitedList c.args.cited.now c.loop-index.index) (sym c.list_at-list.ensures) c.in_ok-make_list.ensures.list in
    list-inside c.args.cited.now c.args.pairs.now.names c.loop-index.index c.list_at-list.result.now c.requires.cited m

pub loop-index-preserved : goal.loop-index-preserved
loop-index-preserved c =
    let v = c.args.pairs.now in
    let σ = images_at c.args.symbols.now c.args.images.now in
    let test = is_numbered_list_disjoint v σ in
    let lists = cited_lists c.args.cited.now in
    let i = c.loop-index.index in
    let list = c.list_at-list.result.now in
    let m = subst (IsCitedList c.args.cited.now i) (sym c.list_at-list.ensures) c.in_ok-make_list.ensures.list in
    record {
      read = c.in_ok-all.ensures.read;
      counted = made-more v σ lists i m.whole list c.loop-index.disjoint_images c.is_list_disjoint.new.disjoint_images m.stands m.reordered c.loop-index.invariant.counted c.in_ok-all.ensures.counted;
      begun = c.make_list.ensures.begun;
      left = c.is_list_disjoint.ensures.left ∙ c.loop-index.invariant.left;
      told = ap (λ b. b && c.in_ok-all.field-0) c.loop-index.invariant.told
          ∙ (ap (λ b. list_all test (take i lists) && b)
          (c.in_ok-all.ensures.disjoint ∙ (list-disjoint v.statements (images_of_names v.names σ) v.names m.whole list m.reordered ∙ ap test (sym (get_or_from_slice_get lists i m.whole [] m.stands))))
          ∙ sym (list_all_more test lists i [] (slice_get_within lists i m.whole m.stands)));
    }

pub returns-in_err-all-clause-costly : goal.returns-in_err-all-clause-costly
returns-in_err-all-clause-costly c =
    let m = subst (IsCitedList c.args.cited.now c.loop-index.index) (sym c.list_at-list.ensures) c.in_ok-make_list.ensures.list in
    passed_on c.from_residual-in_err-all.result c.in_err-all.field-0.0 _ c.from_residual-in_err-all.ensures.1
    (λ is. past-made c.args.pairs.now (images_at c.args.symbols.now c.args.images.now) c.args.disjoint_images.now.left (cited_lists c.args.cited.now) c.loop-index.index m.whole
    c.list_at-list.result.now c.loop-index.disjoint_images m.stands m.reordered c.loop-index.invariant.left c.loop-index.invariant.counted (c.in_err-all.ensures.costly is))

pub returns-clause-disjoint : goal.returns-clause-disjoint
returns-clause-disjoint c =
    let all = take_all c.loop-index.index (cited_lists c.args.cited.now) (omega (arith, c.loop-index-test.false, c.in_ok-count.ensures.count)) in
    c.loop-index.invariant.told ∙ ap (list_all (is_numbered_list_disjoint c.args.pairs.now (images_at c.args.symbols.now c.args.images.now))) all

pub returns-clause-counted : goal.returns-clause-counted
returns-clause-counted c =
    let all = take_all c.loop-index.index (cited_lists c.args.cited.now) (omega (arith, c.loop-index-test.false, c.in_ok-count.ensures.count)) in
    subst (λ ls. AreMadeCounted c.args.pairs.now (images_at c.args.symbols.now c.args.images.now) ls c.loop-index.disjoint_images) all c.loop-index.invariant.counted
