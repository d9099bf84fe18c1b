use Rattle.names.proofs.Words.{◌∙◌, ap, arith, slice_range}
use Rattle.names.proofs.NameListLemmas.{ascending-in, name-at}
use Rattle.names.proofs.name_list.part.Goals as goal

pub slice_bounds-result-count : goal.slice_bounds-result-count
slice_bounds-result-count c = let h = ascending-in _ 0 c.args.ends.now c.args.index c.item-to.result c.requires.ascending c.item-to.ensures in let s = c.start-from.ensures in omega (arith, h.0, s)

pub slice_bounds-result-end : goal.slice_bounds-result-end
slice_bounds-result-end c = let h = ascending-in _ 0 c.args.ends.now c.args.index c.item-to.result c.requires.ascending c.item-to.ensures in let s = c.start-from.ensures in omega (arith, h.0, h.1, s)

pub slice_bounds-result-start : goal.slice_bounds-result-start
slice_bounds-result-start c = let h = ascending-in _ 0 c.args.ends.now c.args.index c.item-to.result c.requires.ascending c.item-to.ensures in let s = c.start-from.ensures in omega (arith, h.0, h.1, s)

pub returns : goal.returns
returns c = ap (λ from. slice_range c.args.bytes.now from c.item-to.result) c.start-from.ensures ∙ name-at c.args.bytes.now 0 c.args.ends.now c.args.index c.item-to.result c.item-to.ensures
