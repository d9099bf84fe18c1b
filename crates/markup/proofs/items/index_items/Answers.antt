use Rattle.std.specs.Prelude.{◌≤◌, ◌++◌, map, IfSome}
use Rattle.std.proofs.Common.{arith, ap, sym, subst, ◌∙◌}
use Rattle.std.proofs.lemmas.List.{append-nil}
use Rattle.markup.specs.IndexItems.{item_view, items_of}
use Rattle.markup.proofs.MarkupLemmas.{items_on, items_end, comment_on, comment_before}
use Rattle.markup.proofs.items.index_items.Goals as goal

pub loop-span-init : goal.loop-span-init
loop-span-init c = record {
  within = omega arith;
  comment = tt;
  listed = ap (λ l. map item_view l ++ items_of c.args.text.now) c.new-items.ensures.items;
}

pub push_items_of_run-requires-clause-comment : goal.push_items_of_run-requires-clause-comment
push_items_of_run-requires-clause-comment c =
    comment_before c.loop-span.walk.comment c.loop-span.at c.in-Some.span.start c.in-Some.ensures.later c.loop-span.invariant.comment

pub loop-span-preserved : goal.loop-span-preserved
loop-span-preserved c =
    let some = c.in-Some.ensures.is_run.some in
    let later = c.in-Some.ensures.later in
    let before : c.loop-span.at ≤ c.in-Some.span.end = omega (arith, some, later) in
    record {
      within = c.in-Some.ensures.is_run.within;
      comment = subst (λ walk. IfSome walk.comment (λ s. s ≤ c.in-Some.span.end)) (sym c.in_ok-next.ensures)
          (comment_on c.loop-span.walk.comment _ c.in-Some.span c.loop-span.at before c.loop-span.invariant.comment);
      listed = items_on c.args.text.now c.loop-span.walk _ c.loop-span.at c.in-Some.span _ _ _ c.loop-span.invariant.listed c.in-Some.ensures.run c.in_ok-push_items_of_run.ensures c.in_ok-next.ensures;
    }

pub returns : goal.returns
returns c =
    sym (append-nil (map item_view c.loop-span.items.items))
    ∙ items_end c.args.text.now c.loop-span.walk c.loop-span.at _ _ c.loop-span.invariant.listed c.in_default.ensures.run
