use Rattle.synod.proofs.Words.{ℕ, ◌+◌, ◌-◌, length, ◌∙◌, arith, reports_of_pages, IsHighestTable}
use Rattle.synod.proofs.HighestReportsLemmas.{fill_next, value_at}
use Rattle.synod.proofs.leading.post_reported_values.Goals as goal

pub loop-highest-preserved : goal.loop-highest-preserved
loop-highest-preserved g c =
    let items = c.deref-highest-items.result.now in
    let i : ℕ = c.loop-highest.highest-index in
    let highest : IsHighestTable c.args.first items (reports_of_pages c.args.pages.now) = rw c.deref-highest-items.ensures.value c.in_ok-table.ensures.highest in
    let value = c.in_ok-value.ensures ∙ value_at c.args.first items (reports_of_pages c.args.pages.now) highest i c.loop-highest.slot c.highest-item.result (omega arith) c.highest-item.is c.loop-highest.invariant.slot in
    let slot = c.loop-highest.invariant.slot in
    record {
      slot = omega (arith, slot);
      posted = fill_next c.args.me c.args.weights.now c.args.ballot c.loop-highest.slot (length items - i) (length items - (i + 1)) (reports_of_pages c.args.pages.now) c.in_ok-value.value c.loop-highest.posts.items c.post_broadcast.new.posts.items
          c.in_ok-post_broadcast.ensures value (omega arith) ∙ c.loop-highest.invariant.posted;
    }
