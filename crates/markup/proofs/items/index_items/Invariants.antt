use Rattle.std.specs.Prelude.{◌≡◌, ◌-◌, ◌≤◌, ◌++◌, map, length, IfSome}
use Rattle.mm_lex.specs.Comments.{runs_after}
use Rattle.markup.specs.IndexItems.{item_view, items_from, items_of}
use Rattle.markup.proofs.items.index_items.Given as goal

abbrev pub invariant-loop-span : goal.invariant-loop-span
invariant-loop-span l = record {
  within : l.at ≤ length l.text;
  comment : IfSome l.walk.comment (λ s. s ≤ l.at);
  listed : map item_view l.items.items ++ items_from l.text l.walk (runs_after l.text l.at) ≡ items_of l.text;
}

abbrev pub decreases-loop-span : goal.decreases-loop-span
decreases-loop-span l = length l.text - l.at
