use Rattle.std.specs.Prelude.{◌≡◌, ◌-◌, ◌≤◌, ◌++◌, map, length}
use Rattle.mm_lex.specs.Alphabet.{word}
use Rattle.mm_lex.specs.Comments.{runs_after}
use Rattle.markup.specs.Descriptions.{runs_html, description_html}
use Rattle.markup.proofs.description.push_description.Given as goal

abbrev pub invariant-loop-span : goal.invariant-loop-span
invariant-loop-span g l = record {
  within : l.at ≤ length l.text;
  written : l.page.items ++ runs_html (g.L.LabelPages.page_of l.labels) l.state (map (word l.text) (runs_after l.text l.at)) ≡ l.initial.page.items ++ description_html (g.L.LabelPages.page_of l.labels) l.text;
}

abbrev pub decreases-loop-span : goal.decreases-loop-span
decreases-loop-span g l = length l.text - l.at
