use Rattle.std.proofs.Common.{Bor, List, ℕ, ◌∙◌, ap}
use Rattle.std.specs.Prelude.{codes, option_map}
use Rattle.printed.specs.Counted.{counted_lines_text}
use Rattle.program.proofs.node_answers.shown_answer.Goals as goal

pub returns : goal.returns
returns c = (
  option_map (λ (d : Bor (List ℕ)). d.now) c.bytes_of.result,
  c.in_ok-lines.lines.items,
  c.in_ok-lines.ensures,
  c.in_ok-counted_lines.ensures ∙ ap (counted_lines_text (codes "show")) c.as_slice.ensures.value,
)
