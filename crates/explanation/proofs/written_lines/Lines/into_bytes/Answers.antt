use Rattle.std.proofs.Common.{arith, ◌++◌, ap, ◌∙◌}
use Rattle.explanation.specs.Cut.{cut_line}
use Rattle.explanation.proofs.written_lines.Lines.into_bytes.Goals as goal
use Rattle.explanation.proofs.written_lines.Lines.into_bytes.Goals.{then-len-gt-MAX_BYTES+in_ok-extend_from_slice, else-len-gt-MAX_BYTES}

pub returns-clause-cut : goal.returns-clause-cut
returns-clause-cut c = λ long. elim c.if-len-gt-MAX_BYTES.branch [
  | then-len-gt-MAX_BYTES+in_ok-extend_from_slice w ↦ rw w.bytes-is (w.in_ok-extend_from_slice.ensures.items ∙ ap (λ front. front ++ cut_line) w.truncate.ensures.items)
  | else-len-gt-MAX_BYTES w ↦ (let few = w.if-len-gt-MAX_BYTES.false in let n = c.len.ensures in absurd (omega (arith, few, n, long)))
]
