use Rattle.places.proofs.Words.{◌≡◌, ◌==◌, ◌∙◌, ap, arith, take, length, count_by, is_byte, length-places, line_feed}
use Rattle.places.proofs.lines_and_columns.line_at.Goals as goal

pub returns : goal.returns
returns c =
    let front = take c.args.offset c.args.text.now in
    let counted : c.count.result ≡ count_by (λ b. b == line_feed) front = c.count.ensures ∙ (ap length c.memchr_iter.ensures.value ∙ length-places (is_byte line_feed) front) in
    omega (arith, counted)
