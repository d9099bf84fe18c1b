use Rattle.places.proofs.Words.{◌∙◌, ◌++◌, ap, words}
use Rattle.std.specs.Prelude.{slice_range}
use Rattle.places.specs.Misread.{statements}
use Rattle.places.proofs.misread.read_next.Goals as goal

pub returns-in_ok-extend_from_slice-in-Ok-clause-read : goal.returns-in_ok-extend_from_slice-in-Ok-clause-read
returns-in_ok-extend_from_slice-in-Ok-clause-read c =
    let text = c.args.text.now in
    let spans = c.args.spans.now in
    let at = c.args.at in
    let old = c.args.reading.now in
    let end = c.piece_end-end.ensures.end in
    statements at old.statements.items c.in-Ok.statements.items old.spans.items c.requires.before c.requires.inside c.in-Ok.ensures.shaped
    (c.in-Ok.ensures.written ∙ ap (λ e. words text (slice_range spans at e)) end) end c.in_ok-append-in-Ok.ensures.items
    (c.in_ok-extend_from_slice-in-Ok.ensures.items ∙ ap (λ e. old.spans.items ++ slice_range spans at e) end)
