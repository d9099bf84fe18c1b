use Rattle.places.proofs.Words.{◌∙◌, ◌+◌, ◌++◌, ◌∷◌, [], ap, refl, words, Span}
use Rattle.places.specs.Misread.{laid_out}
use Rattle.places.proofs.MisreadLemmas.{laid-step}
use Rattle.places.proofs.misread.lay_out.Goals as goal

pub loop-span-preserved : goal.loop-span-preserved
loop-span-preserved c =
    let d : Span = record { start = 0; end = 0 } in
    laid-step c.args.text.now c.args.piece.now c.loop-span.span-index (c.loop-span.span-index + 1) d c.loop-span.bytes.items c.push.new.self.items (laid_out (words c.args.text.now c.args.piece.now))
    c.loop-span-test.true refl (c.in_ok-push.ensures.items ∙ ap (λ b. b ++ 32 ∷ []) c.in_ok-extend_from_slice.ensures.items) c.loop-span.invariant
