use Rattle.subst.proofs.Words.{length, arith, sym, ◌∙◌, ap, CodeImages, code_image, symbols_in}
use Rattle.subst.proofs.ImageRangesLemmas.{image-some, image-none}
use Rattle.subst.proofs.images.Subst.image.Goals as goal

pub symbols_at-requires : goal.symbols_at-requires
symbols_at-requires c =
    let w = c.self.invariant.each c.args.symbol c.in_ok-range.range (sym c.get.ensures ∙ c.in_ok-range.was) in
    (w.0, omega (arith, w.1, ap length c.as_slice.ensures.symbols))

pub returns-clause-some : goal.returns-clause-some
returns-clause-some c =
    c.symbols_at.ensures
    ∙ (ap (λ s. symbols_in s c.in_ok-range.range) c.as_slice.ensures.symbols
    ∙ (sym (image-some c.self.inside.symbols c.self.inside.images c.args.symbol c.in_ok-range.range (sym c.get.ensures ∙ c.in_ok-range.was))
    ∙ ap (λ (σ : CodeImages). code_image σ c.args.symbol) c.self.view_is))

pub returns-in_err-range-clause-none : goal.returns-in_err-range-clause-none
returns-in_err-range-clause-none c = rw c.from_residual.ensures (
    ap (λ (σ : CodeImages). code_image σ c.args.symbol) (sym c.self.view_is)
    ∙ image-none c.self.inside.symbols c.self.inside.images c.args.symbol (sym c.get.ensures ∙ c.in_err-range.was))
