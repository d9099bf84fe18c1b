use Rattle.verify.proofs.Words.{sym, ap, ◌∙◌, code_image, image-none, image-some, symbols_in}
use Rattle.verify.proofs.results.Results.image.Goals as goal

pub returns-in-Some : goal.returns-in-Some
returns-in-Some c =
    c.symbols_at.ensures
    ∙ (ap (λ ys. symbols_in ys c.in-Some.range) c.as_slice.ensures.symbols
    ∙ (sym (image-some c.self.inside.symbols c.self.inside.images c.args.symbol c.in-Some.range (sym c.get.ensures ∙ c.in-Some.is)) ∙ ap (λ v. code_image v.images c.args.symbol) c.self.view_is))

pub returns-in-None : goal.returns-in-None
returns-in-None c = ap (λ v. code_image v.images c.args.symbol) (sym c.self.view_is) ∙ image-none c.self.inside.symbols c.self.inside.images c.args.symbol (sym c.get.ensures ∙ c.in-None.is)
