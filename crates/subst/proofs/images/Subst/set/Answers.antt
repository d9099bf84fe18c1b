use Rattle.subst.proofs.Words.{◌++◌, length, nat_eq, cond, refl, ◌∙◌, ap, CodeImages, code_image, images_at}
use Rattle.subst.proofs.SymbolRangeLemmas.{seen-last}
use Rattle.subst.proofs.ImageRangesLemmas.{image-set}
use Rattle.subst.proofs.images.Subst.set.Goals as goal

pub returns-in-Ok-clause-ok : goal.returns-in-Ok-clause-ok
returns-in-Ok-clause-ok c x =
    let xs = c.self.inside.symbols in
    let ys = c.args.image.now in
    let p = c.range_between-range.result in
    let added = c.in_ok-extend.ensures.added in
    ap (λ s. code_image (images_at s c.set.new.self) x) added
    ∙ (image-set xs ys c.self.inside.images c.set.new.self c.args.symbol p x c.self.invariant c.in-Ok.ensures.ok
    (seen-last xs ys (xs ++ ys) p refl (c.range_between-range.ensures.0 ∙ c.len-start.ensures.len) (c.range_between-range.ensures.1 ∙ (c.len.ensures.len ∙ ap length added)))
    ∙ ap (λ (σ : CodeImages). cond (nat_eq x c.args.symbol) ys (code_image σ x)) c.self.view_is)
