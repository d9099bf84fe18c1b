use Rattle.frame.specs.MandatoryPairs.{has_number}
use Rattle.subst.proofs.Words.{◌≡◌, ◌||◌, Bool, true, false, nat_eq, refl, sym, ◌∙◌, ap}
use Rattle.subst.proofs.ImageRangesLemmas.{image-none, image-some}
use Rattle.subst.proofs.violation.has_in_image.Goals as goal

pub returns-in-Some : goal.returns-in-Some
returns-in-Some c =
    c.has_one.ensures
    ∙ ap (λ l. has_number l c.args.symbol) (c.symbols_at.ensures ∙ sym (image-some c.args.symbols.now c.args.images.now c.args.y c.in-Some.range (sym c.get.ensures ∙ c.in-Some.is)))

pub returns-in-None : goal.returns-in-None
returns-in-None c =
    alone (nat_eq c.args.y c.args.symbol) ∙ ap (λ l. has_number l c.args.symbol) (sym (image-none c.args.symbols.now c.args.images.now c.args.y (sym c.get.ensures ∙ c.in-None.is)))
  where
    alone : (b : Bool) → b ≡ (b || false)
    alone true = refl
    alone false = refl
