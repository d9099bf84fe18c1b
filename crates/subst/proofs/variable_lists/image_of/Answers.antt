use Rattle.subst.proofs.Words.{sym, ◌∙◌}
use Rattle.subst.proofs.ImageRangesLemmas.{image-some, image-none}
use Rattle.subst.proofs.variable_lists.image_of.Goals as goal

pub returns-in-Some : goal.returns-in-Some
returns-in-Some c = c.symbols_at.ensures ∙ sym (image-some c.args.symbols.now c.args.images.now c.args.symbol c.in-Some.range (sym c.get.ensures ∙ c.in-Some.is))

pub returns-in-None : goal.returns-in-None
returns-in-None c = c.requires.own ∙ sym (image-none c.args.symbols.now c.args.images.now c.args.symbol (sym c.get.ensures ∙ c.in-None.is))
