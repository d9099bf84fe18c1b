use Rattle.subst.proofs.Words.{sym, ◌∙◌, arith}
use Rattle.subst.proofs.ImageRangesLemmas.{image-some, image-none}
use Rattle.subst.proofs.MatchLemmas.{head-goes, head-fails}
use Rattle.subst.proofs.matching.skip_image.Goals as goal

pub returns-in-Some-clause-some : goal.returns-in-Some-clause-some
returns-in-Some-clause-some c = rw (image-some c.args.symbols.now c.args.images.now c.args.symbol c.in-Some.range (sym c.get.ensures ∙ c.in-Some.is)) c.skip_range.ensures.some

pub returns-in-Some-clause-none : goal.returns-in-Some-clause-none
returns-in-Some-clause-none c = rw (image-some c.args.symbols.now c.args.images.now c.args.symbol c.in-Some.range (sym c.get.ensures ∙ c.in-Some.is)) c.skip_range.ensures.none

pub returns-in-None-clause-some : goal.returns-in-None-clause-some
returns-in-None-clause-some c = (
  omega (arith, c.if-at-end.true),
  head-goes c.args.symbols.now _ c.args.symbol c.args.at c.args.end (image-none c.args.symbols.now c.args.images.now c.args.symbol (sym c.get.ensures ∙ c.in-None.is)) c.if-at-end.true c.requires.rest.1 c.if-symbols-at.true,
)

pub returns-in-None-2-2-clause-none : goal.returns-in-None-2-2-clause-none
returns-in-None-2-2-clause-none c more =
    head-fails c.args.symbols.now _ more c.args.symbol c.args.at c.args.end (image-none c.args.symbols.now c.args.images.now c.args.symbol (sym c.get.ensures ∙ c.in-None.is)) c.requires.rest.0 c.requires.rest.1
    (λ some. absurd (omega (arith, some, c.if-at-end.false)))

pub returns-in-None-2-clause-none : goal.returns-in-None-2-clause-none
returns-in-None-2-clause-none c more =
    head-fails c.args.symbols.now _ more c.args.symbol c.args.at c.args.end (image-none c.args.symbols.now c.args.images.now c.args.symbol (sym c.get.ensures ∙ c.in-None.is)) c.requires.rest.0 c.requires.rest.1
    (λ some first. c.if-symbols-at.false first)
