use Rattle.finding.proofs.PatternPrelude.{◌∙◌, false, ap, sym, refl, str_to_ascii_lowercase, both_ways}
use Rattle.finding.proofs.HasWordLemmas.{too_short}
use Rattle.finding.proofs.search_words.starts_with_ignore_case.Goals as goal

pub returns-then-word-text : goal.returns-then-word-text
returns-then-word-text c = (
  λ t. absurd (both_ways false refl t),
  λ alike. absurd (too_short c.args.text.now c.args.word.now c.if-word-text.true alike),
)

pub returns : goal.returns
returns c = (
  λ t. ap str_to_ascii_lowercase (sym c.split_at.ensures.front) ∙ c.eq_ignore_ascii_case.ensures.test.0 t,
  λ alike. c.eq_ignore_ascii_case.ensures.test.1 (ap str_to_ascii_lowercase c.split_at.ensures.front ∙ alike),
)
