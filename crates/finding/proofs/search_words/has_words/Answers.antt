use Rattle.finding.proofs.PatternPrelude.{false, arith, refl, both_ways}
use Rattle.finding.proofs.HasWordLemmas.{all_none, all_on, all_end, not_all}
use Rattle.finding.proofs.search_words.has_words.Goals as goal

pub loop-found-init : goal.loop-found-init
loop-found-init c = record { within = omega arith; all = all_none _ _ }

pub loop-found-preserved : goal.loop-found-preserved
loop-found-preserved c = record {
  within = c.in-Some.ensures.within;
  all = all_on _ _ _ _ _ c.in-Some.ensures.first c.loop-found.invariant.all (c.if-not-has_word.ensures.0 refl);
}

pub returns-then-not-has_word : goal.returns-then-not-has_word
returns-then-not-has_word c = (
  λ t. absurd (both_ways false refl t),
  λ all. absurd (not_all _ _ _ _ _ c.in-Some.ensures.first c.loop-found.invariant.all (λ has. both_ways false refl (c.if-not-has_word.ensures.1 has)) all),
)

pub returns : goal.returns
returns c = (λ _. all_end _ _ _ c.loop-found.invariant.all c.in_default.ensures.first, λ _. refl)
