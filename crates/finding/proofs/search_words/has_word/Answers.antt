use Rattle.finding.proofs.PatternPrelude.{◌≡◌, false, arith, sym, refl, length, below_more, both_ways, eqb-true, eqb-false}
use Rattle.finding.proofs.HasWordLemmas.{alike_at, alike_back, word_at, empty_word, no_word}
use Rattle.finding.proofs.search_words.has_word.Goals as goal

pub loop-index-preserved : goal.loop-index-preserved
loop-index-preserved c =
    below_more _ _ c.loop-index.invariant
    (λ alike. both_ways false refl (c.if-starts_with_ignore_case.ensures.1 (alike_at c.args.text.now c.args.word.now _ _ c.split_at.ensures.back alike)))

pub returns-then-starts_with_ignore_case : goal.returns-then-starts_with_ignore_case
returns-then-starts_with_ignore_case c =
    (λ _. word_at c.args.text.now c.args.word.now c.loop-index.index (alike_back c.args.text.now c.args.word.now _ _ c.split_at.ensures.back (c.if-starts_with_ignore_case.ensures.0 refl)), λ _. refl)

pub returns-then-is_empty : goal.returns-then-is_empty
returns-then-is_empty c = (λ _. empty_word c.args.text.now c.args.word.now (eqb-true _ _ (sym c.if-is_empty.ensures)), λ _. refl)

pub returns : goal.returns
returns c = (
  λ t. absurd (both_ways false refl t),
  λ has. absurd (no_word c.args.text.now c.args.word.now
      (λ k far alike. let some : length c.args.word.now ≡ 0 → ⊥ = eqb-false _ _ (sym c.if-is_empty.ensures) in c.loop-index.invariant k (omega (arith, some, far)) alike) has),
)
