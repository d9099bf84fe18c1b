use Rattle.std.proofs.Common.{ℕ, ◌<◌}
use Rattle.finding.proofs.HasWordLemmas.{IsAlikeAt}
use Rattle.finding.proofs.search_words.has_word.Given as goal

abbrev pub invariant-loop-index : goal.invariant-loop-index
invariant-loop-index l = (k : ℕ) → k < l.index → IsAlikeAt l.text l.word k → ⊥
