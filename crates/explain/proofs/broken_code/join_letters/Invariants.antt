use Rattle.explain.proofs.Words.{◌≡◌, ◌++◌, joined}
use Rattle.explain.proofs.broken_code.join_letters.Given as goal

abbrev pub invariant-loop-word : goal.invariant-loop-word
invariant-loop-word l = l.letters.items ++ joined l.words ≡ joined l.initial.words
