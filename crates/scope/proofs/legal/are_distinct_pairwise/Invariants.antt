use Rattle.scope.proofs.Words.{◌+◌, ◌<◌, ◌≡◌, true, take, ◌++◌, length, ◌^◌, all_different}
use Rattle.scope.proofs.legal.are_distinct_pairwise.Given as goal

abbrev pub invariant-loop-i : goal.invariant-loop-i
invariant-loop-i l = record {
  split : take l.i l.words ++ l.word-iterator ≡ l.words;
  size : l.i + length l.word-iterator ≡ length l.words;
  fits : length l.words < 2 ^ 64;
  differ : all_different (take l.i l.words) ≡ true;
}
