use Rattle.scope.proofs.Words.{◌≡◌, ◌++◌, ℕ, List, true, drop, can_push}
use Rattle.scope.proofs.accept.push_each.Given as goal

abbrev pub invariant-loop-number : goal.invariant-loop-number
invariant-loop-number l = record {
  apart : can_push l.stack (drop l.number-index l.numbers) ≡ true;
  rest : l.stack ++ drop l.number-index l.numbers ≡ l.initial.stack ++ l.numbers;
  more : (more : List ℕ) × (l.stack ≡ l.initial.stack ++ more);
}
