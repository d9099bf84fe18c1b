use Rattle.unproved.proofs.Words.{◌≡◌, drop, length, AreShaped, assumed}
use Rattle.unproved.proofs.legal_database.make_axioms.Given as goal

abbrev pub invariant-loop-at : goal.invariant-loop-at
invariant-loop-at l = record {
  count : length l.statements.items ≡ length l.fn.statements.items;
  shaped : AreShaped l.statements.items;
  left : assumed l.statements.items (drop l.at-index l.unproved) ≡ assumed l.fn.statements.items l.unproved;
}
