use Rattle.std.proofs.Common.{◌≡◌, ◌≤◌, drop}
use Rattle.unproved.specs.LegalPart.{open_after}
use Rattle.unproved.proofs.legal_part.count_open_blocks.Given as goal

abbrev pub invariant-loop-statement : goal.invariant-loop-statement
invariant-loop-statement l = record {
  left : open_after 0 l.statements ≡ open_after l.depth (drop l.statement-index l.statements);
  few : l.depth ≤ l.statement-index;
}
