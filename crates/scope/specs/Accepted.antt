-- How contracts see a scope: the statements accepted, and those that were accepted at the last
-- mark, all without their proofs.
-- Source: this project's choice; a library goes back to its mark if a text is refused.
-- The code stores names with their kinds, stacks of numbers, and as statements only the active
-- `$f`, `$e` and `$d`.
use Rattle.mm_read.specs.Statements.{Database}

pub record Accepted : Type 0 where
  pub statements : Database
  pub marked : Database
