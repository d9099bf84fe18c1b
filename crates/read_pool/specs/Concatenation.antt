-- Two lists of statements as one.
-- Source: this project's choice; for the private function `concatenate` of `src/parts`.
-- The code moves the second list to the end of the first.
use Rattle.std.specs.Prelude.{◌≡◌, ◌++◌, Option, Some, None, Vec}
use Rattle.std.specs.declared.alloc.Global.{Global}
use Rattle.mm_read.specs.declared.stmt.Stmt.{Stmt}
use Rattle.mm_read.specs.Statements.{Database}

-- neither list is `None`, and S has the statements of the first followed by those of the second
abbrev pub IsConcatenation : Option (Vec Stmt Global) → Option (Vec Stmt Global) → Database → Type 0
IsConcatenation (Some first) (Some second) S = S ≡ first.items ++ second.items
IsConcatenation (Some first) None S = ⊥
IsConcatenation None second S = ⊥
