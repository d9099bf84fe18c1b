-- A frame, and the frames of a database, as contracts see them.
use Rattle.std.specs.Prelude.{ℕ, List}
use Rattle.frame.specs.Words.{Name, Expr, Database}

-- hypotheses by position, the lists of disjoint variables, and the conclusion
pub record FrameParts : Type 0 where
  pub hypotheses : List ℕ
  pub groups : List (List Name)
  pub conclusion : Expr

-- the statements without their proofs, and the name that each number stands for
pub record Numbered : Type 0 where
  pub statements : Database
  pub names : List Name

-- the variables of an assertion, and the list of one of them and those before it
pub record VariablePairs : Type 0 where
  pub variables : List ℕ
  pub list : List ℕ
