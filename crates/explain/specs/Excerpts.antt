-- The beginning of an expression, as a reason has it.
-- Source: this project's; an expression that a hypothesis requires may be too long to be written.
-- The code has numbers; a reason is about names.
use Rattle.std.specs.Prelude.{◌≡◌, ℕ, List, length, take}
use Rattle.explain.specs.Words.{Name, Expr, decode}
use Rattle.explain.specs.declared.excerpt.Excerpt.{Excerpt}
use Rattle.explain.specs.declared.excerpt.TheConstants.{EXCERPT_LEN}

-- the first symbols of this expression, by number, and its length
pub record IsExcerpt (e : List ℕ) (excerpt : Excerpt) : Type 0 where
  pub symbols : excerpt.symbols.items ≡ take EXCERPT_LEN e
  pub len : excerpt.len ≡ length e

-- the first symbols of this expression, by name, and its length
pub record IsExcerptOf (names : List Name) (e : Expr) (excerpt : Excerpt) : Type 0 where
  pub symbols : decode names excerpt.symbols.items ≡ take EXCERPT_LEN e
  pub len : excerpt.len ≡ length e
