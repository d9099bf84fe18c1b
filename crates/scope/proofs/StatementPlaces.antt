-- The positions of the statements of a database.
use Rattle.scope.proofs.Words.{◌≡◌, ℕ, zero, suc, ◌≤◌, length, Some, option_map, refl, arith, slice_get-map, slice_get_within, Stmt, Database, bare, bares, stmt_at}

-- a position at which there is a statement lies within the database
pub stands-within : (S : Database) (i : ℕ) (s : Stmt) → stmt_at S i ≡ Some s → (1 ≤ i) × (i ≤ length S)
stands-within S zero s h = cc
stands-within S (suc n) s h = let m = slice_get_within S n s h in (omega arith, omega (arith, m))

-- the statements without their proofs have the same positions
pub stmt_at-bares : (S : Database) (i : ℕ) → stmt_at (bares S) i ≡ option_map bare (stmt_at S i)
stmt_at-bares S zero = refl
stmt_at-bares S (suc n) = slice_get-map bare S n
