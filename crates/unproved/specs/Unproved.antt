-- The `$p` that are not proved.
-- Source: Metamath, 4.2.6 and appendix B; that each is judged, whether or not earlier ones are
-- proved, is this project's choice.
-- The code judges ranges of statements one after another, and continues after each `$p` that is not
-- proved.
use Rattle.std.specs.Prelude.{◌≡◌, ℕ, ◌-◌, ◌<◌, ◌≤◌, List, [], ◌∷◌, get_or, slice_set, IsTrue, IsFalse, Some}
use Rattle.library.specs.Words.{AllLegal, AreShaped, Stmt, Database, Prove, Axiom, bares, proof_of, stmt_at, is_unfinished}
use Rattle.mm_read.specs.declared.stmt.Stmt.TheVariants.{Open}
use Rattle.library.specs.Judging.{IsProvedIfProvable}
use Rattle.library.specs.declared.verdict.Cause.{Cause}
use Rattle.library.specs.declared.verdict.Cause.TheVariants.{Proof, Unfinished}

-- the positions after `start`, up to `end`, of exactly the `$p` that are not proved, in order
abbrev pub AreUnproved : Database → ℕ → ℕ → List ℕ → Type 0
AreUnproved S start end [] = (at : ℕ) → start < at → at ≤ end → IsProvedIfProvable S at
AreUnproved S start end (at ∷ positions) =
    (start < at) × (at ≤ end) × (¬ IsProvedIfProvable S at)
    × ((m : ℕ) → start < m → m < at → IsProvedIfProvable S m) × AreUnproved S at end positions

-- the cause for the `$p` at that position: unfinished exactly if a token of its proof has the byte
-- `?`
abbrev pub CauseAt : Database → ℕ → Cause → Type 0
CauseAt S at (Proof n) =
    (n ≡ at) × ((s : Stmt) → stmt_at S at ≡ Some s → IsFalse (is_unfinished (proof_of s)))
CauseAt S at (Unfinished n) =
    (n ≡ at) × ((s : Stmt) → stmt_at S at ≡ Some s → IsTrue (is_unfinished (proof_of s)))
CauseAt S at cause = ⊥

-- the `$a` with the label and the expression of a `$p`
abbrev pub as_axiom : Stmt → Stmt
as_axiom (Prove label expr proof) = Axiom label expr
as_axiom s = s

-- the statements, with each `$p` at one of these positions replaced by a `$a`
abbrev pub assumed : Database → List ℕ → Database
assumed S [] = S
assumed S (at ∷ positions) = assumed (slice_set S (at - 1) (as_axiom (get_or S (at - 1) Open))) positions

-- a position among `count` statements
abbrev pub IsPositionOf : ℕ → ℕ → Type 0
IsPositionOf count at = (1 ≤ at) × (at ≤ count)

-- S is well shaped and legal, and the rules and the frames have been given exactly its statements,
-- without their proofs
pub record IsLegalDatabase (rule_statements frame_statements S : Database) : Type 0 where
  pub rules_are : rule_statements ≡ bares S
  pub frames_are : frame_statements ≡ bares S
  pub shaped : AreShaped S
  pub legal : AllLegal S
