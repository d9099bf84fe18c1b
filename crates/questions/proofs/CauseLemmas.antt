-- The cause for a `$p` that is not proved.
use Rattle.std.proofs.Common.{◌≡◌, ◌∙◌, ◌+◌, ◌-◌, ◌<◌, ◌≤◌, ℕ, zero, suc, Option, Some, None, cond, ap, arith, refl, sym}
use Rattle.std.proofs.lemmas.Option.{slice_get-get_or}
use Rattle.std.specs.Prelude.{length}
use Rattle.library.specs.Words.{Database, Stmt, is_unfinished, proof_of, stmt_at}
use Rattle.library.specs.declared.verdict.Cause.{Cause}
use Rattle.library.specs.declared.verdict.Cause.TheVariants.{Proof, Unfinished}
use Rattle.mm_read.specs.declared.stmt.Stmt.TheVariants.{Open}
use Rattle.questions.specs.AllFaults.{unproved_cause}
use Rattle.unproved.specs.Unproved.{CauseAt, IsPositionOf}

stands : (S : Database) (at : ℕ) → IsPositionOf (length S) at → stmt_at S at ≡ None → ⊥
stands S zero within none = omega (arith, within.0)
stands S (suc k) within none =
    let some = slice_get-get_or S k Open (omega (arith, within.1)) in
    different (sym some ∙ none)
  where
    different : {s : Stmt} → ◌≡◌ {A = Option Stmt} (Some s) None → ⊥
    different e = cc

pub cause_is : (S : Database) (at : ℕ) (why : Cause) → IsPositionOf (length S) at → CauseAt S at why → why ≡ unproved_cause (stmt_at S at) at
cause_is S at why within told = by (stmt_at S at) refl why told
  where
    by : (o : Option Stmt) → stmt_at S at ≡ o → (why : Cause) → CauseAt S at why → why ≡ unproved_cause o at
    by None e why told = absurd (stands S at within e)
    by (Some s) e (Proof n) told = ap Proof told.0 ∙ sym (ap (λ b. cond b (Unfinished at) (Proof at)) (told.1 s e))
    by (Some s) e (Unfinished n) told = ap Unfinished told.0 ∙ sym (ap (λ b. cond b (Unfinished at) (Proof at)) (told.1 s e))
    by (Some s) e why told = absurd told
