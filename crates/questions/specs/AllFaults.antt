-- The lines of `check --all`: a line for each fault, and how many `$p` are proved.
-- Source: this project's form.
use Rattle.std.specs.Prelude.{ℕ, ◌-◌, ◌++◌, List, codes, decimal, if◌then◌else◌, Option, Some, None}
use Rattle.library.specs.Words.{Database, Stmt, is_unfinished, proof_of, stmt_at}
use Rattle.library.specs.declared.verdict.Cause.{Cause}
use Rattle.library.specs.declared.verdict.Cause.TheVariants as cause
use Rattle.library.specs.declared.verdict.Verdict.TheVariants.{Refused}
use Rattle.printed.specs.Printed.{verdict_text}
use Rattle.questions.specs.declared.all_faults.FaultLine.{FaultLine}
use Rattle.questions.specs.declared.all_faults.FaultLine.TheVariants.{RefusedByte, Misread, LeftOut, Unproved, OpenBlock}
use Rattle.scope.specs.declared.rule.Rule.TheVariants.{G10}

-- the line of a refusal
abbrev pub refusal_line : Cause → List ℕ
refusal_line why = verdict_text (Refused why) ++ codes "\n"

-- the line that counts the `$p`: all of them, and those that are not proved
abbrev pub counted_line : ℕ → ℕ → List ℕ
counted_line all unproved = codes "proved " ++ decimal (all - unproved) ++ codes " of " ++ decimal all ++ codes "\n"

-- the cause for a `$p` that is not proved: that it is unfinished exactly if a token of its proof has
-- the byte `?`
abbrev pub unproved_cause : Option Stmt → ℕ → Cause
unproved_cause None at = cause.Proof at
unproved_cause (Some s) at = if is_unfinished (proof_of s) then cause.Unfinished at else cause.Proof at

-- the line of the `$p` at a position that is not proved
abbrev pub unproved_line : Database → ℕ → List ℕ
unproved_line S at = refusal_line (unproved_cause (stmt_at S at) at)

-- the cause for a fault of a text
abbrev pub cause_of : FaultLine → Cause
cause_of (RefusedByte offset) = cause.Text
cause_of (Misread token) = cause.Shape
cause_of (LeftOut index position rule) = cause.Rule position rule
cause_of (Unproved kept_at position unfinished) = if unfinished then cause.Unfinished position else cause.Proof position
cause_of (OpenBlock position) = cause.Rule position G10

-- the line of a fault of a text
abbrev pub fault_line : FaultLine → List ℕ
fault_line fault = refusal_line (cause_of fault)
