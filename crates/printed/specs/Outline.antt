-- The outline of a database: a line for each statement and one for the rules, or only one line for
-- a text that cannot be parsed.
-- Source: this project's own form; a statement's line is its export form, the rules are those of
-- Metamath, chapter 4.
-- The code appends one line after another, and finds a broken rule by a scope; here the lines are
-- joined.
use Rattle.std.specs.Prelude.{◌≡◌, ℕ, ◌+◌, List, [], ◌∷◌, ◌++◌, length, codes, decimal, Option, Some, None}
use Rattle.mm_lex.specs.TextFaults.{IsFirstBadByte, IsCommentFault}
use Rattle.mm_read.specs.declared.stmt.Stmt.{Stmt}
use Rattle.mm_read.specs.declared.stmt.Stmt.TheVariants.{Prove}
use Rattle.mm_read.specs.Statements.{Expr, Database}
use Rattle.mm_read.specs.Reads.{Reads, HasShapeFault}
use Rattle.mm_read.specs.Export.{line_of, with_proof}
use Rattle.scope.specs.declared.rule.Rule.{Rule}
use Rattle.scope.specs.Legal.{first_broken}
use Rattle.library.specs.declared.verdict.Verdict.TheVariants.{Refused}
use Rattle.library.specs.declared.verdict.Cause.TheVariants.{Rule as BrokenRule}
use Rattle.printed.specs.Printed.{verdict_text}

-- the tokens of the statement's proof
abbrev pub proof_of : Stmt → Expr
proof_of (Prove label expr proof) = proof
proof_of s = []

-- the line of a statement: its number, a space, and its export form with the number of proof tokens
-- in place of the proof
abbrev pub outline_line : ℕ → Stmt → List ℕ
outline_line number s = decimal number ++ codes " " ++ line_of (with_proof s (decimal (length (proof_of s)) ∷ []))

-- the lines of these statements, numbered from `number` on
abbrev pub outline_lines : ℕ → Database → List ℕ
outline_lines number [] = []
outline_lines number (s ∷ S) = outline_line number s ++ outline_lines (number + 1) S

-- the last line: `good`, or the first statement that breaks a rule and the least rule that it
-- breaks
abbrev pub rules_line : Option (ℕ × Rule) → List ℕ
rules_line None = codes "good\n"
rules_line (Some broken) = verdict_text (Refused (BrokenRule broken.0 broken.1)) ++ codes "\n"

-- the outline of a text that reads as these statements
abbrev pub outline_of : Database → List ℕ
outline_of S = outline_lines 1 S ++ rules_line (first_broken 1 [] S)

-- a line of words and a number
abbrev pub numbered_line : List ℕ → ℕ → List ℕ
numbered_line words number = words ++ decimal number ++ codes "\n"

-- these bytes are the outline of the text; for every text exactly one of the four premises holds,
-- by laws of mm_lex and mm_read; offsets count from 0, tokens from 1
pub record IsOutline (text bytes : List ℕ) : Type 0 where
  pub reads : (S : Database) → Reads text S → bytes ≡ outline_of S
  pub text_fault : (offset : ℕ) → IsFirstBadByte text offset → bytes ≡ numbered_line (codes "refused C2 byte ") offset
  pub comment_fault : (offset : ℕ) → IsCommentFault text offset → bytes ≡ numbered_line (codes "refused C2 byte ") offset
  pub shape_fault : (token : ℕ) → HasShapeFault text token → bytes ≡ numbered_line (codes "refused C3 token ") token
