-- The statements that are left when each that breaks a rule is left out.
-- Source: Metamath, 4.2 (the rules); that all others are judged is this project's choice.
-- The code asks the rules of each statement after those that were kept.
use Rattle.std.specs.Prelude.{◌≡◌, ℕ, suc, ◌-◌, length, nat_lt, if◌then◌else◌, List, [], ◌∷◌, ◌++◌, replicate, Option, Some, None}
use Rattle.library.specs.Words.{Stmt, Database}
use Rattle.mm_read.specs.declared.stmt.Stmt.TheVariants.{Open, Close}
use Rattle.scope.specs.Active.{bare, bares}
use Rattle.scope.specs.Legal.{broken_rule}
use Rattle.scope.specs.declared.rule.Rule.{Rule}
use Rattle.unproved.specs.declared.legal_part.LegalPart.{LegalPart}
use Rattle.unproved.specs.declared.legal_part.LeftOut.{LeftOut}
use Rattle.unproved.specs.declared.legal_part.Sifter.{Sifter}

-- the statements that are kept, and those that are left out
pub record Sifted : Type 0 where
  pub kept : Database
  pub left_out : List LeftOut

abbrev pub both : Database → List LeftOut → Sifted
both kept left_out = record { kept = kept; left_out = left_out }

-- a statement by its position, and the least rule that it breaks, if any: it is kept or left out
abbrev pub sift_by : Sifted → ℕ → Stmt → Option Rule → Sifted
sift_by w at s None = record { kept = w.kept ++ s ∷ []; left_out = w.left_out }
sift_by w at s (Some rule) = record { kept = w.kept; left_out = w.left_out ++ (record { position = at; rule = rule; statement = s }) ∷ [] }

-- one statement more
unfoldable pub sift_one : Sifted → ℕ → Stmt → Sifted
sift_one w at s = sift_by w at s (broken_rule w.kept s)

-- the statements from a position on
abbrev pub sift_from : Sifted → ℕ → Database → Sifted
sift_from w at [] = w
sift_from w at (s ∷ S) = sift_from (sift_one w at s) (suc at) S

-- the statements of a text
abbrev pub sifted : Database → Sifted
sifted S = sift_from (both [] []) 1 S

-- the statements of the frames after a statement that breaks this rule, if any
abbrev pub frames_after : Option Rule → Database → Stmt → Database
frames_after None S s = S ++ bare s ∷ []
frames_after (Some rule) S s = S

-- these statements are divided so, with the rules and the frames of those that are kept
pub record IsSifted (S : Database) (w : Sifter) : Type 0 where
  pub same : w.rules.statements ≡ w.frames.statements
  pub frames : w.frames.statements ≡ bares w.kept.items
  pub count : w.position ≡ length S
  pub kept : w.kept.items ≡ (sifted S).kept
  pub left_out : w.left_out.items ≡ (sifted S).left_out

-- how many blocks are open after a statement
abbrev pub open_step : ℕ → Stmt → ℕ
open_step depth Open = suc depth
open_step depth Close = depth - 1
open_step depth s = depth

-- how many blocks are open at the end
abbrev pub open_after : ℕ → Database → ℕ
open_after depth [] = depth
open_after depth (s ∷ S) = open_after (open_step depth s) S

-- the statements, and a `$}` for each block that is open at their end
abbrev pub closed : Database → Database
closed S = S ++ replicate (open_after 0 S) Close

-- the statements that are kept, their blocks closed, how many were open, and those that are left out
pub record IsLegalPart (S : Database) (part : LegalPart) : Type 0 where
  pub kept : part.database ≡ closed (sifted S).kept
  pub open_blocks : part.open_blocks ≡ open_after 0 (sifted S).kept
  pub left_out : part.left_out.items ≡ (sifted S).left_out

-- the position in the text of the statement at a position among those that are kept: each that is
-- left out up to there counts too
abbrev pub text_position : List LeftOut → ℕ → ℕ
text_position [] at = at
text_position (l ∷ left_out) at = if nat_lt at l.position then at else text_position left_out (suc at)
