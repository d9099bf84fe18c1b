-- The next statement after an offset into a text, by the tokens from there to the statement's end,
-- or why there is none.
-- Source: Metamath, 4.1.
-- The functions that read one statement cite these; `Reads` defines reading for a whole text.
use Rattle.std.specs.Prelude.{◌≡◌, ℕ, ◌<◌, List, [], ◌∷◌, ◌++◌, Option, Some, None}
use Rattle.mm_lex.specs.Alphabet.{Name}
use Rattle.mm_lex.specs.Between.{AreTokensBetween, AreTokensAfter, IsCommentFaultAfter}
use Rattle.mm_read.specs.declared.stmt.Stmt.{Stmt}
use Rattle.mm_read.specs.declared.fault.ReadFault.{ReadFault}
use Rattle.mm_read.specs.declared.fault.ReadFault.TheVariants.{Text, Shape, Memory}
use Rattle.mm_read.specs.Statements.{Database, IsShaped, AreShaped, stmt_tokens, tokens_of}
use Rattle.mm_read.specs.Reads.{IsShapeFault}

-- the tokens from one offset to the other are those of this statement
pub record IsNext (text : List ℕ) (at : ℕ) (s : Stmt) (next : ℕ) : Type 0 where
  pub shaped : IsShaped s
  pub later : at < next
  pub between : AreTokensBetween text at next (stmt_tokens s)

-- the statement s consists of the tokens `before`, which end at `at`, and the tokens from `at` to
-- `next`: from each offset from which `before` are the tokens up to `at`, the tokens up to `next`
-- are those of s
abbrev pub IsNextAfter : List ℕ → List Name → ℕ → Stmt → ℕ → Type 0
IsNextAfter text before at s next = (from : ℕ) → from < at → AreTokensBetween text from at before → IsNext text from s next

-- why no statement begins with the tokens `before`, which end at `at`: a comment fault after `at`;
-- or, if there is none, a shape fault that counts from the first of `before`; or a failed
-- allocation
abbrev pub IsFaultAfter : List ℕ → List Name → ℕ → ReadFault → Type 0
IsFaultAfter text before at (Text fault) = IsCommentFaultAfter text at fault
IsFaultAfter text before at (Shape token) = (tokens : List Name) → AreTokensAfter text at tokens → IsShapeFault (before ++ tokens) token
IsFaultAfter text before at Memory = Unit {0}

-- the new list has one more statement, the next one in the text, which ends at `next`
pub record IsOneMore (text : List ℕ) (at next : ℕ) (old new : Database) : Type 0 where
  pub statement : Stmt
  pub whole : new ≡ old ++ statement ∷ []
  pub next_is : IsNext text at statement next

-- one step of reading: the list has one more statement, which ends at `next` (`Some`); or no token
-- is left and the list is unchanged (`None`)
abbrev pub IsNextStep : List ℕ → ℕ → Database → Database → Option ℕ → Type 0
IsNextStep text at old new (Some next) = IsOneMore text at next old new
IsNextStep text at old new None = AreTokensAfter text at [] × (new ≡ old)

-- the tokens up to an offset read as these statements
pub record ReadsUpTo (text : List ℕ) (at : ℕ) (S : Database) : Type 0 where
  pub shaped : AreShaped S
  pub between : AreTokensBetween text 0 at (tokens_of S)

-- why a text whose bytes are all allowed is refused: a comment fault, or else a shape fault or a
-- failed allocation
abbrev pub IsFaultOf : List ℕ → ReadFault → Type 0
IsFaultOf text (Text fault) = IsCommentFaultAfter text 0 fault
IsFaultOf text (Shape token) = (tokens : List Name) × AreTokensAfter text 0 tokens × IsShapeFault tokens token
IsFaultOf text Memory = (tokens : List Name) × AreTokensAfter text 0 tokens
