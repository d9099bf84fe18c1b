-- Why a text is not added: the first cause that holds.
-- Source: this project's profile.
-- The code stops at the first cause that it meets; here each cause states which earlier causes do
-- not hold.
use Rattle.std.specs.Prelude.{◌≡◌, ◌≢◌, ℕ, ◌+◌, ◌<◌, ◌≤◌, Bool, true, false, ◌&&◌, if◌then◌else◌, IsTrue, IsFalse, List, [], ◌∷◌, ◌++◌, length, Option, Some, None}
use Rattle.library.specs.Words.{Name, LexFault, IsLexFault, Stmt, Database, Reads, HasTokens, IsNoDatabase, proof_of, first_broken, is_unfinished, stays_open, IsProvable}
use Rattle.mm_lex.specs.declared.fault.LexFault.TheVariants as lex
use Rattle.mm_read.specs.declared.stmt.Stmt.TheVariants.{Disj, Ess}
use Rattle.scope.specs.declared.rule.Rule.{Rule as BrokenRule}
use Rattle.library.specs.declared.submission.TheConstants.{MAX_BYTES}
use Rattle.library.specs.declared.submission.Submission.{Submission}
use Rattle.library.specs.declared.verdict.Cause.{Cause}
use Rattle.library.specs.declared.verdict.Cause.TheVariants.{TooLong, TooCostly, Text, Shape, NotChartered, Rule, LeavesHypotheses, Proof, Unfinished}
use Rattle.library.specs.Charters.{first_forbidden}
use Rattle.library.specs.Good.{Good, IsProved}
use Rattle.library.specs.Work.{Stage, bytes_alone, to_statement, to_proof, counts_to, judged_counts, past_limit}

-- ---- the text alone

-- the text is within the limit on bytes, and reads as T
pub record IsReadable (text : List ℕ) (T : Database) : Type 0 where
  pub short : length text ≤ MAX_BYTES
  pub read : Reads text T

-- the text is within that limit, and a byte is not allowed or a comment is refused
pub record HasLexFault (text : List ℕ) : Type 0 where
  pub short : length text ≤ MAX_BYTES
  pub fault : LexFault
  pub is : IsLexFault text fault
  pub other : fault ≢ lex.Memory

-- the text is within that limit, and its tokens are no list of statements
pub record HasNoShape (text : List ℕ) : Type 0 where
  pub short : length text ≤ MAX_BYTES
  pub tokens : List Name
  pub has : HasTokens text tokens
  pub none : IsNoDatabase tokens

-- the text reads as T, and the charter in force, if any, forbids its author nothing in it
pub record IsAllowed (charter : Option (List ℕ)) (submission : Submission) (T : Database) : Type 0 where
  pub readable : IsReadable submission.text T
  pub allowed : first_forbidden charter submission.author T ≡ None

-- ---- the statements

-- statement n of T, after L, is the least `$p` that is not proved
pub record IsFirstUnproved (L T : Database) (n : ℕ) (s : Stmt) : Type 0 where
  pub here : IsProvable T n s
  pub unproved : ¬ IsProved (L ++ T) (length L + n)
  pub earlier : (m : ℕ) (r : Stmt) → m < n → IsProvable T m r → IsProved (L ++ T) (length L + m)

-- why the statements T are not good after L: the least rule broken, or the least `$p` that is not
-- proved
abbrev pub IsFault : Database → Database → Cause → Type 0
IsFault L T (Rule n rule) = first_broken 1 L T ≡ Some (n, rule)
IsFault L T (Proof n) =
    (s : Stmt) × (first_broken 1 L T ≡ None) × IsFirstUnproved L T n s × IsFalse (is_unfinished (proof_of s))
IsFault L T (Unfinished n) =
    (s : Stmt) × (first_broken 1 L T ≡ None) × IsFirstUnproved L T n s × IsTrue (is_unfinished (proof_of s))
IsFault L T cause = ⊥

-- a `$e` or a `$d`
abbrev pub is_condition : Stmt → Bool
is_condition (Ess label expr) = true
is_condition (Disj names) = true
is_condition s = false

-- the number, counted from n, of the first `$e` or `$d` of the statements that is active after them
abbrev pub first_left : ℕ → Database → Option ℕ
first_left n [] = None
first_left n (s ∷ T) = if is_condition s && stays_open 0 T then Some n else first_left (n + 1) T

-- the number of the first one that a text leaves active, which is asked only under a limit
abbrev pub first_leaving : Option ℕ → Database → Option ℕ
first_leaving None T = None
first_leaving (Some limit) T = first_left 1 T

-- why the statements T are refused after L, if their work is within the limit
abbrev pub IsRefusal : Option ℕ → Database → Database → Cause → Type 0
IsRefusal limit L T (Rule n rule) = IsFault L T (Rule n rule)
IsRefusal limit L T (LeavesHypotheses n) = (first_broken 1 L T ≡ None) × (first_leaving limit T ≡ Some n)
IsRefusal limit L T cause = (first_leaving limit T ≡ None) × IsFault L T cause

-- ---- the outcome, the work aside

-- the outcome of the submission after L under the charter in force, if its work is within the
-- limit: added (`None`), or a cause. Its statements are T; a text that does not read has none
abbrev pub IsOutcome : Option ℕ → Database → Option (List ℕ) → Submission → Database → Option Cause → Type 0
IsOutcome limit L charter submission T None = IsAllowed charter submission T × (first_leaving limit T ≡ None) × Good (L ++ T)
IsOutcome limit L charter submission T (Some TooLong) = ⊥
IsOutcome limit L charter submission T (Some Text) = (T ≡ []) × HasLexFault submission.text
IsOutcome limit L charter submission T (Some Shape) = (T ≡ []) × HasNoShape submission.text
IsOutcome limit L charter submission T (Some (NotChartered n)) =
    IsReadable submission.text T × (first_forbidden charter submission.author T ≡ Some n)
IsOutcome limit L charter submission T (Some cause) = IsAllowed charter submission T × IsRefusal limit L T cause

-- the submission has this outcome, and its work is within the limit until it is known
pub record IsJudgedTo (limit : Option ℕ) (L : Database) (charter : Option (List ℕ)) (submission : Submission) (T : Database) (outcome : Option Cause) : Type 0 where
  pub outcome_is : IsOutcome limit L charter submission T outcome
  pub within : past_limit limit (judged_counts L submission.text T outcome) ≡ None

-- ---- the work

-- the first broken rule, if there is one, is that of a statement after statement n
abbrev pub BreaksAfter : ℕ → Option (ℕ × BrokenRule) → Type 0
BreaksAfter n broken = (m : ℕ) (rule : BrokenRule) → broken ≡ Some (m, rule) → n < m

-- of the statements T after L nothing is refused before the stage
abbrev pub IsReachedIn : Option ℕ → Database → Database → Stage → Type 0
IsReachedIn limit L T bytes_alone = Unit {0}
IsReachedIn limit L T (to_statement n) = BreaksAfter n (first_broken 1 L T)
IsReachedIn limit L T (to_proof n) =
    (first_broken 1 L T ≡ None) × (first_leaving limit T ≡ None)
    × ((m : ℕ) (s : Stmt) → m < n → IsProvable T m s → IsProved (L ++ T) (length L + m))

-- the submission is not refused before the stage, where its statements are T
abbrev pub IsReached : Option ℕ → Database → Option (List ℕ) → Submission → Database → Stage → Type 0
IsReached limit L charter submission T bytes_alone = length submission.text ≤ MAX_BYTES
IsReached limit L charter submission T stage = IsAllowed charter submission T × IsReachedIn limit L T stage

-- the submission is judged up to the stage, and with statement n its work is past the limit there
pub record IsPastLimit (limit : Option ℕ) (L : Database) (charter : Option (List ℕ)) (submission : Submission) (n : ℕ) : Type 0 where
  pub statements : Database
  pub stage : Stage
  pub reached : IsReached limit L charter submission statements stage
  pub past : past_limit limit (counts_to L submission.text statements stage) ≡ Some n

-- why the submission is not added after L, under the charter in force and the limit
abbrev pub IsCause : Option ℕ → Database → Option (List ℕ) → Submission → Cause → Type 0
IsCause limit L charter submission TooLong = MAX_BYTES < length submission.text
IsCause limit L charter submission (TooCostly n) = IsPastLimit limit L charter submission n
IsCause limit L charter submission cause = (T : Database) × IsJudgedTo limit L charter submission T (Some cause)
