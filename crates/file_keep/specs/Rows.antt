-- The rows of three trees, which say the kept part of a node.
-- Source: Lamport, Paxos Made Simple, 2.5: an acceptor keeps its promise and the proposal that it
-- accepted last; three tables, so that a later ballot for the same value writes no value again.
-- The code writes the rows that a change changes. Here are the rows of a whole record.
use Rattle.std.specs.Prelude.{◌≡◌, ℕ, suc, pos, List, [], ◌∷◌, Option, Some, None}
use Rattle.std.specs.Int.{cast_signed, w64}
use Rattle.file_keep.specs.Words.{KeptPart, Ballot, AcceptedEntry, Row, Value, Int, Null, Trees}
use Rattle.file_keep.specs.declared.rows.TheConstants.{ACCEPTED, TEXTS, NODE}
use Rattle.file_keep.specs.declared.rows.SlotTree.{SlotTree}
use Rattle.file_keep.specs.declared.rows.SlotTree.TheVariants.{Accepted, Texts}

-- an unsigned number of 64 bits as a column; SQLite's integers are signed, so from 2^63 on it is
-- the number less 2^64
abbrev pub number : ℕ → Value
number n = Int (cast_signed w64 n)

-- A row is its rowid, then NULL for the column of the rowid, then the other columns.

abbrev pub row_at : ℕ → List Value → Row
row_at id columns = Int (pos id) ∷ Null ∷ columns

-- the rows of the slots that have an entry, from a slot on
abbrev pub rows_from : {T : Type 0} → (T → List Value) → ℕ → List (Option T) → List Row
rows_from columns slot [] = []
rows_from columns slot (None ∷ xs) = rows_from columns (suc slot) xs
rows_from columns slot (Some x ∷ xs) = row_at slot (columns x) ∷ rows_from columns (suc slot) xs

-- the row of a slot that has an entry, or none
abbrev pub rows_of : {T : Type 0} → (T → List Value) → ℕ → Option T → List Row
rows_of columns slot None = []
rows_of columns slot (Some x) = row_at slot (columns x) ∷ []

-- the columns of `accepted`: the ballot of the accepted entry
abbrev pub ballot_columns : {V : Type 0} → AcceptedEntry V → List Value
ballot_columns entry = number entry.ballot.round ∷ Int (pos entry.ballot.node) ∷ []

-- the columns of `texts`: those of the value, or none for the no-operation
abbrev pub value_columns : {V : Type 0} → (V → List Value) → Option V → List Value
value_columns columns None = []
value_columns columns (Some v) = columns v

abbrev pub text_columns : {V : Type 0} → (V → List Value) → AcceptedEntry V → List Value
text_columns columns entry = value_columns columns entry.value

-- what a file says: the kept part, and the number of changes
pub record Content (V : Type 0) : Type 0 where
  pub kept : KeptPart V
  pub changes : ℕ

-- the row of `node`
abbrev pub node_row_of : Ballot → ℕ → ℕ → Row
node_row_of promise round changes = row_at 0 (number promise.round ∷ Int (pos promise.node) ∷ number round ∷ number changes ∷ [])

abbrev pub node_row : {V : Type 0} → Content V → Row
node_row content = node_row_of content.kept.promise content.kept.round content.changes

-- the trees say this, and nothing else
pub record Says {V : Type 0} (columns : V → List Value) (trees : Trees) (content : Content V) : Type 0 where
  pub accepted : trees ACCEPTED ≡ rows_from ballot_columns 0 content.kept.accepted
  pub texts : trees TEXTS ≡ rows_from (text_columns columns) 0 content.kept.accepted
  pub node : trees NODE ≡ node_row content ∷ []

-- the columns of a slot in the one tree and in the other
abbrev pub columns_in : {V : Type 0} → (V → List Value) → SlotTree → AcceptedEntry V → List Value
columns_in columns Accepted = ballot_columns
columns_in columns Texts = text_columns columns

abbrev pub number_of : SlotTree → ℕ
number_of Accepted = ACCEPTED
number_of Texts = TEXTS
