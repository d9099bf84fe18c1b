-- Which positions a walk over citations has marked.
-- Source: none; for the private functions of `axioms_used` and `cited_by`.
-- The marks are a list with one flag for each position, the first for position 1; they are not the
-- marks of proof code.
use Rattle.std.specs.Prelude.{◌≡◌, ◌⊎◌, ◌↔◌, ℕ, zero, suc, ◌≤◌, Bool, true, false, List, [], ◌∷◌, ◌++◌, length, map, if◌then◌else◌, Option, Some, None, slice_index_or, slice_set}
use Rattle.library.specs.Words.{Name, name_eq, has_name, Stmt, Database, Carries, Item, right_parenthesis}
use Rattle.frame.specs.AtPosition.{ArePositions}
use Rattle.proof_code.specs.ItemNumbers.{items_of}
use Rattle.library.specs.Uses.{ItemsCite, Cites, IsAxiomAt}

-- whether the position, if there is one, is marked
abbrev pub is_marked : List Bool → Option ℕ → Bool
is_marked marks (Some (suc k)) = slice_index_or marks k false
is_marked marks o = false

-- for each of these positions, whether it is marked
abbrev pub marks_at : List Bool → List ℕ → List Bool
marks_at marks positions = map (λ position. is_marked marks (Some position)) positions

-- the position is marked
abbrev pub IsMarked : List Bool → ℕ → Type 0
IsMarked marks a = is_marked marks (Some a) ≡ true

-- the marks, with the position marked too
abbrev pub mark : Option ℕ → List Bool → List Bool
mark (Some (suc k)) marks = slice_set marks k true
mark o marks = marks

-- the position that the item of a number cites, where these are the positions of its labels
abbrev pub cited_position : List (Option ℕ) → ℕ → Option ℕ
cited_position label_positions zero = None
cited_position label_positions (suc n) = slice_index_or label_positions n None

-- the marks, with the positions that the items of these numbers cite marked too
abbrev pub mark_items : List (Option ℕ) → List ℕ → List Bool → List Bool
mark_items label_positions [] marks = marks
mark_items label_positions (number ∷ numbers) marks = mark_items label_positions numbers (mark (cited_position label_positions number) marks)

-- for each label, whether what it names is marked
pub record AreLabelMarks (S : Database) (labels : List Name) (marks label_marks : List Bool) : Type 0 where
  pub label_positions : List (Option ℕ)
  pub named : ArePositions S labels label_positions
  pub tests : label_marks ≡ map (is_marked marks) label_positions

-- the positions that pass and have a flag in the list are marked, in addition to those marked
-- before
pub record Marks (Passes : ℕ → Type 0) (old new : List Bool) : Type 0 where
  pub count : length new ≡ length old
  pub kept : (a : ℕ) → IsMarked old a → IsMarked new a
  pub sound : (a : ℕ) → IsMarked new a → IsMarked old a ⊎ Passes a
  pub whole : (a : ℕ) → a ≤ length old → Passes a → IsMarked new a

-- a `$a` is at that position, and is marked
abbrev pub IsMarkedAxiom : Database → List Bool → ℕ → Type 0
IsMarkedAxiom S marks a = IsMarked marks a × IsAxiomAt S a

-- an item cites a statement that is marked
abbrev pub ItemsCiteMarked : Database → List Item → List Bool → Type 0
ItemsCiteMarked S items marks = (a : ℕ) × IsMarked marks a × ItemsCite S items a

-- `found` is whether an item of the numbers cites a marked statement, where the first labels are
-- those of these mandatory hypotheses, by position, and the listed labels follow
abbrev pub DecidesNumbersCiteMarked : Database → List Bool → List ℕ → List Name → List ℕ → Bool → Type 0
DecidesNumbersCiteMarked S marks mandatory listed numbers found =
    (labels : List Name) → AreLabelMarks S labels marks (marks_at marks mandatory) → found ≡ true ↔ ItemsCiteMarked S (items_of (labels ++ listed) numbers) marks

-- the proof of the statement at a position cites a statement that is marked
abbrev pub ProofCitesMarked : Database → ℕ → List Bool → Type 0
ProofCitesMarked S at marks = (a : ℕ) × IsMarked marks a × Cites S at a

-- the tokens before `)`: the `(` of a compressed proof and the labels that it lists, or all tokens
-- of a normal proof
abbrev pub listed_in : List Name → List Name
listed_in [] = []
listed_in (token ∷ tokens) = if name_eq token right_parenthesis then [] else token ∷ listed_in tokens

-- none of those tokens is the label of a statement that is marked
abbrev pub ListsNone : Database → List Name → List Bool → Type 0
ListsNone S tokens marks = (a : ℕ) (s : Stmt) (label : Name) → IsMarked marks a → Carries S a s label → has_name label (listed_in tokens) ≡ false

-- one of those tokens is the label of a statement that is marked
pub record ListsSome (S : Database) (tokens : List Name) (marks : List Bool) : Type 0 where
  pub position : ℕ
  pub stmt : Stmt
  pub label : Name
  pub marked : IsMarked marks position
  pub carries : Carries S position stmt label
  pub listed : has_name label (listed_in tokens) ≡ true
