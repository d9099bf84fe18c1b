-- The state of the pass over the statements.
-- Source: none; for the private functions.
-- The code has a vector for the list of each statement.
use Rattle.std.specs.Prelude.{◌≡◌, ◌⊎◌, ℕ, suc, ◌-◌, ◌<◌, ◌≤◌, IsTrue, List, [], ◌∷◌, ◌++◌, length, map, get_or, Option, Some, None}
use Rattle.std.specs.Global.{Vec}
use Rattle.mm_read.specs.Statements.{Database}
use Rattle.library.specs.Uses.{Cites, Uses, IsAxiomAt}
use Rattle.frame.specs.Stored.Hypotheses.{In, ListsExactly}

-- the elements of each of these vectors, as a list
abbrev pub lists_of : List (Vec ℕ) → List (List ℕ)
lists_of vectors = map (λ (v : Vec ℕ). v.items) vectors

-- an optional position as a list
abbrev pub position_list : Option ℕ → List ℕ
position_list None = []
position_list (Some position) = position ∷ []

-- `last_rounds` has for each position the last round in which it was added, or 0; the positions of
-- this round are in the list
pub record IsRoundTable (list last_rounds : List ℕ) (round : ℕ) : Type 0 where
  pub counts_from_one : 0 < round
  pub not_later : (k : ℕ) → get_or last_rounds k 0 ≤ round
  pub listed : (k : ℕ) → get_or last_rounds k 0 ≡ round → In k list

-- citing the statement at c adds the position p to a list of axioms: p is c, and a `$a` is there;
-- or p is in the list of c
abbrev pub AddsAxiom : Database → List (List ℕ) → ℕ → ℕ → Type 0
AddsAxiom S lists c p = (IsAxiomAt S c × (p ≡ c)) ⊎ In p (get_or lists (c - 1) [])

-- each position is one of 1 to `count`
abbrev pub AreWithin : ℕ → List ℕ → Type 0
AreWithin count positions = (p : ℕ) → In p positions → (0 < p) × (p ≤ count)

-- the lists of exactly these positions are extended at their ends by the position `at` of a citing
-- statement
pub record AreExtendedAt (at : ℕ) (positions : List ℕ) (old new : List (List ℕ)) : Type 0 where
  pub count : length new ≡ length old
  pub those : (k : ℕ) → In (suc k) positions → get_or new k [] ≡ get_or old k [] ++ at ∷ []
  pub others : (k : ℕ) → (In (suc k) positions → ⊥) → get_or new k [] ≡ get_or old k []

-- `axioms` has for each of the first n statements the `$a` that it rests on; `cited_by` has for
-- every statement those of the first n that cite it
pub record AreListsOfFirst (S : Database) (n : ℕ) (axioms cited_by : List (List ℕ)) : Type 0 where
  pub within : n ≤ length S
  pub axioms_count : length axioms ≡ n
  pub cited_by_count : length cited_by ≡ length S
  pub axioms_are : (k : ℕ) → k < n → ListsExactly (Uses S (suc k)) (get_or axioms k [])
  pub cited_by_are : (k : ℕ) → k < length S → ListsExactly (λ j. (j ≤ n) × Cites S j (suc k)) (get_or cited_by k [])
