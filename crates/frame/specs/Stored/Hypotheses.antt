-- How the mandatory hypotheses are found: the active `$e`, and the `$f` of the symbols of these and
-- of the assertion.
-- Internal to the code: no public clause cites it.
use Rattle.std.specs.Prelude.{◌≡◌, ℕ, ◌+◌, ◌-◌, ◌≤◌, ◌⊎◌, Bool, true, false, List, [], ◌∷◌, length, map, slice_get, take, Some}
use Rattle.frame.specs.Words.{Stmt, Database, is_active, Kind, Float, Ess, Entry, Assertion}
use Rattle.frame.specs.declared.storage.Storage.{Storage}
use Rattle.frame.specs.FrameOf.{hypotheses}
use Rattle.frame.specs.Ascending.{Ascends}
use Rattle.frame.specs.Stored.EntryMeanings.{IsLastFloat, statements_of}
use Rattle.frame.specs.MandatoryPairs.{AreReordered}
use Rattle.frame.specs.Stored.AssertionParts.{stored_pairs, symbols_at, typecode_at, hypothesis_at}

-- ---- lists of positions

-- the number is in the list
abbrev pub In : ℕ → List ℕ → Type 0
In p [] = ⊥
In p (q ∷ qs) = (p ≡ q) ⊎ In p qs

-- the list has exactly those for which P holds, in ascending order, each once
pub record ListsExactly (P : ℕ → Type 0) (list : List ℕ) : Type 0 where
  pub ascends : Ascends list
  pub all : (p : ℕ) → P p → In p list
  pub only : (p : ℕ) → In p list → P p

-- the new list has exactly those of the old list, and those for which P holds
pub record HasMore (P : ℕ → Type 0) (old new : List ℕ) : Type 0 where
  pub stays : (p : ℕ) → In p old → In p new
  pub all : (p : ℕ) → P p → In p new
  pub only : (p : ℕ) → In p new → In p old ⊎ P p

-- p is the position of the last `$f` of the symbol c, which is active after all entries
pub record IsFloatOf (es : List Entry) (S : Database) (c p : ℕ) : Type 0 where
  pub last : IsLastFloat c 1 es p
  pub stands : is_active S p (length S + 1) ≡ true

-- p is the position of the `$f` of the symbol c that is active after the first i statements
abbrev pub IsFloatAfter : Storage → ℕ → ℕ → ℕ → Type 0
IsFloatAfter k i c p = IsFloatOf (take i k.entries) (take i (statements_of k)) c p

-- P relates one of the list to p
pub record HoldsForSome (P : ℕ → ℕ → Type 0) (list : List ℕ) (p : ℕ) : Type 0 where
  pub one : ℕ
  pub among : In one list
  pub is : P one p

-- p is the position of the active `$f` of one of the symbols
abbrev pub IsFloatOfSome : Storage → ℕ → List ℕ → ℕ → Type 0
IsFloatOfSome k i codes p = HoldsForSome (IsFloatAfter k i) codes p

-- p is the position q of a `$e`, or that of the active `$f` of one of its symbols
abbrev pub IsWithEssential : Storage → ℕ → ℕ → ℕ → Type 0
IsWithEssential k i q p = (p ≡ q) ⊎ IsFloatOfSome k i (symbols_at k.entries q) p

-- the kind is that of a `$f` or a `$e`
abbrev pub is_hypothesis_entry : Kind → Bool
is_hypothesis_entry Float = true
is_hypothesis_entry Ess = true
is_hypothesis_entry kind = false

-- the statement at each of the positions is a `$f` or `$e`
abbrev pub AreHypotheses : List Entry → List ℕ → Type 0
AreHypotheses es [] = Unit {0}
AreHypotheses es (p ∷ ps) = ((e : Entry) × (1 ≤ p) × (slice_get es (p - 1) ≡ Some e) × (is_hypothesis_entry e.kind ≡ true)) × AreHypotheses es ps

-- the parts have these hypotheses, also as numbers, and their typecodes
pub record AreDescribed (es : List Entry) (ps : List ℕ) (d : Assertion) : Type 0 where
  pub same : d.hypotheses ≡ ps
  pub numbered_made : d.numbered_hypotheses ≡ map (hypothesis_at es) d.hypotheses
  pub typecodes_made : d.typecodes ≡ map (typecode_at es) d.hypotheses

-- the parts are those of an assertion after the statements S with these mandatory hypotheses: they
-- also have the mandatory pairs by the `$d` that are active after S
pub record IsFilledFrom (es : List Entry) (S : Database) (ps : List ℕ) (d : Assertion) : Type 0 where
  pub described : AreDescribed es ps d
  pub pairs_made : AreReordered (stored_pairs es S d.numbered_hypotheses) d.groups

-- if the parts of the statement s, which follows the statements S, are whole, they have its
-- mandatory hypotheses and pairs
abbrev pub IsKeptAs : List Entry → Database → Stmt → Assertion → Type 0
IsKeptAs es S s d = d.whole ≡ true → IsFilledFrom es S (hypotheses S s) d

-- the parts are those of an assertion with these mandatory hypotheses, if they are whole; each
-- hypothesis has its number and its typecode
pub record ArePartsOf (es : List Entry) (S : Database) (ps : List ℕ) (d : Assertion) : Type 0 where
  pub paired : length d.numbered_hypotheses ≡ length d.hypotheses
  pub typecodes_counted : length d.typecodes ≡ length d.hypotheses
  pub kept : d.whole ≡ true → IsFilledFrom es S ps d
