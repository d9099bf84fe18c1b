-- For each symbol, by its number, the active `$d` and `$v` that have it.
-- Internal to the code: no public clause cites it.
-- Metamath, 4.2.8: after a `$}` the statements that were active before its `${` are active again.
use Rattle.std.specs.Prelude.{◌≡◌, ℕ, zero, suc, ◌-◌, ◌≤◌, ◌==◌, Bool, true, if◌then◌else◌, List, [], ◌∷◌, slice_get, Some}
use Rattle.frame.specs.Words.{list_any, Mention, kept_until, mentions_of, Stmt, Database, Entry, LastActive, Kind, Disj}
use Rattle.frame.specs.LastActive.{is_disj, is_var}
use Rattle.frame.specs.Stored.AssertionParts.{symbols_at}

-- the statement at a position has the symbol c
abbrev pub has_code : List Entry → ℕ → ℕ → Bool
has_code es c p = list_any (λ x. c == x) (symbols_at es p)

-- the positions of those statements that have the symbol c, from the last one back, before those
-- that were found earlier
abbrev pub having_after : List ℕ → List Entry → ℕ → List (ℕ × Stmt) → List ℕ
having_after found es c [] = found
having_after found es c (p ∷ ps) = having_after (if has_code es c p.0 then p.0 ∷ found else found) es c ps

-- the positions of those statements that have the symbol c, from the last one back
abbrev pub positions_with : List Entry → ℕ → List (ℕ × Stmt) → List ℕ
positions_with es c ps = having_after [] es c ps

-- the statement at the position is of the kind
pub record IsOfKind (kind : Stmt → Bool) (S : Database) (p : ℕ) : Type 0 where
  pub one : 1 ≤ p
  pub statement : Stmt
  pub stands : slice_get S (p - 1) ≡ Some statement
  pub of_kind : kind statement ≡ true

-- the statement at each of the positions is of the kind
abbrev pub AreOfKind : (Stmt → Bool) → Database → List ℕ → Type 0
AreOfKind kind S [] = Unit {0}
AreOfKind kind S (p ∷ ps) = IsOfKind kind S p × AreOfKind kind S ps

-- the test for the statements of a kind that has a table: `$d` or `$v`
abbrev pub kind_test : Kind → Stmt → Bool
kind_test Disj s = is_disj s
kind_test kind s = is_var s

-- the last active statement of such a kind
abbrev pub last_by_kind : Kind → LastActive → ℕ
last_by_kind Disj l = l.disjoint
last_by_kind kind l = l.variable

-- after a `$}` the statements are active that were at this position: that of its `${`, or 1 if no
-- block is open (0)
abbrev pub opening : ℕ → ℕ
opening zero = 1
opening (suc b) = suc b

-- the mentions up to n are the same for each symbol
abbrev pub KeepsUntil : ℕ → List (List Mention) → List (List Mention) → Type 0
KeepsUntil n old new = (c : ℕ) → kept_until n (mentions_of new c) ≡ kept_until n (mentions_of old c)
