-- Laws about active statements and about the rules, in the book's words.
-- Source: Metamath, 4.2.8 (scoping statements) and 4.2.
-- `is_active` recurses on the statements; the law counts the `${` and `$}` in each prefix of them.
use Rattle.std.specs.Prelude.{◌≡◌, ℕ, ◌+◌, ◌-◌, ◌≤◌, ◌<◌, ◌↔◌, Bool, false, IsTrue, if◌then◌else◌, List, [], ◌∷◌, ◌++◌, length, take, drop}
use Rattle.scope.specs.Words.{list_any, Stmt, Close, Database}
use Rattle.scope.specs.Active.{count, is_open, is_close, is_active, active, active_from, bare, bares}
use Rattle.scope.specs.Legal.{broken_rule, end_rule}

-- each prefix of the statements has at most `blocks` more `$}` than `${`
abbrev pub ClosesAtMost : ℕ → Database → Type 0
ClosesAtMost blocks S = (k : ℕ) → count is_close (take k S) ≤ count is_open (take k S) + blocks

-- the statements strictly between two positions
abbrev pub between : Database → ℕ → ℕ → Database
between S i j = take (j - 1 - i) (drop i S)

-- i is active at j exactly if i is before j and no prefix of the statements between has more `$}`
-- than `${`
abbrev pub ActiveByCounts : Type 0
ActiveByCounts = (S : Database) (i j : ℕ) → IsTrue (is_active S i j) ↔ ((1 ≤ i) × (i < j) × ClosesAtMost 0 (between S i j))

-- a statement that closes no block becomes active, and the active ones stay active
abbrev pub ActiveAfterStatement : Type 0
ActiveAfterStatement = (S : Database) (s : Stmt) → is_close s ≡ false → active (S ++ s ∷ []) ≡ active S ++ (1 + length S, s) ∷ []

abbrev pub has_open : List (ℕ × Stmt) → Bool
has_open es = list_any (λ p. is_open p.1) es

-- the statements that precede the last `${`, or none if there is no `${`
abbrev pub before_open : List (ℕ × Stmt) → List (ℕ × Stmt)
before_open [] = []
before_open (p ∷ es) = if has_open es then p ∷ before_open es else []

-- after a `$}` the last open `${` and the statements that became active after it are no longer
-- active; if no block was open, no earlier statement is active
abbrev pub ActiveAfterClose : Type 0
ActiveAfterClose = (S : Database) → active (S ++ Close ∷ []) ≡ before_open (active S) ++ (1 + length S, Close) ∷ []

-- the active statements stay active after later ones that close none of the earlier blocks
abbrev pub ActiveAfterBlocks : Type 0
ActiveAfterBlocks = (S T : Database) → ClosesAtMost 0 T → active (S ++ T) ≡ active S ++ active_from (1 + length S) T

-- no rule looks at a proof
pub record RulesIgnoreProofs : Type 0 where
  pub before : (S : Database) (s : Stmt) → broken_rule (bares S) s ≡ broken_rule S s
  pub next : (S : Database) (s : Stmt) → broken_rule S (bare s) ≡ broken_rule S s
  pub at_end : (S : Database) → end_rule (bares S) ≡ end_rule S
