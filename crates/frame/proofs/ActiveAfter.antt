-- The statements that are active after some statements.
use Rattle.frame.proofs.Words.{list_any, ◌∙◌, ap, arith, ◌≡◌, ℕ, ◌+◌, Bool, true, false, cond, ◌||◌, [], ◌∷◌, ◌++◌, refl, not, or_left, or_right, Stmt, Database, stays_open, active_from, below-deficit, deficit-below, no_deficit}
use Rattle.frame.proofs.OpenLemmas.{deficit-join}

-- ---- tests

-- if a implies b and a holds, b holds
pub implied : (a b : Bool) → (not a || b) ≡ true → a ≡ true → b ≡ true
implied true b h e = h
implied false b h e = cc

-- ---- the active statements

-- a statement of S that passes the test and is active after S
pub record Stands (S : Database) (q : Stmt → Bool) : Type 0 where
  pub front : Database
  pub stmt : Stmt
  pub rest : Database
  pub whole : S ≡ front ++ stmt ∷ rest
  pub stays : stays_open 0 rest ≡ true
  pub passes : q stmt ≡ true

pub active-stands : (q : Stmt → Bool) (n : ℕ) (S : Database) → list_any (λ p. q p.1) (active_from n S) ≡ true → Stands S q
active-stands q n [] h = cc
active-stands q n (s ∷ S) h = by (active-stands q (n + 1) S) (stays_open 0 S) refl h
  where
    later : Stands S q → Stands (s ∷ S) q
    later r =
        record { front = s ∷ r.front; stmt = r.stmt; rest = r.rest; whole = ap (λ t. s ∷ t) r.whole; stays = r.stays; passes = r.passes }

    here : (list_any (λ p. q p.1) (active_from (n + 1) S) ≡ true → Stands S q) → stays_open 0 S ≡ true → (b : Bool) → q s ≡ b → (b || list_any (λ p. q p.1) (active_from (n + 1) S)) ≡ true → Stands (s ∷ S) q
    here more opens true passes e = record { front = []; stmt = s; rest = S; whole = refl; stays = opens; passes = passes }
    here more opens false passes e = later (more e)

    by : (list_any (λ p. q p.1) (active_from (n + 1) S) ≡ true → Stands S q) → (b : Bool) → stays_open 0 S ≡ b → list_any (λ p. q p.1) (cond b ((n, s) ∷ active_from (n + 1) S) (active_from (n + 1) S)) ≡ true → Stands (s ∷ S) q
    by more true opens e = here more opens (q s) refl e
    by more false opens e = later (more e)

pub stands-active : (q : Stmt → Bool) (n : ℕ) (front : Database) (s : Stmt) (rest : Database) → stays_open 0 rest ≡ true → q s ≡ true → list_any (λ p. q p.1) (active_from n (front ++ s ∷ rest)) ≡ true
stands-active q n [] s rest opens passes =
    ap (λ b. list_any (λ p. q p.1) (cond b ((n, s) ∷ active_from (n + 1) rest) (active_from (n + 1) rest))) opens ∙ or_left (q s) (list_any (λ p. q p.1) (active_from (n + 1) rest)) passes
stands-active q n (t ∷ front) s rest opens passes = by (stands-active q (n + 1) front s rest opens passes) (stays_open 0 (front ++ s ∷ rest))
  where
    by : (list_any (λ p. q p.1) (active_from (n + 1) (front ++ s ∷ rest)) ≡ true) → (b : Bool) → list_any (λ p. q p.1) (cond b ((n, t) ∷ active_from (n + 1) (front ++ s ∷ rest)) (active_from (n + 1) (front ++ s ∷ rest))) ≡ true
    by more true = or_right (q t) (list_any (λ p. q p.1) (active_from (n + 1) (front ++ s ∷ rest))) more
    by more false = more

-- if neither of two lists closes a block that was open before it, neither do both together
pub open_both : (d : ℕ) (T U : Database) → stays_open d T ≡ true → stays_open 0 U ≡ true → stays_open d (T ++ U) ≡ true
open_both d T U h k = below-deficit d (T ++ U) (omega (arith, deficit-join T U, deficit-below d T h, no_deficit U k))
