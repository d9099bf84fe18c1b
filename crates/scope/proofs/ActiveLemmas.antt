-- The active statements after one more statement.
use Rattle.scope.proofs.Words.{◌≡◌, ℕ, zero, suc, ◌+◌, ◌-◌, ◌≤◌, Bool, true, false, cond, List, [], ◌∷◌, ◌++◌, length, take, refl, flat_map, ◌∙◌, ap, sym, arith, true≢false, take_at, flat_map-append, or_parts, Stmt, Open, Close, Database, ClosesAtMost, has_open, before_open, count, stays_open, active_from, is_open, is_close}

-- a statement that is no `$}` closes no block
pub stays_open-append : (d : ℕ) (S : Database) (s : Stmt) → is_close s ≡ false → stays_open d (S ++ s ∷ []) ≡ stays_open d S
stays_open-append d [] Close h = cc
stays_open-append d [] s h = refl
stays_open-append d (Open ∷ S) s h = stays_open-append (suc d) S s h
stays_open-append zero (Close ∷ S) s h = refl
stays_open-append (suc d) (Close ∷ S) s h = stays_open-append d S s h
stays_open-append d (t ∷ S) s h = stays_open-append d S s h

pub cond-append : {A : Type 0} (b : Bool) (x : A) (xs ys : List A) → cond b (x ∷ (xs ++ ys)) (xs ++ ys) ≡ cond b (x ∷ xs) xs ++ ys
cond-append true x xs ys = refl
cond-append false x xs ys = refl

-- a statement that is no `$}` is active, and the earlier ones stay as they are
pub active_from-append : (at : ℕ) (S : Database) (s : Stmt) → is_close s ≡ false → active_from at (S ++ s ∷ []) ≡ active_from at S ++ (at + length S, s) ∷ []
active_from-append at [] s h = ap (λ n. (n, s) ∷ []) (grind arith)
active_from-append at (t ∷ S) s h =
    ap (λ b. cond b ((at, t) ∷ active_from (at + 1) (S ++ s ∷ [])) (active_from (at + 1) (S ++ s ∷ []))) (stays_open-append 0 S s h)
    ∙ (ap (λ r. cond (stays_open 0 S) ((at, t) ∷ r) r) (active_from-append (at + 1) S s h)
    ∙ (cond-append (stays_open 0 S) (at, t) (active_from (at + 1) S) ((at + 1 + length S, s) ∷ [])
    ∙ ap (λ n. cond (stays_open 0 S) ((at, t) ∷ active_from (at + 1) S) (active_from (at + 1) S) ++ (n, s) ∷ []) (place at (length S))))
  where
    place : (a n : ℕ) → a + 1 + n ≡ a + suc n
    place a n = omega arith

-- ---- how many of the blocks that are open before the statements they close

abbrev pub deficit : Database → ℕ
deficit [] = 0
deficit (Open ∷ S) = deficit S - 1
deficit (Close ∷ S) = suc (deficit S)
deficit (s ∷ S) = deficit S

pub deficit-below : (d : ℕ) (S : Database) → stays_open d S ≡ true → deficit S ≤ d
deficit-below d [] h = omega arith
deficit-below d (Open ∷ S) h = omega (arith, deficit-below (suc d) S h)
deficit-below zero (Close ∷ S) h = cc
deficit-below (suc d) (Close ∷ S) h = omega (arith, deficit-below d S h)
deficit-below d (s ∷ S) h = deficit-below d S h

pub below-deficit : (d : ℕ) (S : Database) → deficit S ≤ d → stays_open d S ≡ true
below-deficit d [] h = refl
below-deficit d (Open ∷ S) h = below-deficit (suc d) S (omega arith)
below-deficit zero (Close ∷ S) h = absurd (omega arith)
below-deficit (suc d) (Close ∷ S) h = below-deficit d S (omega arith)
below-deficit d (s ∷ S) h = below-deficit d S h

-- if the statements close no block that is open before them, the count is 0
pub no_deficit : (S : Database) → stays_open 0 S ≡ true → deficit S ≡ 0
no_deficit S h = omega (arith, deficit-below 0 S h)

-- otherwise the count is at least 1
pub some_deficit : (S : Database) → stays_open 0 S ≡ false → 1 ≤ deficit S
some_deficit S h = by (deficit S) refl
  where
    by : (d : ℕ) → deficit S ≡ d → 1 ≤ d
    by zero e = absurd (true≢false (sym (below-deficit 0 S (omega arith)) ∙ h))
    by (suc d) e = omega arith

pub stays_open-same : (S T : Database) → deficit S ≡ deficit T → stays_open 0 S ≡ stays_open 0 T
stays_open-same S T e = by (stays_open 0 T) refl
  where
    other : (b : Bool) → stays_open 0 S ≡ b → 1 ≤ deficit S → b ≡ false
    other true h le = absurd (omega (arith, no_deficit S h))
    other false h le = refl

    by : (b : Bool) → stays_open 0 T ≡ b → stays_open 0 S ≡ b
    by true h = below-deficit 0 S (omega (arith, no_deficit T h))
    by false h = other (stays_open 0 S) refl (omega (arith, some_deficit T h))

-- how many of the blocks that the statements open they leave open
abbrev pub left_open : Database → ℕ
left_open [] = 0
left_open (Open ∷ S) = cond (stays_open 0 S) (suc (left_open S)) (left_open S)
left_open (s ∷ S) = left_open S

pub deficit-close : (S : Database) → deficit (S ++ Close ∷ []) ≡ deficit S + (1 - left_open S)
deficit-close [] = refl
deficit-close (Open ∷ S) = by (stays_open 0 S) refl (deficit-close S)
  where
    by : (b : Bool) → stays_open 0 S ≡ b → deficit (S ++ Close ∷ []) ≡ deficit S + (1 - left_open S)
        → deficit (S ++ Close ∷ []) - 1 ≡ (deficit S - 1) + (1 - cond b (suc (left_open S)) (left_open S))
    by true h e = omega (arith, no_deficit S h)
    by false h e = omega (arith, some_deficit S h)
deficit-close (Close ∷ S) = omega (arith, deficit-close S)
deficit-close (s ∷ S) = deficit-close S

-- `${` and the closed blocks from before are as many as `$}` and the blocks left open
pub count-left_open : (S : Database) → count is_open S + deficit S ≡ count is_close S + left_open S
count-left_open [] = refl
count-left_open (Open ∷ S) = by (stays_open 0 S) refl (count-left_open S)
  where
    by : (b : Bool) → stays_open 0 S ≡ b → count is_open S + deficit S ≡ count is_close S + left_open S
        → 1 + count is_open S + (deficit S - 1) ≡ count is_close S + cond b (suc (left_open S)) (left_open S)
    by true h e = omega (arith, no_deficit S h)
    by false h e = omega (arith, some_deficit S h)
count-left_open (Close ∷ S) = omega (arith, count-left_open S)
count-left_open (s ∷ S) = count-left_open S

pub count-append : (p : Stmt → Bool) (S T : Database) → count p (S ++ T) ≡ count p S + count p T
count-append p [] T = omega arith
count-append p (s ∷ S) T = by (p s) (count-append p S T)
  where
    by : (b : Bool) → count p (S ++ T) ≡ count p S + count p T → cond b (1 + count p (S ++ T)) (count p (S ++ T)) ≡ cond b (1 + count p S) (count p S) + count p T
    by true e = omega arith
    by false e = e

-- ---- the statements that stay active after a `$}`: those before the last open block

abbrev pub from_open : List (ℕ × Stmt) → List (ℕ × Stmt)
from_open [] = []
from_open (p ∷ es) = cond (has_open es) (from_open es) (p ∷ es)

-- the active statements are those before the last open block and those from its start on
pub split_open : (es : List (ℕ × Stmt)) → es ≡ before_open es ++ from_open es
split_open [] = refl
split_open (p ∷ es) = by (has_open es) (split_open es)
  where
    by : (b : Bool) → es ≡ before_open es ++ from_open es → p ∷ es ≡ cond b (p ∷ before_open es) [] ++ cond b (from_open es) (p ∷ es)
    by true e = ap (λ r. p ∷ r) e
    by false e = refl

pub before_open-none : (es : List (ℕ × Stmt)) → has_open es ≡ false → before_open es ≡ []
before_open-none [] h = refl
before_open-none (p ∷ es) h = ap (λ b. cond b (p ∷ before_open es) []) (or_parts (is_open p.1) (has_open es) h).1

pub open-left : (at : ℕ) (S : Database) → has_open (active_from at S) ≡ true → 1 ≤ left_open S
open-left at [] h = cc
open-left at (Open ∷ S) h = by (stays_open 0 S) h (open-left (at + 1) S)
  where
    by : (b : Bool) → has_open (cond b ((at, Open) ∷ active_from (at + 1) S) (active_from (at + 1) S)) ≡ true
        → (has_open (active_from (at + 1) S) ≡ true → 1 ≤ left_open S) → 1 ≤ cond b (suc (left_open S)) (left_open S)
    by true h rest = omega arith
    by false h rest = rest h
open-left at (s ∷ S) h = by (stays_open 0 S) h (open-left (at + 1) S)
  where
    by : (b : Bool) → has_open (cond b ((at, s) ∷ active_from (at + 1) S) (active_from (at + 1) S)) ≡ true
        → (has_open (active_from (at + 1) S) ≡ true → 1 ≤ left_open S) → 1 ≤ left_open S
    by true h rest = rest h
    by false h rest = rest h

pub none-left : (at : ℕ) (S : Database) → has_open (active_from at S) ≡ false → left_open S ≡ 0
none-left at [] h = refl
none-left at (Open ∷ S) h = by (stays_open 0 S) h (none-left (at + 1) S)
  where
    by : (b : Bool) → has_open (cond b ((at, Open) ∷ active_from (at + 1) S) (active_from (at + 1) S)) ≡ false
        → (has_open (active_from (at + 1) S) ≡ false → left_open S ≡ 0) → cond b (suc (left_open S)) (left_open S) ≡ 0
    by true h rest = cc
    by false h rest = rest h
none-left at (s ∷ S) h = by (stays_open 0 S) h (none-left (at + 1) S)
  where
    by : (b : Bool) → has_open (cond b ((at, s) ∷ active_from (at + 1) S) (active_from (at + 1) S)) ≡ false
        → (has_open (active_from (at + 1) S) ≡ false → left_open S ≡ 0) → left_open S ≡ 0
    by true h rest = rest (or_parts (is_open s) (has_open (active_from (at + 1) S)) h).1
    by false h rest = rest h

-- statements that close no block from before still close none with a `$}` after them exactly if one
-- of their own is open
closes : (at : ℕ) (S : Database) → stays_open 0 S ≡ true → stays_open 0 (S ++ Close ∷ []) ≡ has_open (active_from at S)
closes at S h = by (has_open (active_from at S)) refl
  where
    no : (b : Bool) → stays_open 0 (S ++ Close ∷ []) ≡ b → left_open S ≡ 0 → b ≡ false
    no true k e = absurd (omega (arith, no_deficit (S ++ Close ∷ []) k, deficit-close S))
    no false k e = refl

    by : (b : Bool) → has_open (active_from at S) ≡ b → stays_open 0 (S ++ Close ∷ []) ≡ b
    by true o = below-deficit 0 (S ++ Close ∷ []) (omega (arith, deficit-close S, no_deficit S h, open-left at S o))
    by false o = no (stays_open 0 (S ++ Close ∷ [])) refl (none-left at S o)

-- statements that close a block from before them do so also with a `$}` after them
closed_stays : (S : Database) → stays_open 0 S ≡ false → stays_open 0 (S ++ Close ∷ []) ≡ false
closed_stays S h = by (stays_open 0 (S ++ Close ∷ [])) refl
  where
    by : (b : Bool) → stays_open 0 (S ++ Close ∷ []) ≡ b → b ≡ false
    by true k = absurd (omega (arith, no_deficit (S ++ Close ∷ []) k, deficit-close S, some_deficit S h))
    by false k = refl

-- a position that is moved by one, written in two ways
pub place : (a n : ℕ) → a + 1 + n ≡ a + suc n
place a n = omega arith

-- one more statement in front: after a `$}` it stays active if it was active and a block after it
-- is open
close_step : (b o : Bool) (p : ℕ × Stmt) (q : ℕ × Stmt) (r later : List (ℕ × Stmt)) → has_open r ≡ o → later ≡ before_open r ++ q ∷ []
    → cond (cond b o false) (p ∷ later) later ≡ before_open (cond b (p ∷ r) r) ++ q ∷ []
close_step true true p q r later o e = ap (λ x. p ∷ x) e ∙ ap (λ c. cond c (p ∷ before_open r) [] ++ q ∷ []) (sym o)
close_step true false p q r later o e =
    e ∙ (ap (λ x. x ++ q ∷ []) (before_open-none r o) ∙ ap (λ c. cond c (p ∷ before_open r) [] ++ q ∷ []) (sym o))
close_step false o p q r later h e = e

-- with a `$}` after them, statements close no block from before exactly if they close none without
-- it and one of theirs is open
closes_all : (at : ℕ) (S : Database) → stays_open 0 (S ++ Close ∷ []) ≡ cond (stays_open 0 S) (has_open (active_from at S)) false
closes_all at S = by (stays_open 0 S) refl
  where
    by : (b : Bool) → stays_open 0 S ≡ b → stays_open 0 (S ++ Close ∷ []) ≡ cond b (has_open (active_from at S)) false
    by true h = closes at S h
    by false h = closed_stays S h

pub active_from-close : (at : ℕ) (S : Database) → active_from at (S ++ Close ∷ []) ≡ before_open (active_from at S) ++ (at + length S, Close) ∷ []
active_from-close at [] = ap (λ n. (n, Close) ∷ []) (grind arith)
active_from-close at (s ∷ S) =
    ap (λ c. cond c ((at, s) ∷ active_from (at + 1) (S ++ Close ∷ [])) (active_from (at + 1) (S ++ Close ∷ []))) (closes_all (at + 1) S)
    ∙ (close_step (stays_open 0 S) (has_open (active_from (at + 1) S)) (at, s) (at + 1 + length S, Close) (active_from (at + 1) S) _ refl (active_from-close (at + 1) S)
    ∙ ap (λ n. before_open (active_from at (s ∷ S)) ++ (n, Close) ∷ []) (place at (length S)))

-- after a `$}`, a list of entries of active statements is the first part of the list before
pub flat_map-taken : {A : Type 0} (f : ℕ × Stmt → List A) (es : List (ℕ × Stmt)) → take (length (flat_map f (before_open es))) (flat_map f es) ≡ flat_map f (before_open es)
flat_map-taken f es =
    ap (take (length (flat_map f (before_open es)))) (ap (flat_map f) (split_open es) ∙ flat_map-append f (before_open es) (from_open es))
    ∙ take_at (flat_map f (before_open es)) (flat_map f (from_open es)) (length (flat_map f (before_open es))) refl

-- ---- later statements that close no block of the earlier ones

pub deficit-append : (S T : Database) → deficit T ≡ 0 → deficit (S ++ T) ≡ deficit S
deficit-append [] T h = h
deficit-append (Open ∷ S) T h = ap (λ n. n - 1) (deficit-append S T h)
deficit-append (Close ∷ S) T h = ap suc (deficit-append S T h)
deficit-append (s ∷ S) T h = deficit-append S T h

pub active_from-later : (at : ℕ) (S T : Database) → stays_open 0 T ≡ true → active_from at (S ++ T) ≡ active_from at S ++ active_from (at + length S) T
active_from-later at [] T h = ap (λ n. active_from n T) (grind arith)
active_from-later at (s ∷ S) T h =
    ap (λ b. cond b ((at, s) ∷ active_from (at + 1) (S ++ T)) (active_from (at + 1) (S ++ T))) (stays_open-same (S ++ T) S (deficit-append S T (no_deficit T h)))
    ∙ (ap (λ r. cond (stays_open 0 S) ((at, s) ∷ r) r) (active_from-later (at + 1) S T h)
    ∙ (cond-append (stays_open 0 S) (at, s) (active_from (at + 1) S) (active_from (at + 1 + length S) T)
    ∙ ap (λ n. cond (stays_open 0 S) ((at, s) ∷ active_from (at + 1) S) (active_from (at + 1) S) ++ active_from n T) (place at (length S))))
  where
    place : (a n : ℕ) → a + 1 + n ≡ a + suc n
    place a n = omega arith

-- ---- the test agrees with the law: no prefix has more `$}` than `${` and the `d` blocks that are open before

-- no statements close no block
none_closed : (d : ℕ) (S : Database) → count is_close (take 0 S) ≤ count is_open (take 0 S) + d
none_closed d [] = omega arith
none_closed d (s ∷ S) = omega arith

pub stays_open-means : (d : ℕ) (S : Database) → stays_open d S ≡ true → ClosesAtMost d S
stays_open-means d S h zero = none_closed d S
stays_open-means d [] h (suc k) = omega arith
stays_open-means d (Open ∷ S) h (suc k) = omega (arith, stays_open-means (suc d) S h k)
stays_open-means zero (Close ∷ S) h (suc k) = cc
stays_open-means (suc d) (Close ∷ S) h (suc k) = omega (arith, stays_open-means d S h k)
stays_open-means d (s ∷ S) h (suc k) = stays_open-means d S h k

pub means-stays_open : (d : ℕ) (S : Database) → ClosesAtMost d S → stays_open d S ≡ true
means-stays_open d [] h = refl
means-stays_open d (Open ∷ S) h = means-stays_open (suc d) S (λ k. omega (arith, h (suc k)))
means-stays_open zero (Close ∷ S) h = absurd (no (h 1))
  where
    no : count is_close (take 1 (Close ∷ S)) ≤ count is_open (take 1 (Close ∷ S)) + 0 → ⊥
    no k = omega (arith, k, none_closed 0 S)
means-stays_open (suc d) (Close ∷ S) h = means-stays_open d S (λ k. omega (arith, h (suc k)))
means-stays_open d (s ∷ S) h = means-stays_open d S (λ k. h (suc k))
