-- Blocks that are open after statements are appended, and the last active statement of a kind.
use Rattle.frame.proofs.Words.{sym, ◌∙◌, ap, arith, inl, inr, append-nil, ◌≡◌, ℕ, suc, ◌+◌, ◌-◌, Bool, true, false, cond, ◌⊎◌, List, [], ◌∷◌, ◌++◌, length, filter, refl, or-true, filter-append, list_any-append, Stmt, Open, Close, Database, stays_open, active, active_from, is_open, is_close, actives_from, actives, last_position, last_active_of_kind, deficit, deficit-below, below-deficit, no_deficit, some_deficit, left_open, active_from-later, active_from-close, before_open-none, has_open, before_open}

-- a `$}` of later statements first closes a block that the earlier ones leave open
pub deficit-join : (S T : Database) → deficit (S ++ T) ≡ deficit S + (deficit T - left_open S)
deficit-join [] T = omega arith
deficit-join (Open ∷ S) T = by (stays_open 0 S) refl (deficit-join S T)
  where
    by : (b : Bool) → stays_open 0 S ≡ b → deficit (S ++ T) ≡ deficit S + (deficit T - left_open S)
        → deficit (S ++ T) - 1 ≡ (deficit S - 1) + (deficit T - cond b (suc (left_open S)) (left_open S))
    by true h e = omega (arith, no_deficit S h)
    by false h e = omega (arith, some_deficit S h)
deficit-join (Close ∷ S) T = omega (arith, deficit-join S T)
deficit-join (s ∷ S) T = deficit-join S T

pub stays_open-any : (d : ℕ) (S : Database) → stays_open 0 S ≡ true → stays_open d S ≡ true
stays_open-any d S h = below-deficit d S (omega (arith, no_deficit S h))

pub stays_open-front : (d : ℕ) (A U : Database) → stays_open d (A ++ U) ≡ true → stays_open d A ≡ true
stays_open-front d A U h = below-deficit d A (omega (arith, deficit-join A U, deficit-below d (A ++ U) h))

pub actives-append : (kind : Stmt → Bool) (at : ℕ) (A U : Database) → stays_open 0 U ≡ true → actives_from kind at (A ++ U) ≡ actives_from kind at A ++ actives_from kind (at + length A) U
actives-append kind at A U h = ap (filter (λ p. kind p.1)) (active_from-later at A U h) ∙ filter-append (λ p. kind p.1) (active_from at A) (active_from (at + length A) U)

-- the blocks that statements leave open are their active `${`
pub left-count : (at : ℕ) (S : Database) → left_open S ≡ length (actives_from is_open at S)
left-count at [] = refl
left-count at (Open ∷ S) = by (stays_open 0 S) (left-count (at + 1) S)
  where
    by : (b : Bool) → left_open S ≡ length (actives_from is_open (at + 1) S)
        → cond b (suc (left_open S)) (left_open S) ≡ length (filter (λ p. is_open p.1) (cond b ((at, Open) ∷ active_from (at + 1) S) (active_from (at + 1) S)))
    by true e = ap suc e
    by false e = e
left-count at (s ∷ S) = by (stays_open 0 S) (left-count (at + 1) S)
  where
    by : (b : Bool) → left_open S ≡ length (actives_from is_open (at + 1) S) → left_open S ≡ length (filter (λ p. is_open p.1) (cond b ((at, s) ∷ active_from (at + 1) S) (active_from (at + 1) S)))
    by true e = e
    by false e = e

-- ---- the last active statement of a kind

pub record IsLast (kind : Stmt → Bool) (S A : Database) (s : Stmt) (B : Database) : Type 0 where
  pub cut : S ≡ A ++ s ∷ B
  pub of_kind : kind s ≡ true
  pub stays : stays_open 0 B ≡ true
  pub alone : (at : ℕ) → actives_from kind at B ≡ []

-- no statement of the kind is active, or there is a last one
abbrev pub HasLast : (Stmt → Bool) → Database → Type 0
HasLast kind S = ((at : ℕ) → actives_from kind at S ≡ []) ⊎ ((A : Database) × (s : Stmt) × (B : Database) × IsLast kind S A s B)

pub split_last : (kind : Stmt → Bool) (S : Database) → HasLast kind S
split_last kind [] = inl (λ at. refl)
split_last kind (s ∷ S) = by (split_last kind S) (stays_open 0 S) (kind s) refl refl
  where
    by : HasLast kind S → (b c : Bool) → stays_open 0 S ≡ b → kind s ≡ c → HasLast kind (s ∷ S)
    by (inr p) b c e f = inr (s ∷ p.0, p.1, p.2, record { cut = ap (λ r. s ∷ r) p.3.cut; of_kind = p.3.of_kind; stays = p.3.stays; alone = p.3.alone })
    by (inl h) true true e f = inr ([], s, S, record { cut = refl; of_kind = f; stays = e; alone = h })
    by (inl h) true false e f = inl (λ at. rw (e, f) (h (at + 1)))
    by (inl h) false c e f = inl (λ at. rw e (h (at + 1)))

-- ---- the last one, and the others

abbrev pub IsNoClose : (Stmt → Bool) → Type 0
IsNoClose kind = kind Close ≡ false

-- a statement of a kind that has no `$}` is no `$}`
pub no_close : (kind : Stmt → Bool) (s : Stmt) → IsNoClose kind → kind s ≡ true → is_close s ≡ false
no_close kind Close n k = let f : true ≡ false = sym k ∙ n in cc
no_close kind s n k = refl

pub stays-from : (s : Stmt) (B : Database) → is_close s ≡ false → stays_open 0 B ≡ true → stays_open 0 (s ∷ B) ≡ true
stays-from Open B c h = stays_open-any 1 B h
stays-from Close B c h = cc
stays-from s B c h = h

pub last-actives : (kind : Stmt → Bool) (S A : Database) (s : Stmt) (B : Database) → IsNoClose kind → IsLast kind S A s B → actives kind S ≡ actives kind A ++ (1 + length A, s) ∷ []
last-actives kind S A s B n l =
    ap (actives kind) l.cut
    ∙ (actives-append kind 1 A (s ∷ B) (stays-from s B (no_close kind s n l.of_kind) l.stays)
    ∙ ap (λ r. actives kind A ++ r) (rw (l.stays, l.of_kind) (ap (λ r. (1 + length A, s) ∷ r) (l.alone (1 + length A + 1)))))

pub last_position-push : (ps : List (ℕ × Stmt)) (p : ℕ × Stmt) → last_position (ps ++ p ∷ []) ≡ p.0
last_position-push (q ∷ r ∷ ps) p = last_position-push (r ∷ ps) p
last_position-push ps p = refl

pub last-position : (kind : Stmt → Bool) (S A : Database) (s : Stmt) (B : Database) → IsNoClose kind → IsLast kind S A s B → last_active_of_kind kind S ≡ 1 + length A
last-position kind S A s B n l = ap last_position (last-actives kind S A s B n l) ∙ last_position-push (actives kind A) (1 + length A, s)

pub is-open : (s : Stmt) → is_open s ≡ true → s ≡ Open
is-open Open h = refl
is-open s h = cc

-- ---- after a `$}`

none-open : (es : List (ℕ × Stmt)) → filter (λ p. is_open p.1) es ≡ [] → has_open es ≡ false
none-open [] h = refl
none-open ((at, Open) ∷ es) h = cc
none-open ((at, s) ∷ es) h = none-open es h

before-last : (es : List (ℕ × Stmt)) (at : ℕ) (fs : List (ℕ × Stmt)) → has_open fs ≡ false → before_open (es ++ (at, Open) ∷ fs) ≡ es
before-last [] at fs h = rw h refl
before-last (e ∷ es) at fs h =
    let o : has_open (es ++ (at, Open) ∷ fs) ≡ true = list_any-append (λ p. is_open p.1) es ((at, Open) ∷ fs) ∙ or-true (has_open es) in
    rw o (ap (λ r. e ∷ r) (before-last es at fs h))

-- after a `$}` the active statements of a kind are those before the last open block
close-before : (kind : Stmt → Bool) (S : Database) → IsNoClose kind → actives kind (S ++ Close ∷ []) ≡ filter (λ p. kind p.1) (before_open (active S))
close-before kind S n =
    ap (filter (λ p. kind p.1)) (active_from-close 1 S)
    ∙ (filter-append (λ p. kind p.1) (before_open (active S)) ((1 + length S, Close) ∷ []) ∙ rw n (append-nil (filter (λ p. kind p.1) (before_open (active S)))))

pub close-actives : (kind : Stmt → Bool) (S A : Database) (s : Stmt) (B : Database) → IsNoClose kind → IsLast is_open S A s B → actives kind (S ++ Close ∷ []) ≡ actives kind A
close-actives kind S A s B n l =
    let own : active_from (1 + length A) (Open ∷ B) ≡ (1 + length A, Open) ∷ active_from (1 + length A + 1) B = rw l.stays refl in
    let all : active S ≡ active A ++ (1 + length A, Open) ∷ active_from (1 + length A + 1) B =
    ap active (l.cut ∙ ap (λ t. A ++ t ∷ B) (is-open s l.of_kind)) ∙ (active_from-later 1 A (Open ∷ B) (stays_open-any 1 B l.stays) ∙ ap (λ r. active A ++ r) own) in
    close-before kind S n
    ∙ ap (filter (λ p. kind p.1)) (ap before_open all ∙ before-last (active A) (1 + length A) (active_from (1 + length A + 1) B) (none-open (active_from (1 + length A + 1) B) (l.alone (1 + length A + 1))))

pub close-outside : (kind : Stmt → Bool) (S : Database) → IsNoClose kind → actives is_open S ≡ [] → actives kind (S ++ Close ∷ []) ≡ []
close-outside kind S n h = close-before kind S n ∙ ap (filter (λ p. kind p.1)) (before_open-none (active S) (none-open (active S) h))
