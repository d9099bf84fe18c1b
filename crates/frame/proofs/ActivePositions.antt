-- The active statements that pass a test, by position.
use Rattle.frame.proofs.Words.{sym, ◌∙◌, ap, subst, arith, inl, inr, append_assoc, length-append, ◌≡◌, ℕ, suc, ◌+◌, ◌<◌, Bool, true, false, cond, List, [], ◌∷◌, ◌++◌, length, map, filter, refl, Stmt, Database, stays_open, active_from, In, AreAbove, Ascends, actives_from, and_from, and_parts, ◌&&◌}

pub record IsActiveAt (S : Database) (q : Stmt → Bool) (p : ℕ) : Type 0 where
  pub front : Database
  pub stmt : Stmt
  pub rest : Database
  pub whole : S ≡ front ++ stmt ∷ rest
  pub at : p ≡ suc (length front)
  pub stays : stays_open 0 rest ≡ true
  pub passes : q stmt ≡ true

-- whether the first statement is active and passes decides whether it is listed
pub actives-cons : (q : Stmt → Bool) (n : ℕ) (t : Stmt) (T : Database) → actives_from q n (t ∷ T) ≡ cond (stays_open 0 T && q t) ((n, t) ∷ actives_from q (n + 1) T) (actives_from q (n + 1) T)
actives-cons q n t T = elim (stays_open 0 T) as (λ b. filter (λ p. q p.1) (cond b ((n, t) ∷ active_from (n + 1) T) (active_from (n + 1) T)) ≡ cond (b && q t) ((n, t) ∷ actives_from q (n + 1) T) (actives_from q (n + 1) T)) [ true ↦ refl | false ↦ refl ]

pub active-members : (S : Database) (q : Stmt → Bool) (p : ℕ) (A T : Database) (n : ℕ) → S ≡ A ++ T → n ≡ suc (length A) → In p (map (λ x. x.0) (filter (λ x. q x.1) (active_from n T))) → IsActiveAt S q p
active-members S q p A [] n whole at_n i = absurd i
active-members S q p A (t ∷ T) n whole at_n i =
    let l = length-append A (t ∷ []) in
    by (active-members S q p (A ++ t ∷ []) T (n + 1) (whole ∙ sym (append_assoc A (t ∷ []) T)) (omega (arith, at_n, l))) (stays_open 0 T && q t) refl (subst (λ ps. In p (map (λ x. x.0) ps)) (actives-cons q n t T) i)
  where
    by : (In p (map (λ x. x.0) (actives_from q (n + 1) T)) → IsActiveAt S q p) → (b : Bool) → (stays_open 0 T && q t) ≡ b → In p (map (λ x. x.0) (cond b ((n, t) ∷ actives_from q (n + 1) T) (actives_from q (n + 1) T))) → IsActiveAt S q p
    by more false e j = more j
    by more true e (inr j) = more j
    by more true e (inl j) = let both = and_parts (stays_open 0 T) (q t) e in record { front = A; stmt = t; rest = T; whole = whole; at = j ∙ at_n; stays = both.0; passes = both.1 }

pub members-active : (q : Stmt → Bool) (n : ℕ) (A : Database) (t : Stmt) (B : Database) → stays_open 0 B ≡ true → q t ≡ true → In (n + length A) (map (λ x. x.0) (filter (λ x. q x.1) (active_from n (A ++ t ∷ B))))
members-active q n [] t B stays h =
    subst (λ ps. In (n + 0) (map (λ x. x.0) ps)) (sym (actives-cons q n t B ∙ ap (λ b. cond b ((n, t) ∷ actives_from q (n + 1) B) (actives_from q (n + 1) B)) (and_from (stays_open 0 B) (q t) stays h))) (inl (omega arith))
members-active q n (a ∷ A) t B stays h =
    let e : n + 1 + length A ≡ n + suc (length A) = omega arith in
    let rest = actives_from q (n + 1) (A ++ t ∷ B) in
    let more : In (n + suc (length A)) (map (λ x. x.0) rest) = subst (λ k. In k (map (λ x. x.0) rest)) e (members-active q (n + 1) A t B stays h) in
    subst (λ ps. In (n + suc (length A)) (map (λ x. x.0) ps)) (sym (actives-cons q n a (A ++ t ∷ B)))
    (elim (stays_open 0 (A ++ t ∷ B) && q a) as (λ b. In (n + suc (length A)) (map (λ x. x.0) (cond b ((n, a) ∷ rest) rest))) [ true ↦ inr more | false ↦ more ])

-- those from the position n on are in ascending order, and above all before it
abbrev AscendsFrom : ℕ → List ℕ → Type 0
AscendsFrom n ps = ((k : ℕ) → k < n → AreAbove k ps) × Ascends ps

pub ascends-active : (q : Stmt → Bool) (n : ℕ) (T : Database) → ((k : ℕ) → k < n → AreAbove k (map (λ x. x.0) (filter (λ x. q x.1) (active_from n T)))) × Ascends (map (λ x. x.0) (filter (λ x. q x.1) (active_from n T)))
ascends-active q n [] = (λ k h. tt, tt)
ascends-active q n (t ∷ T) = subst (λ ps. AscendsFrom n (map (λ x. x.0) ps)) (sym (actives-cons q n t T)) (by (ascends-active q (n + 1) T) (stays_open 0 T && q t))
  where
    by : AscendsFrom (n + 1) (map (λ x. x.0) (actives_from q (n + 1) T)) → (b : Bool) → AscendsFrom n (map (λ x. x.0) (cond b ((n, t) ∷ actives_from q (n + 1) T) (actives_from q (n + 1) T)))
    by more true = (λ k h. (h, more.0 k (omega (arith, h))), (more.0 n (omega arith), more.1))
    by more false = (λ k h. more.0 k (omega (arith, h)), more.1)
