-- Two majorities share a node.
use Rattle.synod.proofs.Words.{◌≡◌, ℕ, ◌+◌, ◌*◌, ◌<◌, Bool, true, false, List, [], ◌∷◌, suc, refl, arith, ltb-true, if◌then◌else◌, ◌⊎◌, inl, inr, weigh, is_quorum}

abbrev pub Shared : (ℕ → Bool) → (ℕ → Bool) → Type 0
Shared p q = (k : ℕ) × (p k ≡ true) × (q k ≡ true)

-- either both sets have the first node, or without it they still weigh more than the remaining
-- nodes
first : (p q : ℕ → Bool) (a b : Bool) → p 0 ≡ a → q 0 ≡ b → (w x y s : ℕ)
    → w + s < ((if a then w else 0) + x) + ((if b then w else 0) + y)
    → Shared p q ⊎ (s < x + y)
first p q true true e f w x y s h = inl (0, e, f)
first p q true false e f w x y s h = inr (omega arith)
first p q false true e f w x y s h = inr (omega arith)
first p q false false e f w x y s h = inr (omega arith)

-- two sets of nodes that together weigh more than all nodes share a node
pub overlap : (p q : ℕ → Bool) (ws : List ℕ) → weigh (λ k. true) ws < weigh p ws + weigh q ws → Shared p q
overlap p q [] h = absurd (omega arith)
overlap p q (w ∷ ws) h =
    elim (first p q (p 0) (q 0) refl refl w (weigh (λ k. p (suc k)) ws) (weigh (λ k. q (suc k)) ws) (weigh (λ k. true) ws) h) [
      | inl s ↦ s
      | inr l ↦ let r = overlap (λ k. p (suc k)) (λ k. q (suc k)) ws l in (suc r.0, r.1, r.2)
    ]

-- two quorums of the same weights share a node
pub quorums_meet : (ws : List ℕ) (p q : ℕ → Bool) → is_quorum ws p ≡ true → is_quorum ws q ≡ true → Shared p q
quorums_meet ws p q h k =
    let a : weigh (λ k. true) ws < 2 * weigh p ws = ltb-true _ _ h in
    let b : weigh (λ k. true) ws < 2 * weigh q ws = ltb-true _ _ k in
    overlap p q ws (omega arith)
