-- The weight of the nodes that a test picks, from some node on.
use Rattle.synod.proofs.Words.{◌≡◌, ℕ, suc, ◌+◌, ◌*◌, ◌<◌, nat_lt, Bool, List, [], ◌∷◌, length, refl, ap, ◌∙◌, arith, if◌then◌else◌, true, weigh, is_quorum}

-- the weight of the nodes that a test picks, numbered from i on
abbrev pub weigh_from : (ℕ → Bool) → ℕ → List ℕ → ℕ
weigh_from picks i [] = 0
weigh_from picks i (w ∷ ws) = (if picks i then w else 0) + weigh_from picks (suc i) ws

weigh_from-suc : (picks : ℕ → Bool) (i : ℕ) (ws : List ℕ) → weigh_from picks (suc i) ws ≡ weigh_from (λ k. picks (suc k)) i ws
weigh_from-suc picks i [] = refl
weigh_from-suc picks i (w ∷ ws) = ap (λ n. (if picks (suc i) then w else 0) + n) (weigh_from-suc picks (suc i) ws)

pub weigh_from-zero : (picks : ℕ → Bool) (ws : List ℕ) → weigh_from picks 0 ws ≡ weigh picks ws
weigh_from-zero picks [] = refl
weigh_from-zero picks (w ∷ ws) =
    ap (λ n. (if picks 0 then w else 0) + n) (weigh_from-suc picks 0 ws ∙ weigh_from-zero (λ k. picks (suc k)) ws)

-- two tests that agree on all existing nodes give the same weight
pub weigh-same : (p q : ℕ → Bool) (ws : List ℕ) → ((k : ℕ) → k < length ws → p k ≡ q k) → weigh p ws ≡ weigh q ws
weigh-same p q [] same = refl
weigh-same p q (w ∷ ws) same =
    let here : p 0 ≡ q 0 = same 0 (omega arith) in
    ap (λ (b : Bool). (if b then w else 0) + weigh (λ k. p (suc k)) ws) here
    ∙ ap (λ n. (if q 0 then w else 0) + n) (weigh-same (λ k. p (suc k)) (λ k. q (suc k)) ws (λ k h. same (suc k) (omega (arith, h))))

pub is_quorum-same : (p q : ℕ → Bool) (ws : List ℕ) → ((k : ℕ) → k < length ws → p k ≡ q k) → is_quorum ws p ≡ is_quorum ws q
is_quorum-same p q ws same = ap (λ n. nat_lt (weigh (λ k. true) ws) (2 * n)) (weigh-same p q ws same)
