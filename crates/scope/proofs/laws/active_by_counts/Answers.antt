use Rattle.scope.proofs.Words.{◌≡◌, ℕ, ◌≤◌, ◌<◌, Bool, true, false, ◌&&◌, nat_le, nat_lt, arith, ap, ◌∙◌, refl, nat_tests, ltb-true, le-leb, lt-ltb, Database, is_active, stays_open, ClosesAtMost, between}
use Rattle.scope.proofs.ActiveLemmas.{stays_open-means, means-stays_open}
use Rattle.scope.proofs.laws.active_by_counts.Goals as goal

parts : (a b c : Bool) → (a && b && c) ≡ true → (a ≡ true) × (b ≡ true) × (c ≡ true)
parts true true true h = (refl, refl, refl)
parts true true false h = cc
parts true false c h = cc
parts false b c h = cc

at_least : (i : ℕ) → nat_le 1 i ≡ true → 1 ≤ i
at_least i h = grind (arith, nat_tests)

there : (S : Database) (i j : ℕ) → is_active S i j ≡ true → (1 ≤ i) × (i < j) × ClosesAtMost 0 (between S i j)
there S i j h =
    let p = parts (nat_le 1 i) (nat_lt i j) (stays_open 0 (between S i j)) h in
    (at_least i p.0, ltb-true i j p.1, stays_open-means 0 (between S i j) p.2)

back : (S : Database) (i j : ℕ) → (1 ≤ i) × (i < j) × ClosesAtMost 0 (between S i j) → is_active S i j ≡ true
back S i j h =
    ap (λ b. b && nat_lt i j && stays_open 0 (between S i j)) (le-leb 1 i h.0)
    ∙ (ap (λ b. b && stays_open 0 (between S i j)) (lt-ltb i j h.1) ∙ means-stays_open 0 (between S i j) h.2)

pub returns : goal.returns
returns c S i j = (there S i j, back S i j)
