use Rattle.slots.proofs.Words.{◌≡◌, ◌∙◌, ◌+◌, ℕ, suc, sym, ap, arith, add-one, drop, true, false, List, Option, Some, None, MatchOption, Bor, is_some, entry_at, front_of}
use Rattle.slots.proofs.FiniteMapLemmas.{front_of-drop-Some, front_of-drop-None}
use Rattle.slots.proofs.slots.first_empty_from.Goals as goal

one_on : {T : Type 0} (xs : List (Option T)) (s : ℕ) (x : Option (Bor T)) → MatchOption x (entry_at xs s ≡ None) (λ y. entry_at xs s ≡ Some y.now) → is_some x ≡ true → (s + 1) + front_of (drop (s + 1) xs) ≡ s + front_of (drop s xs)
one_on xs s None at is = cc
one_on {T} xs s (Some y) at is =
    let here : front_of (drop s xs) ≡ suc (front_of (drop (suc s) xs)) = front_of-drop-Some xs s y.now at in
    let next : front_of (drop (s + 1) xs) ≡ front_of (drop (suc s) xs) = ap (λ (i : ℕ). front_of (drop i xs)) (add-one s) in
    omega (arith, here, next)

ends : {T : Type 0} (xs : List (Option T)) (s : ℕ) (x : Option (Bor T)) → MatchOption x (entry_at xs s ≡ None) (λ y. entry_at xs s ≡ Some y.now) → is_some x ≡ false → front_of (drop s xs) ≡ 0
ends xs s None at is = front_of-drop-None xs s at
ends xs s (Some y) at is = cc

pub loop-slot-preserved : goal.loop-slot-preserved
loop-slot-preserved g c = record {
  within = omega (arith, c.count.ensures, c.loop-slot-test.true);
  front = one_on c.args.pages.now c.loop-slot.slot c.get.result c.get.ensures (sym c.is_some.ensures ∙ c.if-is_some.true) ∙ c.loop-slot.invariant.front;
}

pub returns-else-is_some : goal.returns-else-is_some
returns-else-is_some g c =
    let none = ends c.args.pages.now c.loop-slot.slot c.get.result c.get.ensures (sym c.is_some.ensures ∙ c.if-is_some.false) in
    omega (arith, none, c.loop-slot.invariant.front)
