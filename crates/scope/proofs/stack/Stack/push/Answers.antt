use Rattle.scope.proofs.Words.{◌≡◌, ◌∙◌, ap, sym, Some, slice_get, length, ◌==◌, false, inl, inr, rules, list_any}
use Rattle.scope.proofs.StackLemmas.{other, pushed}
use Rattle.scope.proofs.stack.Stack.push.Goals as goal

pub invariant_of-self : goal.invariant_of-self
invariant_of-self c k n h =
    let absent : list_any (λ y. y == c.args.number) c.self.inside.numbers.items ≡ false = ap (λ xs. list_any (λ y. y == c.args.number) xs) c.self.view_is ∙ c.requires in
    c.record_index.ensures.others n k (other c.self.inside.numbers.items k n c.args.number absent h) (c.self.invariant k n h)

pub invariant_of-self-in_err-push : goal.invariant_of-self-in_err-push
invariant_of-self-in_err-push c k n h =
    let absent : list_any (λ y. y == c.args.number) c.self.inside.numbers.items ≡ false = ap (λ xs. list_any (λ y. y == c.args.number) xs) c.self.view_is ∙ c.requires in
    let stood : slice_get c.self.inside.numbers.items k ≡ Some n = ap (λ xs. slice_get xs k) (sym c.in_err-push.ensures.items) ∙ h in
    c.record_index.ensures.others n k (other c.self.inside.numbers.items k n c.args.number absent stood) (c.self.invariant k n stood)

pub invariant_of-self-2 : goal.invariant_of-self-2
invariant_of-self-2 c k n h =
    let absent : list_any (λ y. y == c.args.number) c.self.inside.numbers.items ≡ false = ap (λ xs. list_any (λ y. y == c.args.number) xs) c.self.view_is ∙ c.requires in
    let place : c.len-at.result ≡ length c.self.inside.numbers.items = search rules in
    elim (pushed c.self.inside.numbers.items c.args.number k n (ap (λ xs. slice_get xs k) (sym c.in_ok-push.ensures.items) ∙ h)) [
      | inl stood ↦ c.record_index.ensures.others n k (other c.self.inside.numbers.items k n c.args.number absent stood) (c.self.invariant k n stood)
      | inr p ↦ ap (λ m. slice_get c.record_index.new.indexes.items m) p.1 ∙ (c.in_ok-record_index.ensures.recorded ∙ ap Some (place ∙ sym p.0))
    ]
