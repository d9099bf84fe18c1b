use Rattle.scope.proofs.Words.{get_or, refl, rules, ◌≡◌, ◌∙◌, ap, sym, arith, Some, slice_get, length, ◌==◌, list_any, slice_get_within, slice_get_read, get_or_from_slice_get}
use Rattle.scope.proofs.StackLemmas.{no_member}
use Rattle.scope.proofs.stack.Stack.index_of.Goals as goal

pub returns-then-len-number-clause-member : goal.returns-then-len-number-clause-member
returns-then-len-number-clause-member c =
    sym (ap (λ xs. list_any (λ n. n == c.args.number) xs) (sym c.self.view_is) ∙ no_member c.self.inside.numbers.items c.args.number
    (λ k h. let at = c.self.invariant k c.args.number h in let below = slice_get_within c.self.inside.indexes.items c.args.number k at in omega (arith, below)))

pub returns-then-len-at-clause-member : goal.returns-then-len-at-clause-member
returns-then-len-at-clause-member c =
    sym (ap (λ xs. list_any (λ n. n == c.args.number) xs) (sym c.self.view_is) ∙ no_member c.self.inside.numbers.items c.args.number
    (λ k h.
    let at : slice_get c.self.inside.indexes.items c.args.number ≡ Some k = c.self.invariant k c.args.number h in
    let below = slice_get_within c.self.inside.numbers.items k c.args.number h in
    let same = c.index-at.ensures ∙ get_or_from_slice_get c.self.inside.indexes.items c.args.number k _ at in omega (arith, below, same)))

pub returns-then-there-number-clause-found : goal.returns-then-there-number-clause-found
returns-then-there-number-clause-found c =
    let there : slice_get c.self.inside.numbers.items c.index-at.result.now ≡ Some c.index-there.result.now = slice_get_read c.self.inside.numbers.items (length c.self.inside.numbers.items) c.index-at.result.now _ refl (search rules) c.index-there.ensures in
    ap (λ xs. slice_get xs c.index-at.result.now) (sym c.self.view_is) ∙ (there ∙ ap Some c.if-there-number.true)

pub returns-else-there-number-clause-member : goal.returns-else-there-number-clause-member
returns-else-there-number-clause-member c =
    sym (ap (λ xs. list_any (λ n. n == c.args.number) xs) (sym c.self.view_is) ∙ no_member c.self.inside.numbers.items c.args.number
    (λ k h.
    let at : slice_get c.self.inside.indexes.items c.args.number ≡ Some k = c.self.invariant k c.args.number h in
    let same = c.index-at.ensures ∙ get_or_from_slice_get c.self.inside.indexes.items c.args.number k _ at in
    let stood = get_or_from_slice_get c.self.inside.numbers.items k c.args.number c.index-there.result.now h in
    absurd (c.if-there-number.false (c.index-there.ensures ∙ (ap (λ i. get_or c.self.inside.numbers.items i c.index-there.result.now) same ∙ stood)))))
