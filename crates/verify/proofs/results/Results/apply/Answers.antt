use Rattle.verify.proofs.Words.{◌≡◌, ℕ, ◌+◌, ◌-◌, ◌<◌, ◌≤◌, ◌++◌, Bool, true, false, List, length, arith, ap, subst, ◌∙◌, length-append, IfOk-weaker, images_at, code_apply, weight_limit, Adds, Appends, HeldResults, Results}
use Rattle.subst.proofs.PastLemmas.{err_weaker}
use Rattle.verify.specs.Counted.{IsPastResult}
use Rattle.verify.proofs.ResultPlaceLemmas.{apply-kept, apply-seen, apply-cut}
use Rattle.verify.proofs.results.Results.apply.Goals as goal

appended : (ok : Bool) (room : ℕ) (old new e : List ℕ) → ok ≡ true → Appends ok room old new e → (new ≡ old ++ e) × (length e ≤ room)
appended true room old new e q a = a
appended false room old new e q a = cc

-- the range of the appended symbols is as long as they are
grown : (xs ys zs : List ℕ) (start end : ℕ) → zs ≡ xs ++ ys → start ≡ length xs → end ≡ length zs → end - start ≡ length ys
grown xs ys zs start end e low high = omega (arith, low, high, ap length e, length-append xs ys)

-- the weight stays within the limit if the range is no longer than the room
end_light : (w room start end n : ℕ) → room ≤ weight_limit - w → w ≤ weight_limit → end - start ≡ n → n ≤ room → w + (end - start) ≤ weight_limit
end_light w room start end n a b e h = omega (arith, a, b, e, h)

pub invariant_of-self-in_err-truncate_and_push : goal.invariant_of-self-in_err-truncate_and_push
invariant_of-self-in_err-truncate_and_push c =
    let g = appended _ _ _ _ _ c.if-not-branch.false c.in_ok-add_applied.ensures.ok in
    let more = grown c.self.inside.symbols _ _ c.len-start.result c.len-3.result g.0 c.len-start.ensures.len c.len-3.ensures.len in
    apply-cut c.self.inside.symbols _ _ c.self.inside.images c.self.inside.stack.items c.self.inside.saved.items _ c.self.inside.weight _ (c.len.result - c.args.count) c.self.invariant g.0
    c.in_err-truncate_and_push.ensures.err
    (ap (λ n. c.self.inside.weight + n) more) (end_light c.self.inside.weight _ c.len-start.result c.len-3.result _ (omega (arith, c.min.ensures, c.least-limit.ensures)) c.self.invariant.light more g.1)

pub invariant_of-self-2 : goal.invariant_of-self-2
invariant_of-self-2 c =
    let g = appended _ _ _ _ _ c.if-not-branch.false c.in_ok-add_applied.ensures.ok in
    let more = grown c.self.inside.symbols _ _ c.len-start.result c.len-3.result g.0 c.len-start.ensures.len c.len-3.ensures.len in
    apply-kept c.self.inside.symbols _ _ c.self.inside.images c.self.inside.stack.items c.self.inside.saved.items _ c.self.inside.weight _ (c.len.result - c.args.count) c.range_between-place.result c.self.invariant g.0
    (c.range_between-place.ensures.0 ∙ c.len-start.ensures.len) (c.range_between-place.ensures.1 ∙ c.len-2.ensures.len) c.in_ok-truncate_and_push.ensures.ok
    (ap (λ n. c.self.inside.weight + n) more) (end_light c.self.inside.weight _ c.len-start.result c.len-3.result _ (omega (arith, c.min.ensures, c.least-limit.ensures)) c.self.invariant.light more g.1)

pub returns-clause-adds : goal.returns-clause-adds
returns-clause-adds c =
    let g = appended _ _ _ _ _ c.if-not-branch.false c.in_ok-add_applied.ensures.ok in
    let more = grown c.self.inside.symbols _ _ c.len-start.result c.len-3.result g.0 c.len-start.ensures.len c.len-3.ensures.len in
    rw (← c.self.view_is) (apply-seen c.self.inside.symbols _ _ c.self.inside.images c.self.inside.stack.items c.self.inside.saved.items _ c.self.inside.weight _ (c.len.result - c.args.count) c.args.count c.range_between-place.result c.self.invariant
    (omega (arith, c.len.ensures)) g.0 (c.range_between-place.ensures.0 ∙ c.len-start.ensures.len) (c.range_between-place.ensures.1 ∙ c.len-2.ensures.len)
    c.in_ok-truncate_and_push.ensures.ok (ap (λ n. c.self.inside.weight + n) more))

pub returns-clause-kept : goal.returns-clause-kept
returns-clause-kept c = rw (← c.self.view_is) (_, (appended _ _ _ _ _ c.if-not-branch.false c.in_ok-add_applied.ensures.ok).0)

-- ---- a result that is not pushed

unchanged : (ok : Bool) (room : ℕ) (old new e : List ℕ) → ok ≡ false → Appends ok room old new e → new ≡ old
unchanged true room old new e q a = cc
unchanged false room old new e q a = a.0

too_heavy : (ok : Bool) (old new : Results ℕ) (under : List (List ℕ)) (e : List ℕ) → ok ≡ false → weight_limit < old.weight + length e → Adds ok old new under e
too_heavy true old new under e f h = cc
too_heavy false old new under e f h = h

-- what is refused is the result
refused : (c : goal.After-refusal) → code_apply (images_at c.as_slice.result.now c.self.inside.images) c.args.expr.now ≡ code_apply c.args.self.now.images c.args.expr.now
refused c =
    ap (λ s. code_apply (images_at s c.self.inside.images) c.args.expr.now) (c.as_slice.ensures.symbols ∙ unchanged _ _ _ _ _ c.if-not-branch.true c.in_ok-add_applied.ensures.ok)
    ∙ ap (λ (v : HeldResults). code_apply v.images c.args.expr.now) c.self.view_is

pub returns-then-not-branch-clause-adds : goal.returns-then-not-branch-clause-adds
returns-then-not-branch-clause-adds c =
    IfOk-weaker c.refusal.result _ _
    (λ ok no. too_heavy ok _ _ _ _ no.0 (let heavy = no.1 in omega (arith, heavy, ap length (refused c), ap (λ (v : HeldResults). v.results.weight) c.self.view_is))) c.refusal.ensures.heavy

pub returns-then-not-branch-clause-costly : goal.returns-then-not-branch-clause-costly
returns-then-not-branch-clause-costly c =
    err_weaker c.refusal.result _ _
    (λ stop costly is. subst (λ (v : HeldResults). IsPastResult v.results.weight (code_apply c.args.self.now.images c.args.expr.now) c.args.meter.now) c.self.view_is
    (subst (λ e. IsPastResult c.self.inside.weight e c.args.meter.now) (refused c) (costly is)))
    c.refusal.ensures.costly
