use Rattle.frame.proofs.Words.{◌≡◌, ◌∙◌, ap, sym, arith, refl, ◌-◌, take, length-map, last_active_of, last_active_of_kind, names_in, labels_in, statements_of, stmt_of, is_open}
use Rattle.frame.proofs.LastActiveLemmas.{last_active-next, last_active-close}
use Rattle.frame.proofs.BlockWalkLemmas.{last-within}
use Rattle.frame.proofs.declare.last_active_after.Goals as goal

pub last_active_at-requires-clause-place : goal.last_active_at-requires-clause-place
last_active_at-requires-clause-place c =
    let S = statements_of c.args.storage.now in
    let e = ap (λ k. k.block) c.requires.kept.last in
    let a = last-within is_open S refl in
    (omega arith, omega (arith, e, a))

pub returns-then-last_active-eq0 : goal.returns-then-last_active-eq0
returns-then-last_active-eq0 c = λ s e.
    let S = statements_of c.args.storage.now in
    let block : 0 ≡ last_active_of_kind is_open S = sym c.if-last_active-eq0.true ∙ ap (λ k. k.block) c.requires.kept.last in
    ap (λ n. last_active_of (take (n - 1) S)) block ∙ last_active-close S s (e ∙ c.in-Close.is)

pub returns-else-last_active-eq0 : goal.returns-else-last_active-eq0
returns-else-last_active-eq0 c = λ s e.
    let S = statements_of c.args.storage.now in
    c.last_active_at.ensures ∙ (ap (λ n. last_active_of (take (n - 1) S)) (ap (λ k. k.block) c.requires.kept.last) ∙ last_active-close S s (e ∙ c.in-Close.is))

pub returns-in_default : goal.returns-in_default
returns-in_default c = λ s e.
    let k = c.args.storage.now in
    c.last_active_with.ensures ∙ last_active-next (statements_of k) k.last_active _ s c.args.kind c.requires.kept.last (omega (arith, c.len.ensures, length-map k.entries (stmt_of (names_in k) (labels_in k)))) e c.in_default.not-Close
