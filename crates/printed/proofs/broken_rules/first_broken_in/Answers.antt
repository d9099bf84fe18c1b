use Rattle.printed.proofs.Words.{◌≡◌, ◌+◌, [], ◌∷◌, ◌++◌, length, Some, true, ◌∙◌, ap, arith, drop, sym, drop_all, sameb, broken_rule, first_broken, numbered, or_later, the_type, Memory, left-at, left-more, none-at-end, rule-at-end, rule-is}
use Rattle.printed.proofs.broken_rules.first_broken_in.Goals as goal

pub loop-index-init : goal.loop-index-init
loop-index-init c = ap (λ S. first_broken 1 S c.args.statements.now) (sym c.requires.empty)

pub loop-index-preserved : goal.loop-index-preserved
loop-index-preserved c =
    let s = c.index-statements-index in
    left-more _ [] _ _ c.loop-index.index s.result c.loop-index-test.true s.is (sym c.in_default.ensures.legal) c.in_default.ensures.added c.loop-index.invariant

pub returns-in-Err : goal.returns-in-Err
returns-in-Err c =
    let index = c.loop-index.index in
    let S = c.args.statements.now in
    let now = c.loop-index.scope.statements in
    let s = c.index-statements-index in
    let e = c.in-Err.ensures in
    let broken = rule-is (broken_rule now s.result) c.in-Err.rule e.broken e.only_memory
    (λ f. let same : c.eq.result ≡ true = c.eq.ensures ∙ ap (λ r. sameb the_type r Memory) f in let no = c.if-eq.false in cc) in
    sym (c.loop-index.invariant ∙ (left-at now S index s.result c.loop-index-test.true s.is
    ∙ ap (λ r. or_later (index + 1) r (first_broken (index + 1 + 1) (now ++ s.result ∷ []) (drop (index + 1) S))) broken))

pub returns-in-Ok : goal.returns-in-Ok
returns-in-Ok c =
    let now = c.loop-index.scope.statements in
    sym (c.loop-index.invariant ∙ (ap (first_broken (c.loop-index.index + 1) now) (drop_all c.loop-index.index c.args.statements.now c.loop-index-test.false)
    ∙ ap (numbered (c.loop-index.index + 1)) (none-at-end _ _ c.close_at_end.ensures.«open» c.in-Ok.is)))

pub returns-in-Err-close_at_end : goal.returns-in-Err-close_at_end
returns-in-Err-close_at_end c =
    let now = c.loop-index.scope.statements in
    let S = c.args.statements.now in
    let last : c.loop-index.index + 1 ≡ length S + 1 = omega (arith, c.loop-index-test.false, c.loop-index.auto.index-end) in
    sym (c.loop-index.invariant ∙ (ap (first_broken (c.loop-index.index + 1) now) (drop_all c.loop-index.index S c.loop-index-test.false)
    ∙ (ap (numbered (c.loop-index.index + 1)) (rule-at-end _ _ _ c.close_at_end.ensures.«open» c.close_at_end.ensures.closed c.in-Err-close_at_end.is)
    ∙ ap (λ n. Some (n, c.in-Err-close_at_end.rule)) last)))
