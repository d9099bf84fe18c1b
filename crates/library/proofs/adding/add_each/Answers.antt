use Rattle.library.proofs.Words.{◌≡◌, ◌++◌, take, length, Some, sym, ◌∙◌, ◌+◌, ◌-◌, ap, subst, arith, bares, drop_all, false, IsLegal, IsTrue, OnOk, first_broken, numbered, is_closed}
use Rattle.verify.specs.Metered.{is_past, with_work}
use Rattle.library.specs.Added.{added_work}
use Rattle.library.proofs.AddingLemmas.{kept-more, left-more, metered-all, metered-more, none-at-end, rule-at-end, stopped-at}
use Rattle.library.proofs.adding.add_each.Goals as goal

pub loop-index-preserved : goal.loop-index-preserved
loop-index-preserved c =
    let i = c.loop-index.invariant in
    let e = rw c.in_default.is at c.in_ok-cause.ensures.added in
    let s = c.index-statements-index in
    let less = c.loop-index-test.true in
    let same = i.frames_are ∙ (ap (λ U. U ++ bares (take c.loop-index.index c.args.statements.now)) c.requires.same ∙ sym i.rules_are) in
    record {
      rules_are = kept-more _ _ _ _ c.loop-index.index s.result less s.is i.rules_are e.rules_are;
      frames_are = kept-more _ _ _ _ c.loop-index.index s.result less s.is i.frames_are e.frames_are;
      left = left-more _ _ _ _ c.loop-index.index s.result less s.is (sym (subst (λ U. IsLegal U s.result) same e.legal)) e.rules_are i.left;
      mark = c.in_ok-cause.ensures.marked ∙ i.mark;
      counted = (let more = c.in_ok-cause.ensures.counted in let before = i.counted in omega (arith, more, before));
      metered = metered-more c.args.tables.now.rules.statements c.args.statements.now c.loop-index.tables.frames.statements c.loop-index.index s.result c.args.meter.now c.loop-index.meter c.add_one.new.meter less s.is (same ∙ i.rules_are) i.metered e.metered;
      within = e.within;
    }

pub returns-in-Some-clause-stopped : goal.returns-in-Some-clause-stopped
returns-in-Some-clause-stopped c =
    let i = c.loop-index.invariant in
    let e = rw c.in-Some.is at c.in_ok-cause.ensures.added in
    let s = c.index-statements-index in
    let same = i.frames_are ∙ (ap (λ U. U ++ bares (take c.loop-index.index c.args.statements.now)) c.requires.same ∙ sym i.rules_are) in
    stopped-at c.args.tables.now.rules.statements c.args.statements.now c.loop-index.tables c.add_one.new.tables c.loop-index.index s.result c.args.meter.now c.loop-index.meter c.add_one.new.meter c.in-Some.cause
    c.loop-index-test.true s.is i.left same i.rules_are i.metered i.within e

pub returns-in-Ok-clause-stopped : goal.returns-in-Ok-clause-stopped
returns-in-Ok-clause-stopped c =
    let i = c.loop-index.invariant in
    let S = c.args.statements.now in
    let over = c.loop-index-test.false in
    let all : c.loop-index.index ≡ length S = omega (arith, over, c.loop-index.auto.index-end) in
    let end = i.left ∙ ap (first_broken (c.loop-index.index + 1) c.loop-index.tables.rules.statements) (drop_all c.loop-index.index S over) in (
      end ∙ ap (numbered (c.loop-index.index + 1)) (none-at-end _ _ c.close_at_end.ensures.«open» c.in-Ok.is),
      metered-all c.args.tables.now.rules.statements S c.loop-index.index c.args.meter.now c.loop-index.meter all i.metered,
      i.within,
    )

pub returns-in-Ok-clause-closed : goal.returns-in-Ok-clause-closed
returns-in-Ok-clause-closed c = λ f. subst (λ r. OnOk r (IsTrue (is_closed c.loop-index.tables.rules.statements))) c.in-Ok.is c.close_at_end.ensures.ok

pub returns-in-Err-clause-stopped : goal.returns-in-Err-clause-stopped
returns-in-Err-clause-stopped c =
    let i = c.loop-index.invariant in
    let S = c.args.statements.now in
    let over = c.loop-index-test.false in
    let end = i.left ∙ ap (first_broken (c.loop-index.index + 1) c.loop-index.tables.rules.statements) (drop_all c.loop-index.index S over) in
    let last : c.loop-index.index + 1 ≡ length S + 1 = omega (arith, over, c.loop-index.auto.index-end) in
    let all : c.loop-index.index ≡ length S + 1 - 1 = omega (arith, over, c.loop-index.auto.index-end) in (
      end ∙ (ap (numbered (c.loop-index.index + 1)) (rule-at-end _ _ _ c.close_at_end.ensures.«open» c.close_at_end.ensures.closed c.in-Err.is) ∙ ap (λ n. Some (n, c.in-Err.rule)) last),
      subst (λ k. is_past (with_work c.args.meter.now (added_work c.args.tables.now.rules.statements S k)) ≡ false) all (subst (λ k. is_past k ≡ false) i.metered i.within),
    )
