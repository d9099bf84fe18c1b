use Rattle.entries.proofs.Words.{◌≡◌, ◌∙◌, ◌-◌, Some, ap, sym, subst, arith, slice_get, slice_set, length, take}
use Rattle.entries.specs.Stored.MentionLog.{AreLogged}
use Rattle.entries.proofs.MentionLogLemmas.{log-end, pop-step, IsPopStep}
use Rattle.entries.proofs.mentions.Mentions.truncate.Goals as goal
use Rattle.entries.proofs.mentions.Mentions.truncate.Goals.{In-Some, After-pop_after}

top : (c : In-Some) → Some c.in-Some.number ≡ slice_get c.loop-number.self-inside.log.items (length c.loop-number.self-inside.log.items - 1)
top c = sym c.in-Some.is ∙ (c.copied.ensures ∙ (c.last.ensures.value ∙ ap (λ xs. slice_get xs (length xs - 1)) c.deref.ensures.value))

pub index_mut-requires : goal.index_mut-requires
index_mut-requires c =
    let s = c.loop-number.self-inside in
    let w = (log-end s.log.items s.lists.items c.in-Some.number c.loop-number.invariant.logged (top (goal.at.index_mut-requires c).In-Some)).within in
    omega (arith, w, s.lists.ok.0)

step : (c : After-pop_after) → IsPopStep c.loop-number.self-inside.log.items c.loop-number.self-inside.lists.items c.in-Some.number c.args.last c.pop_after.result c.pop_after.new.self
step c =
    let s = c.loop-number.self-inside in
    pop-step s.log.items s.lists.items c.in-Some.number c.args.last c.pop_after.result c.index_mut.result.now c.pop_after.new.self c.loop-number.invariant.logged (sym c.in-Some.is ∙ (c.copied.ensures ∙ (c.last.ensures.value ∙ ap (λ xs. slice_get xs (length xs - 1)) c.deref.ensures.value))) c.index_mut.ensures.value c.pop_after.ensures

pub invariant_of-self : goal.invariant_of-self
invariant_of-self c = ((step (goal.at.invariant_of-self c).After-pop_after).stays c.if-not-pop_after.true).0

pub returns-then-not-pop_after : goal.returns-then-not-pop_after
returns-then-not-pop_after c = λ d. ((step (goal.at.returns-then-not-pop_after c).After-pop_after).stays c.if-not-pop_after.true).1 d ∙ c.loop-number.invariant.kept d

pub loop-number-preserved : goal.loop-number-preserved
loop-number-preserved c =
    let s = c.loop-number.self-inside in
    let next = (step (goal.at.loop-number-preserved c).After-pop_after).goes c.if-not-pop_after.false in
    record {
      logged = subst (λ l. AreLogged l (slice_set s.lists.items c.in-Some.number c.pop_after.new.self)) (sym (c.truncate.ensures.items ∙ ap (λ n. take (n - 1) s.log.items) (omega (arith, c.len.ensures, s.log.ok.0)))) next.0;
      kept = λ d. next.1 d ∙ c.loop-number.invariant.kept d;
    }
