use Rattle.verify.proofs.Words.{◌∙◌, ap, before, inl, inr, sym}
use Rattle.std.specs.Prelude.{◌*◌}
use Rattle.verify.proofs.CodeWorkLemmas.{counted-after, counted-none, counted-past, normal-counts, normal-counts-none}
use Rattle.verify.proofs.RightLemmas.{normal-proves}
use Rattle.verify.specs.Metered.{with_work}
use Rattle.verify.proofs.checker.Checker.prove_normal.Goals as goal

pub returns-in_default-clause-counted : goal.returns-in_default-clause-counted
returns-in_default-clause-counted c = λ s stands.
    let fault = rw c.in_default.is at c.in_ok-items.ensures.found in
    counted-none c.args.frames.now.statements c.args.at s stands c.args.tokens.now c.args.meter.now
    (normal-counts-none (before c.args.frames.now.statements c.args.at) s c.args.tokens.now c.requires.normal (elim fault [ inl u ↦ inl (c.normal.ensures.unfinished.0 u) | inr p ↦ inr (c.normal.ensures.malformed.0 p) ])) s stands

pub returns-clause-answer : goal.returns-clause-answer
returns-clause-answer c =
    let is = rw c.in-Some.is at c.in_ok-items.ensures.found in
    normal-proves c.args.frames.now.statements c.args.at c.requires.provable.0 c.args.tokens.now c.requires.provable.1 c.requires.normal _ (rw is at c.normal.ensures.items) c.check_counted.result c.check_counted.ensures.answer

pub returns-clause-counted : goal.returns-clause-counted
returns-clause-counted c =
    let is = rw c.in-Some.is at c.in_ok-items.ensures.found in
    let s = c.requires.provable.0 in
    let stands = c.requires.provable.1.stands in
    counted-after c.args.frames.now.statements c.args.at s stands c.args.tokens.now c.args.meter.now _ _ _ _
    (c.in_ok-add.ensures.counted ∙ ap (with_work c.args.meter.now) (c.in_ok-work_of_tokens.ensures ∙ ap (λ n. 16 * n) c.len.ensures))
    (normal-counts (before c.args.frames.now.statements c.args.at) s c.args.tokens.now c.requires.normal _ (rw is at c.normal.ensures.items)) c.check_counted.result c.check_counted.ensures.counted

pub returns-then-is_past-clause-counted : goal.returns-then-is_past-clause-counted
returns-then-is_past-clause-counted c =
    let is = rw c.in-Some.is at c.in_ok-items.ensures.found in
    counted-past c.args.frames.now.statements c.args.at c.requires.provable.0 c.requires.provable.1.stands c.args.tokens.now c.args.meter.now c.add.new.self _ _
    (c.in_ok-add.ensures.counted ∙ ap (with_work c.args.meter.now) (c.in_ok-work_of_tokens.ensures ∙ ap (λ n. 16 * n) c.len.ensures))
    (normal-counts (before c.args.frames.now.statements c.args.at) c.requires.provable.0 c.args.tokens.now c.requires.normal _ (rw is at c.normal.ensures.items)) (sym c.is_past.ensures ∙ c.if-is_past.true)
