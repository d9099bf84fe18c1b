use Rattle.frame.proofs.Words.{◌∙◌, sym, subst, length, AreSpansIn, ◌++◌, ap, arith, recorded_in, take_all}
use Rattle.frame.proofs.MakeLemmas.{group-added, spans-more}
use Rattle.frame.proofs.disjoint_groups.add_group.Goals as goal

pub returns-in_ok-push-2 : goal.returns-in_ok-push-2
returns-in_ok-push-2 c =
    let s = c.in_ok-span.ensures in
    let is = group-added c.args.grouped_variables.now.items c.loop-code.grouped_variables.items c.args.groups.now.items c.push-then-to-from.new.self.items c.in_ok-span.span (recorded_in c.args.variables.now c.args.codes.now)
    (c.loop-code.invariant ∙ ap (λ l. c.args.grouped_variables.now.items ++ recorded_in c.args.variables.now l) (take_all c.loop-code.code-index c.args.codes.now (omega arith))) (omega (arith, s.0, c.len-from.ensures)) (omega (arith, s.1, c.len-to.ensures)) (omega arith) c.requires.within c.in_ok-push-2.ensures.items in
    record { added = is.0; within = is.1 }

pub returns-in_err-push-clause-within : goal.returns-in_err-push-clause-within
returns-in_err-push-clause-within c = spans-more _ _ _ c.args.groups.now.items (c.in_err-push.ensures.items ∙ c.loop-code.invariant) c.requires.within

pub returns-in_err-span-clause-within : goal.returns-in_err-span-clause-within
returns-in_err-span-clause-within c = spans-more _ _ _ c.args.groups.now.items c.loop-code.invariant c.requires.within

pub returns-in_err-push-2-clause-within : goal.returns-in_err-push-2-clause-within
returns-in_err-push-2-clause-within c = subst (AreSpansIn (length c.loop-code.grouped_variables.items)) (sym c.in_err-push-2.ensures.items) (spans-more _ _ _ c.args.groups.now.items c.loop-code.invariant c.requires.within)
