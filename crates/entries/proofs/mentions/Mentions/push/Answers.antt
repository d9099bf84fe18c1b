use Rattle.entries.proofs.Words.{◌≡◌, ◌∙◌, arith, sym, subst, slice_set}
use Rattle.entries.specs.Stored.MentionLog.{AreLogged}
use Rattle.std.proofs.lemmas.Grind.{common_steps}
use Rattle.entries.proofs.AddedStatement.{on-err, on-ok}
use Rattle.entries.proofs.MentionLogLemmas.{logged-change, logged-kept, same-logged}
use Rattle.entries.proofs.mentions.Mentions.push.Goals as goal

pub invariant_of-self : goal.invariant_of-self
invariant_of-self c = same-logged c.self.inside.log.items c.self.inside.lists.items c.append_until.new.lists.items c.append_until.ensures.same c.self.invariant

pub invariant_of-self-in_err-push : goal.invariant_of-self-in_err-push
invariant_of-self-in_err-push c = rw c.in_err-push.ensures.items (same-logged c.self.inside.log.items c.self.inside.lists.items c.append_until.new.lists.items c.append_until.ensures.same c.self.invariant)

pub invariant_of-self-then-is_err : goal.invariant_of-self-then-is_err
invariant_of-self-then-is_err c =
    let log = c.self.inside.log.items in
    let again = on-err c.push-pushed.result _ (sym c.is_err.ensures.value ∙ c.if-is_err.true) c.push-pushed.ensures.same in
    let back : c.pop.new.self.items ≡ log = grind (arith, common_steps) in
    subst (λ l. AreLogged l (slice_set c.append_until.new.lists.items c.args.number c.push-pushed.new.self)) (sym back)
    (logged-kept log c.self.inside.lists.items c.append_until.new.lists.items c.args.number c.index_mut.result.now c.push-pushed.new.self c.self.invariant c.append_until.ensures.same c.in_ok-append_until.ensures.within c.index_mut.ensures.value again)

pub invariant_of-self-else-is_err : goal.invariant_of-self-else-is_err
invariant_of-self-else-is_err c =
    let done = on-ok c.push-pushed.result _ (sym c.is_err.ensures.value ∙ c.if-is_err.false) c.push-pushed.ensures.pushed in
    logged-change c.self.inside.log.items c.push.new.self.items c.self.inside.lists.items c.append_until.new.lists.items c.args.number c.args.mention
    c.index_mut.result.now c.push-pushed.new.self c.self.invariant (rw c.self.view_is c.requires.until) c.in_ok-append_until.ensures.same c.in_ok-append_until.ensures.within c.index_mut.ensures.value
    done c.in_ok-push.ensures.items
