use Rattle.verify.proofs.Words.{◌≡◌, ◌-◌, length, get_or, refl, arith, ap, ◌∙◌}
use Rattle.verify.proofs.PlanLemmas.{hears-mark}
use Rattle.verify.proofs.plan.TreePlanListener.mark.Goals as goal

pub returns-in_ok-push : goal.returns-in_ok-push
returns-in_ok-push c =
    let stack = c.args.self.now.stack.items in let k = c.index-number.result.now in
    let l : c.len-len.result ≡ length stack = omega (arith, c.len-len.ensures) in
    hears-mark _ _ k k (c.index-number.ensures ∙ ap (λ n. get_or stack (n - 1) k) l) refl refl c.in_ok-push.ensures.items
