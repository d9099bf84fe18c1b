use Rattle.steps.proofs.Words.{◌≡◌, ◌-◌, length, get_or, refl, arith, ap, ◌∙◌}
use Rattle.steps.proofs.ListeningLemmas.{hears-mark}
use Rattle.steps.proofs.table_draft.TableDraftListener.mark.Goals as goal

pub returns-in_ok-push : goal.returns-in_ok-push
returns-in_ok-push c =
    let stack = c.args.self.now.stack.items in let k = c.index-place.result.now in
    let l : c.len-len.result ≡ length stack = omega (arith, c.len-len.ensures) in
    hears-mark _ _ k k (c.index-place.ensures ∙ ap (λ n. get_or stack (n - 1) k) l) refl refl refl c.in_ok-push.ensures.items
