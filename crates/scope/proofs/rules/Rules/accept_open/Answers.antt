use Rattle.scope.proofs.Words.{◌∙◌, ap, sym, ◌++◌, ◌∷◌, [], refl, bare, active, heights_of}
use Rattle.scope.proofs.StackFollows.{kept-open}
use Rattle.scope.proofs.AcceptLemmas.{same-kept}
use Rattle.scope.proofs.rules.Rules.accept_open.Goals as goal

pub invariant_of-self-2 : goal.invariant_of-self-2
invariant_of-self-2 c =
    let a = c.self.inside in let S = a.accepted.statements in
    same-kept (sym (c.after-self-inside.ensures ∙ ap (λ s. S ++ bare s ∷ []) c.requires.open)) refl refl refl (sym c.in_ok-push.ensures.items)
    (kept-open S a.marked.statements a.variables a.typed a.frame_statement_count a.blocks.items a.mark c.heights-heights.result
    (c.heights-heights.ensures ∙ ap (λ v. heights_of (active v.statements)) (sym c.self.view_is)) c.self.invariant)
