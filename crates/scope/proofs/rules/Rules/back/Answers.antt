use Rattle.scope.proofs.Words.{◌∙◌, ap, sym, length, take, refl, frame_statements_of}
use Rattle.scope.proofs.GoingBackLemmas.{kept-back, frame_statements-back}
use Rattle.scope.proofs.AcceptLemmas.{same-kept}
use Rattle.scope.proofs.rules.Rules.back.Goals as goal

pub invariant_of-self : goal.invariant_of-self
invariant_of-self c =
    let a = c.self.inside in
    same-kept (sym c.same-self-inside.ensures) (sym c.truncate.ensures) (sym c.truncate-2.ensures) refl (sym c.clear.ensures.items)
    (kept-back a.accepted.statements a.marked.statements a.variables a.typed a.frame_statement_count a.blocks.items a.mark c.self.invariant)

pub returns-clause-frame_statements : goal.returns-clause-frame_statements
returns-clause-frame_statements c =
    let a = c.self.inside in
    ap (λ v. take (length (frame_statements_of v.marked)) (frame_statements_of v.statements)) (sym c.self.view_is)
    ∙ (frame_statements-back a.accepted.statements a.marked.statements a.variables a.typed a.frame_statement_count a.blocks.items a.mark c.self.invariant ∙ ap (λ v. frame_statements_of v.marked) c.self.view_is)
