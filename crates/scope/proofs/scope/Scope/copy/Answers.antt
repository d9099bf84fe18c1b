use Rattle.scope.proofs.Words.{◌∙◌, ap, sym, subst, flat_map, Accepted, active, Declared, as_frame_statement, IsScope}
use Rattle.scope.proofs.FrameStatementLemmas.{stands-again}
use Rattle.scope.proofs.scope.Scope.copy.Goals as goal

pub invariant_of-result : goal.invariant_of-result
invariant_of-result c =
    let a = c.self.inside in
    let i = c.self.invariant in
    subst (λ (v : Accepted). IsScope v.statements v.marked c.in_ok-copy-2.field-0 a.marked_names c.in_ok-copy_frame_statements.field-0.items a.count a.marked_count) (sym c.in_ok-copy.ensures)
    (subst (λ (names : Declared). IsScope a.rules.statements a.rules.marked names a.marked_names c.in_ok-copy_frame_statements.field-0.items a.count a.marked_count) (sym c.in_ok-copy-2.ensures)
    (record {
      numbering = i.numbering;
      marked_numbering = i.marked_numbering;
      marked_within = i.marked_within;
      frame_statements_are = c.in_ok-copy_frame_statements.ensures ∙ (ap (λ st. flat_map (λ e. as_frame_statement e.at e.stmt) st) (c.as_slice.ensures.value ∙ i.frame_statements_are) ∙ stands-again (active a.rules.statements));
      count_is = i.count_is;
      marked_count_is = i.marked_count_is;
    }))
