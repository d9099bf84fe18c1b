use Rattle.proof_pages.proofs.Words.{◌++◌, codes, get_or, ap, ◌∙◌, stmt_at, label_or_empty, no_row, number_text, taken_text, expr_text}
use Rattle.proof_pages.proofs.AppendLemmas.{joined, joined-last}
use Rattle.proof_pages.proofs.step_lines.push_step.Goals as goal

pub returns : goal.returns
returns c =
    let step2 = joined c.args.text.now.items c.push_step_number.new.text.items c.extend_from_slice.new.self.items (number_text c.args.index) (codes " ") c.in_ok-push_step_number.ensures (c.in_ok-extend_from_slice.ensures.items) in
    let step3 = joined c.args.text.now.items c.extend_from_slice.new.self.items c.push_taken.new.text.items (number_text c.args.index ++ codes " ") (taken_text (get_or c.args.table.now c.args.index no_row).step.taken) step2 (c.in_ok-push_taken.ensures ∙ ap (λ t. c.extend_from_slice.new.self.items ++ taken_text t) c.taken.ensures) in
    let step4 = joined c.args.text.now.items c.push_taken.new.text.items c.extend_from_slice-2.new.self.items (number_text c.args.index ++ codes " " ++ taken_text (get_or c.args.table.now c.args.index no_row).step.taken) (codes " ") step3 (c.in_ok-extend_from_slice-2.ensures.items) in
    let step5 = joined c.args.text.now.items c.extend_from_slice-2.new.self.items c.extend_from_slice-3.new.self.items (number_text c.args.index ++ codes " " ++ taken_text (get_or c.args.table.now c.args.index no_row).step.taken ++ codes " ") (label_or_empty (stmt_at c.args.frames.now.statements (get_or c.args.table.now c.args.index no_row).step.position)) step4 (c.in_ok-extend_from_slice-3.ensures.items ∙ ap (λ t. c.extend_from_slice-2.new.self.items ++ t) (c.label_at.ensures ∙ ap (λ p. label_or_empty (stmt_at c.args.frames.now.statements p)) c.position.ensures)) in
    let step6 = joined c.args.text.now.items c.extend_from_slice-3.new.self.items c.push_expr.new.text.items (number_text c.args.index ++ codes " " ++ taken_text (get_or c.args.table.now c.args.index no_row).step.taken ++ codes " " ++ label_or_empty (stmt_at c.args.frames.now.statements (get_or c.args.table.now c.args.index no_row).step.position)) (expr_text c.args.frames.now.names (get_or c.args.table.now c.args.index no_row).expr) step5 (c.in_ok-push_expr.ensures ∙ ap (λ e. c.extend_from_slice-3.new.self.items ++ expr_text c.args.frames.now.names e) c.expr.ensures) in
    joined-last c.args.text.now.items c.push_expr.new.text.items c.extend_from_slice-4.new.self.items (number_text c.args.index ++ codes " " ++ taken_text (get_or c.args.table.now c.args.index no_row).step.taken ++ codes " " ++ label_or_empty (stmt_at c.args.frames.now.statements (get_or c.args.table.now c.args.index no_row).step.position) ++ expr_text c.args.frames.now.names (get_or c.args.table.now c.args.index no_row).expr) (codes "\n") c.extend_from_slice-4.result step6 c.extend_from_slice-4.ensures.items
