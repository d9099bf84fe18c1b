use Rattle.std.specs.Prelude.{◌≡◌, ◌++◌, OnOk}
use Rattle.std.proofs.Common.{ap, subst, ◌∙◌}
use Rattle.proof_pages.proofs.AppendLemmas.{joined, joined-on}
use Rattle.proof_pages.specs.Openings.{expr_part, head_html}
use Rattle.proof_pages.proofs.opening.push_opening.Goals as goal

pub returns : goal.returns
returns c =
    let page = c.args.page.now.items in
    let n = c.args.values.now.notation in
    let head = c.in_ok-push_head.ensures ∙ ap (λ label. page ++ head_html label n.is_linked) c.label_at.ensures in
    joined-on c.push_expr_part.result page _ c.push_expr_part.new.page.items _ _
    (joined page _ _ _ _ (joined page _ _ _ _ head c.in_ok-push_kind_part.ensures) c.in_ok-push_description_part.ensures)
    (subst (λ e. OnOk c.push_expr_part.result (c.push_expr_part.new.page.items ≡ c.push_description_part.new.page.items ++ expr_part n.frames.now.names n.css_classes.now.by_symbol.items e)) c.expr_at.ensures c.push_expr_part.ensures)
