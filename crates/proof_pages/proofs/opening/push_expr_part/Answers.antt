use Rattle.std.specs.Prelude.{codes}
use Rattle.proof_pages.proofs.AppendLemmas.{three-last}
use Rattle.proof_pages.specs.Notations.{expr_html}
use Rattle.proof_pages.proofs.opening.push_expr_part.Goals as goal

pub returns : goal.returns
returns c =
    let notation = c.args.notation.now in
    three-last c.extend_from_slice-2.result c.args.page.now.items c.extend_from_slice.new.self.items c.push_html_expr.new.page.items c.extend_from_slice-2.new.self.items (codes "<p class=\"expr\">")
    (expr_html notation.frames.now.names notation.css_classes.now.by_symbol.items c.args.expr.now) (codes "</p>\n")
    c.in_ok-extend_from_slice.ensures.items c.in_ok-push_html_expr.ensures c.extend_from_slice-2.ensures.items
