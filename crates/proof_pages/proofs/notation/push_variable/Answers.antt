use Rattle.proof_pages.proofs.Words.{◌++◌, codes, decimal, html_text}
use Rattle.proof_pages.proofs.AppendLemmas.{joined, joined-last}
use Rattle.proof_pages.proofs.notation.push_variable.Goals as goal

pub returns : goal.returns
returns c =
    let step2 = joined c.args.page.now.items c.extend_from_slice.new.self.items c.push_number.new.text.items (codes "<var class=\"k") (decimal c.args.css_class) c.in_ok-extend_from_slice.ensures.items (c.in_ok-push_number.ensures) in
    let step3 = joined c.args.page.now.items c.push_number.new.text.items c.extend_from_slice-2.new.self.items (codes "<var class=\"k" ++ decimal c.args.css_class) (codes "\">") step2 (c.in_ok-extend_from_slice-2.ensures.items) in
    let step4 = joined c.args.page.now.items c.extend_from_slice-2.new.self.items c.push_html.new.page.items (codes "<var class=\"k" ++ decimal c.args.css_class ++ codes "\">") (html_text c.args.name.now) step3 (c.in_ok-push_html.ensures.written) in
    joined-last c.args.page.now.items c.push_html.new.page.items c.extend_from_slice-3.new.self.items (codes "<var class=\"k" ++ decimal c.args.css_class ++ codes "\">" ++ html_text c.args.name.now) (codes "</var>") c.extend_from_slice-3.result step4 c.extend_from_slice-3.ensures.items
