use Rattle.proof_pages.proofs.Words.{◌++◌, codes, number_text}
use Rattle.proof_pages.specs.TableRows.{link_html}
use Rattle.proof_pages.proofs.AppendLemmas.{joined, joined-last}
use Rattle.proof_pages.proofs.rows.push_link.Goals as goal

pub returns : goal.returns
unfolding link_html
returns c =
    let step2 = joined c.args.page.now.items c.extend_from_slice.new.self.items c.extend_from_slice-2.new.self.items (codes " <a href=\"#") (c.args.id_prefix.now) c.in_ok-extend_from_slice.ensures.items (c.in_ok-extend_from_slice-2.ensures.items) in
    let step3 = joined c.args.page.now.items c.extend_from_slice-2.new.self.items c.push_step_number.new.text.items (codes " <a href=\"#" ++ c.args.id_prefix.now) (number_text c.args.index) step2 (c.in_ok-push_step_number.ensures) in
    let step4 = joined c.args.page.now.items c.push_step_number.new.text.items c.extend_from_slice-3.new.self.items (codes " <a href=\"#" ++ c.args.id_prefix.now ++ number_text c.args.index) (codes "\">") step3 (c.in_ok-extend_from_slice-3.ensures.items) in
    let step5 = joined c.args.page.now.items c.extend_from_slice-3.new.self.items c.push_step_number-2.new.text.items (codes " <a href=\"#" ++ c.args.id_prefix.now ++ number_text c.args.index ++ codes "\">") (number_text c.args.index) step4 (c.in_ok-push_step_number-2.ensures) in
    joined-last c.args.page.now.items c.push_step_number-2.new.text.items c.extend_from_slice-4.new.self.items (codes " <a href=\"#" ++ c.args.id_prefix.now ++ number_text c.args.index ++ codes "\">" ++ number_text c.args.index) (codes "</a>") c.extend_from_slice-4.result step5 c.extend_from_slice-4.ensures.items
