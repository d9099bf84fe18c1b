use Rattle.std.specs.Prelude.{◌≡◌, ◌++◌, [], if◌then◌else◌, codes, OnOk}
use Rattle.std.proofs.Common.{subst, sym}
use Rattle.proof_pages.proofs.AppendLemmas.{joined-on, three-last}
use Rattle.std.specs.Prelude.{option_map}
use Rattle.markup.specs.Descriptions.{description_html}
use Rattle.proof_pages.specs.LabelPages.{linked_page}
use Rattle.proof_pages.specs.Openings.{description_part}
use Rattle.proof_pages.proofs.opening.push_description_part.Goals as goal

pub returns-in_ok-push_description-in-Some : goal.returns-in_ok-push_description-in-Some
returns-in_ok-push_description-in-Some c =
    let page = c.args.page.now.items in
    let pages = c.args.pages.now in
    let page_of = linked_page pages.is_linked pages.statements.now pages.frames.now.statements in
    subst (λ o. OnOk c.extend_from_slice-in-Some.result (c.extend_from_slice-in-Some.new.self.items ≡ page ++ description_part page_of (option_map (λ d. d.now) o))) (sym c.in-Some.is)
    (three-last c.extend_from_slice-in-Some.result page c.extend_from_slice.new.self.items c.push_description.new.page.items c.extend_from_slice-in-Some.new.self.items (codes "<p class=\"about\">")
    (description_html page_of c.in-Some.text.now) (codes "</p>\n")
    c.in_ok-extend_from_slice-in-Some.ensures.items c.in_ok-push_description-in-Some.ensures c.extend_from_slice-in-Some.ensures.items)
