use Rattle.std.specs.Prelude.{OnOk}
use Rattle.std.specs.Io.KnownBytes.{Appends}
use Rattle.std.proofs.Common.{ap, subst, ◌∙◌}
use Rattle.proof_pages.specs.Pages.{hypotheses_at, page_classes, page_html, page_view, parts_html}
use Rattle.proof_pages.proofs.page.write_contents.Goals as goal

pub returns : goal.returns
unfolding page_html
returns g c =
    let k = c.args.contents.now in
    let before = g.W.Write.contents c.args.out.now in
    let after = g.W.Write.contents c.write_parts.new.out in
    let listed = hypotheses_at k.frames.now.statements k.at in
    let classes = c.in_ok-css_classes.ensures ∙ ap (page_classes k) (c.as_slice.ensures.value ∙ c.in_ok-hypotheses.ensures) in
    subst (λ ps. OnOk c.write_parts.result (Appends before after (parts_html (page_view c.args.is_linked k (page_classes k listed)) ps c.args.shows_all_steps k)))
    (c.as_slice-2.ensures.value ∙ c.in_ok-hypotheses.ensures)
    (subst (λ C. OnOk c.write_parts.result (Appends before after (parts_html (page_view c.args.is_linked k C) c.as_slice-2.result.now c.args.shows_all_steps k))) classes c.write_parts.ensures)
