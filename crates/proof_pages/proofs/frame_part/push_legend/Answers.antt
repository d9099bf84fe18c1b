use Rattle.std.specs.Prelude.{◌≡◌, ◌++◌, [], if◌then◌else◌, codes, OnOk}
use Rattle.std.proofs.Common.{subst, sym}
use Rattle.proof_pages.proofs.AppendLemmas.{joined-on, three-last}
use Rattle.std.specs.Prelude.{flat_map}
use Rattle.proof_pages.specs.Pages.{legend_html, typecode_html}
use Rattle.proof_pages.proofs.frame_part.push_legend.Goals as goal

pub returns : goal.returns
returns c =
    let page = c.args.page.now.items in
    let new = c.extend_from_slice-2.new.self.items in
    let names = c.args.notation.now.frames.now.names in
    let start = codes "<p class=\"legend\">Variables:" in
    let typecodes = flat_map (typecode_html c.args.typecodes.now names) c.as_slice-shown.result.now in
    subst (λ ts. OnOk c.extend_from_slice-2.result (new ≡ page ++ legend_html c.args.typecodes.now names ts)) c.as_slice-shown.ensures.value
    (subst (λ b. OnOk c.extend_from_slice-2.result (new ≡ page ++ (if b then [] else start ++ typecodes ++ codes "</p>\n"))) c.if-is_empty.ensures
    (three-last c.extend_from_slice-2.result page c.extend_from_slice.new.self.items c.push_typecodes.new.page.items new start typecodes (codes "</p>\n")
    c.in_ok-extend_from_slice.ensures.items c.in_ok-push_typecodes.ensures c.extend_from_slice-2.ensures.items))
