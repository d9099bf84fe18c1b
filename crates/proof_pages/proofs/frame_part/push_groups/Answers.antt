use Rattle.std.specs.Prelude.{◌≡◌, ◌++◌, [], if◌then◌else◌, codes, OnOk}
use Rattle.std.proofs.Common.{subst, sym}
use Rattle.proof_pages.proofs.AppendLemmas.{joined-on, three-last}
use Rattle.std.specs.Prelude.{◌==◌, ◌<◌, length}
use Rattle.std.proofs.Common.{arith}
use Rattle.proof_pages.proofs.GroupLemmas.{not_zero}
use Rattle.proof_pages.specs.Pages.{shown_groups, view_of}
use Rattle.proof_pages.proofs.frame_part.push_groups.Goals as goal

pub returns : goal.returns
returns c =
    let page = c.args.page.now.items in
    let groups = c.args.groups.now in
    let new = c.extend_from_slice-2.new.self.items in
    let start = codes "<h2>Distinct variables</h2>\n<ul class=\"groups\">\n" in
    let shown = shown_groups (view_of c.args.notation.now) groups (length groups) in
    let some : 0 < length groups = omega (arith, c.if-len-eq0.false, c.len.ensures) in
    subst (λ b. OnOk c.extend_from_slice-2.result (new ≡ page ++ (if b then [] else start ++ shown ++ codes "</ul>\n"))) (sym (not_zero (length groups) some))
    (three-last c.extend_from_slice-2.result page c.extend_from_slice.new.self.items c.push_shown_groups.new.page.items new start shown (codes "</ul>\n")
    c.in_ok-extend_from_slice.ensures.items c.in_ok-push_shown_groups.ensures c.extend_from_slice-2.ensures.items)
