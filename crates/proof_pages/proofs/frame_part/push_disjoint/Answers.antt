use Rattle.std.specs.Prelude.{◌≡◌, ◌++◌, OnOk}
use Rattle.std.proofs.Common.{ap, subst, sym, ◌∙◌}
use Rattle.scope.specs.Active.{before}
use Rattle.proof_pages.proofs.ColourLemmas.{lists_are}
use Rattle.proof_pages.specs.Pages.{groups_of, groups_part, view_of}
use Rattle.proof_pages.proofs.frame_part.push_disjoint.Goals as goal

pub returns : goal.returns
returns c =
    let F = c.args.notation.now.frames.now.statements in
    let stands = c.requires.1.0 in
    let groups = c.in_ok-groups.ensures c.requires.0 stands in
    subst (λ g. OnOk c.push_groups.result (c.push_groups.new.page.items ≡ c.args.page.now.items ++ groups_part (view_of c.args.notation.now) g))
    (c.as_groups.ensures
    ∙ lists_are c.args.notation.now.frames.now.names _ (groups_of (before F c.args.at) _) c.active_pairs-pairs.ensures.legal.distinct groups.below
    (groups.named ∙ ap (groups_of (before F c.args.at)) (sym stands)))
    c.push_groups.ensures
