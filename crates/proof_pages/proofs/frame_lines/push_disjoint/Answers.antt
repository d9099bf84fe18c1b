use Rattle.proof_pages.proofs.BlockWords.{◌∙◌, ap, bare, map, decode}
use Rattle.proof_pages.proofs.FrameLemmas.{on_ok, stands_bare, has_assertion, groups_are}
use Rattle.proof_pages.proofs.frame_lines.push_disjoint.Goals as goal

pub groups-requires : goal.groups-requires
groups-requires c =
    let s = c.args.input.now in
    (bare s.statement.now, has_assertion s.statements.now s.frames.now.statements s.position s.statement.now c.requires.input.same c.requires.input.stands c.requires.assertion)

pub returns : goal.returns
returns c =
    let s = c.args.input.now in
    let there = stands_bare s.statements.now s.frames.now.statements s.position s.statement.now c.requires.input.same c.requires.input.stands in
    on_ok c.push_groups.result
    (groups_are s.statements.now s.frames.now.statements s.position s.statement.now c.requires.input.same c.requires.input.stands s.frames.now.names _ _ _
    (ap (map (decode s.frames.now.names)) c.as_groups.ensures ∙ (c.in_ok-groups.ensures (bare s.statement.now) there).named))
    c.push_groups.ensures
