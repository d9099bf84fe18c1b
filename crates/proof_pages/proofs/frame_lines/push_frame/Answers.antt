use Rattle.proof_pages.proofs.BlockWords.{◌∙◌, ap, flat_map, bare, line_at}
use Rattle.proof_pages.proofs.FrameLemmas.{on_ok, stands_bare, has_assertion, frame_is}
use Rattle.proof_pages.proofs.frame_lines.push_frame.Goals as goal

pub mandatory-requires-clause-assertion : goal.mandatory-requires-clause-assertion
mandatory-requires-clause-assertion c =
    let s = c.args.input.now in
    (bare s.statement.now, has_assertion s.statements.now s.frames.now.statements s.position s.statement.now c.requires.input.same c.requires.input.stands c.requires.assertion)

pub returns : goal.returns
returns c =
    let s = c.args.input.now in
    let there = stands_bare s.statements.now s.frames.now.statements s.position s.statement.now c.requires.input.same c.requires.input.stands in
    on_ok c.push_disjoint.result
    (frame_is s.statements.now s.frames.now.statements s.position s.statement.now c.requires.input.same c.requires.input.stands _ _ _ _
    (c.as_slice.ensures.value ∙ c.in_ok-mandatory.ensures.listed (bare s.statement.now) there) c.in_ok-push_hypotheses.ensures)
    c.push_disjoint.ensures
