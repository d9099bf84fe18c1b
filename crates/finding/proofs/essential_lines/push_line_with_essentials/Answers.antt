use Rattle.finding.proofs.LineWords.{◌+◌, ◌∙◌, bare}
use Rattle.finding.proofs.EssentialLineLemmas.{on_ok, stands_bare, has_assertion, hypotheses_are, line_is}
use Rattle.finding.proofs.essential_lines.push_line_with_essentials.Goals as goal

pub mandatory-requires-clause-assertion : goal.mandatory-requires-clause-assertion
mandatory-requires-clause-assertion c =
    let s = c.args.searched.now in
    (bare c.args.statement.now, has_assertion s.statements.now s.frames.now.statements (c.args.index + 1) c.args.statement.now c.requires.same c.requires.stands c.requires.assertion)

pub returns : goal.returns
returns c =
    let s = c.args.searched.now in
    let there = stands_bare s.statements.now s.frames.now.statements (c.args.index + 1) c.args.statement.now c.requires.same c.requires.stands in
    let positions = hypotheses_are s.statements.now s.frames.now.statements (c.args.index + 1) c.args.statement.now _ c.requires.same
    (c.as_slice.ensures.value ∙ c.in_ok-mandatory.ensures.listed (bare c.args.statement.now) there) in
    on_ok c.push_expr_end.result
    (λ e. line_is s.statements.now c.args.index c.args.statement.now _ _ _ _ _ positions c.in_ok-push_label_start.ensures c.in_ok-push_essentials.ensures e) c.push_expr_end.ensures
