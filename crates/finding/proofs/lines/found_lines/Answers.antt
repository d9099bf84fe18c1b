use Rattle.finding.proofs.LineWords.{refl, arith, IsMatch, is_assertion, line_of}
use Rattle.finding.proofs.LineLemmas.{lines_on, lines_all, stands_at, found-assertion}
use Rattle.finding.proofs.lines.found_lines.Goals as goal

pub is_match-requires-clause-stands : goal.is_match-requires-clause-stands
is_match-requires-clause-stands c = stands_at c.args.searched.now.statements.now c.loop-index.index _ c.loop-index-test.true c.statement-item.is

pub push_line_if-requires-clause-stands : goal.push_line_if-requires-clause-stands
push_line_if-requires-clause-stands c = stands_at c.args.searched.now.statements.now c.loop-index.index _ c.loop-index-test.true c.statement-item.is

pub push_line_if-requires-clause-assertion : goal.push_line_if-requires-clause-assertion
push_line_if-requires-clause-assertion c = found-assertion (is_assertion c.statement-item.result) c.in_ok-is_found.is_found _ c.in_ok-is_found.ensures.matches

pub loop-index-preserved : goal.loop-index-preserved
loop-index-preserved c =
    let s = c.args.searched.now in
    record {
      lines = lines_on (IsMatch s.text.now s.statements.now s.descriptions.now c.args.query.now) (line_of s.statements.now c.args.query.now) s.statements.now c.loop-index.index c.statement-item.result c.in_ok-is_found.is_found _ _
          c.loop-index.invariant.lines c.loop-index-test.true c.statement-item.is c.in_ok-is_found.ensures.matches c.in_ok-push_line_if.ensures;
      recorded = c.in_ok-record_statement.ensures s.statements.now c.loop-index.index refl (stands_at s.statements.now c.loop-index.index _ c.loop-index-test.true c.statement-item.is) c.is_match.ensures.recorded;
    }

pub returns : goal.returns
returns c =
    let s = c.args.searched.now in
    lines_all (IsMatch s.text.now s.statements.now s.descriptions.now c.args.query.now) (line_of s.statements.now c.args.query.now) s.statements.now c.loop-index.index _ (omega arith) c.loop-index.invariant.lines
