use Rattle.finding.proofs.LineWords.{◌≡◌, true, is_assertion}
use Rattle.finding.proofs.LineLemmas.{with_assertion}
use Rattle.finding.proofs.lines.is_match.Goals as goal

pub returns : goal.returns
returns c =
    let e = c.if-not-is_assertion.ensures in
    let assertion : is_assertion c.args.statement.now ≡ true = cc in
    record {
      matches = with_assertion _ (is_assertion c.args.statement.now) assertion c.assertion_matches.result c.assertion_matches.ensures.matches;
      recorded = c.assertion_matches.ensures.recorded;
    }
