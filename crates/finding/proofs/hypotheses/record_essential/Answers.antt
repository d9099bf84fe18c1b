use Rattle.finding.proofs.LineWords.{subst, ◌↔◌, IsTrue, HasPattern}
use Rattle.finding.proofs.HypothesesLemmas.{kept-one}
use Rattle.finding.proofs.hypotheses.record_essential.Goals as goal

pub returns : goal.returns
returns c = λ S n next stands kept.
    let p = c.args.pattern.now in
    let has = subst (λ expr. IsTrue c.in_ok-matches.matches ↔ HasPattern p expr) c.essential_expr.ensures c.in_ok-matches.ensures in
    kept-one p S n c.args.at next c.args.statement.now c.args.essentials.now.items c.push_position_if.new.positions.items c.in_ok-matches.matches c.push_position_if.result stands has c.push_position_if.ensures.pushed c.push_position_if.ensures.same kept
