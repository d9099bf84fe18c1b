use Rattle.finding.proofs.LineWords.{◌+◌, List, ℕ, length, refl, sym, subst, ◌↔◌, IfOk, IsTrue, bares, AreMatchingEssentials, AreRecorded, IsTrimmedLength, HasPattern, AssertionMatches}
use Rattle.finding.specs.LabelPatterns.{IsLike}
use Rattle.finding.proofs.LineLemmas.{either_later}
use Rattle.finding.proofs.HypothesesLemmas.{kept-left, some-left}
use Rattle.finding.proofs.lines.assertion_matches.Goals as goal

pub returns-in-Pattern-clause-matches : goal.returns-in-Pattern-clause-matches
returns-in-Pattern-clause-matches c =
    let s = c.args.searched.now in
    subst (λ query. IfOk c.has_pattern.result (λ is. IsTrue is ↔ AssertionMatches s.text.now s.statements.now s.descriptions.now query c.args.index c.args.statement.now)) (sym c.in-Pattern.is)
    (subst (λ expr. IfOk c.has_pattern.result (λ is. IsTrue is ↔ HasPattern c.in-Pattern.pattern expr)) c.assertion_expr.ensures c.has_pattern.ensures)

pub returns-in-Labels-clause-matches : goal.returns-in-Labels-clause-matches
returns-in-Labels-clause-matches c =
    let s = c.args.searched.now in
    subst (λ query. IfOk c.matches.result (λ is. IsTrue is ↔ AssertionMatches s.text.now s.statements.now s.descriptions.now query c.args.index c.args.statement.now)) (sym c.in-Labels.is)
    (subst (λ label. IfOk c.matches.result (λ is. IsTrue is ↔ IsLike c.in-Labels.pattern label)) c.assertion_label.ensures c.matches.ensures)

pub returns-else-expr_matches : goal.returns-else-expr_matches
returns-else-expr_matches c =
    let s = c.args.searched.now in
    let S = s.statements.now in
    let p = c.in-WithHypotheses.pattern in
    let old : List ℕ = c.args.essentials.now.items in
    let new : List ℕ = c.trim_to_active.new.positions.items in
    let kept : AreMatchingEssentials p S c.args.index old = subst (λ query. AreRecorded query S c.args.index old) c.in-WithHypotheses.is c.requires.recorded in
    let left : IsTrimmedLength (bares S) (c.args.index + 1) old (length new) = subst (λ F. IsTrimmedLength F (c.args.index + 1) old (length new)) c.requires.same c.trim_to_active.ensures.trimmed in
    let own = subst (λ expr. IsTrue c.in_ok-expr_matches-in-WithHypotheses.expr_matches ↔ HasPattern p expr) c.assertion_expr-in-WithHypotheses.ensures c.in_ok-expr_matches-in-WithHypotheses.ensures in
    let some = some-left p S c.args.index (c.args.index + 1) refl old new left c.trim_to_active.ensures.prefix c.args.statement.now c.trim_to_active.result kept c.trim_to_active.ensures.some in
    record {
      matches = subst (λ query. IsTrue c.trim_to_active.result ↔ AssertionMatches s.text.now S s.descriptions.now query c.args.index c.args.statement.now) (sym c.in-WithHypotheses.is)
          (either_later _ _ c.in_ok-expr_matches-in-WithHypotheses.expr_matches c.trim_to_active.result c.if-expr_matches.false own some);
      recorded = subst (λ query. AreRecorded query S c.args.index new) (sym c.in-WithHypotheses.is) (kept-left p S c.args.index (c.args.index + 1) refl old new left c.trim_to_active.ensures.prefix kept);
    }
