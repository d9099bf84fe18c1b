use Rattle.frame.proofs.Words.{◌≡◌, ◌∙◌, ap, ◌||◌, ◌&&◌, false, list_any, has_name, is_variable, expr_of, is_in_essential}
use Rattle.frame.proofs.OneFrameLemmas.{recorded-start}
use Rattle.frame.proofs.one_frame.mandatory_variables.Goals as goal

pub loop-entry-init : goal.loop-entry-init
loop-entry-init c = λ x.
    let S = c.args.scope.now.statements in
    let s = c.args.stmt.now in
    let own : has_name x c.record_variables.new.used ≡ (false || (is_variable S x && has_name x (expr_of s))) =
    c.in_ok-record_variables.ensures x
    ∙ (ap (λ u. has_name x u || (is_variable S x && has_name x c.expression.result.now)) c.new-used.ensures
    ∙ ap (λ e. false || (is_variable S x && has_name x e)) c.expression.ensures) in
    ap (λ b. b || (is_variable S x && list_any (is_in_essential x) c.frame_statements-entry-items.result.now)) own
    ∙ (ap (λ es. (false || (is_variable S x && has_name x (expr_of s))) || (is_variable S x && list_any (is_in_essential x) es)) c.frame_statements-entry-items.ensures
    ∙ recorded-start S s x)
