use Rattle.rule_violation.proofs.Words.{◌≡◌, ◌==◌, ◌&&◌, false, sym, ap, rules, has_name_in}
use Rattle.rule_violation.proofs.MarksLemmas.{marked-none}
use Rattle.rule_violation.proofs.marks.mark_where_active.Goals as goal

pub returns-else-closed_later-eq0 : goal.returns-else-closed_later-eq0
returns-else-closed_later-eq0 c =
    let closed_later : (c.args.closed_later == 0) ≡ false = search rules in
    sym (marked-none (λ x. c.args.closed_later == 0 && has_name_in c.args.role x c.args.stmt.now) c.args.mark (λ x. ap (λ b. b && has_name_in c.args.role x c.args.stmt.now) closed_later) c.args.names.now c.args.marks.now)
