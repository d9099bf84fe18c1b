use Rattle.unproved.proofs.Words.{◌≡◌, ◌∙◌, ap, sym, true, broken_rule, sameb, the_type, Memory, rule-is}
use Rattle.unproved.proofs.legal_part.find_broken_rule.Goals as goal

pub returns-else-eq-clause-broken : goal.returns-else-eq-clause-broken
returns-else-eq-clause-broken c =
    let e = c.in-Err.ensures in
    sym (rule-is (broken_rule c.args.frames.now.statements c.args.statement.now) c.in-Err.rule e.broken e.only_memory
    (λ f. let same : c.eq.result ≡ true = c.eq.ensures ∙ ap (λ r. sameb the_type r Memory) f in let no = c.if-eq.false in cc))
