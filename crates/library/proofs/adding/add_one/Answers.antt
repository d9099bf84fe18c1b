use Rattle.library.proofs.Words.{◌≡◌, true, ◌∙◌, ap, refl, sameb, Memory}
use Rattle.scope.specs.contracts.rule.Rule.{the_type}
use Rattle.library.proofs.AddingLemmas.{rule-is}
use Rattle.library.proofs.adding.add_one.Goals as goal

pub returns-in-Err-clause-added : goal.returns-in-Err-clause-added
returns-in-Err-clause-added c =
    let e = c.in-Err.ensures in
    (refl, rule-is _ c.in-Err.rule e.broken e.only_memory (λ f. let same : c.eq.result ≡ true = c.eq.ensures ∙ ap (λ r. sameb the_type r Memory) f in let no = c.if-eq.false in cc))
