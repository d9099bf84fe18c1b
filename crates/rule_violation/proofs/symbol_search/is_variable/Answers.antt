use Rattle.rule_violation.proofs.Words.{◌∙◌, list_any, active, has_name_in, IsActiveAt}
use Rattle.rule_violation.specs.declared.search.NameRole.TheVariants as name_role
use Rattle.rule_violation.proofs.SearchLemmas.{some_told, IsActiveAt-any}
use Rattle.rule_violation.proofs.symbol_search.is_variable.Goals as goal

pub returns : goal.returns
returns c =
    let t = has_name_in name_role.DeclaredVariable c.args.name.now in let S = c.args.earlier.now in
    c.is_some.ensures ∙ some_told c.find_active.result (list_any (λ p. t p.1) (active S)) (λ i. IsActiveAt S i t) c.find_active.ensures (λ i h. IsActiveAt-any S i t h)
