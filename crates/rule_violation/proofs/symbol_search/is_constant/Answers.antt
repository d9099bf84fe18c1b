use Rattle.rule_violation.proofs.Words.{◌∙◌, list_any, has_name_in, PassesAt}
use Rattle.rule_violation.specs.declared.search.NameRole.TheVariants as name_role
use Rattle.rule_violation.proofs.SearchLemmas.{some_told, PassesAt-any}
use Rattle.rule_violation.proofs.symbol_search.is_constant.Goals as goal

pub returns : goal.returns
returns c =
    let t = has_name_in name_role.DeclaredConstant c.args.name.now in let S = c.args.earlier.now in
    c.is_some.ensures ∙ some_told c.find_earlier.result (list_any t S) (λ i. PassesAt S i t) c.find_earlier.ensures (λ i h. PassesAt-any S i t h)
