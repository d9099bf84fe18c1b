use Rattle.names.proofs.CodesLemmas.{code-at}
use Rattle.names.proofs.table.search_overflow.Goals as goal

pub returns-in-Some-clause-some : goal.returns-in-Some-clause-some
returns-in-Some-clause-some c =
    let p = c.has_name_at.ensures.yes c.if-has_name_at.true in
    code-at c.args.name_list.now c.args.name.now c.in-Some.code c.requires p.0 p.1
