use Rattle.names.proofs.Words.{◌∙◌, sym, arith, rules, name_at, AreBytes}
use Rattle.names.proofs.KeysLemmas.{key-same}
use Rattle.names.proofs.table.is_name.Goals as goal

pub returns-then-has-clause-yes : goal.returns-then-has-clause-yes
returns-then-has-clause-yes c = λ _.
    let h = c.has.ensures c.if-has.true in
    let own : AreBytes c.args.name.now = λ k. omega (arith, c.type_inv.name k) in
    (h.0, sym (key-same c.args.name.now (name_at c.args.name_list.now c.args.code) own h.1 (search rules) (sym c.requires.key ∙ sym h.2)))
