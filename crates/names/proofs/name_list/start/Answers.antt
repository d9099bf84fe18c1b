use Rattle.names.proofs.Words.{◌≡◌, ◌∙◌, ap, sym, arith, suc, ◌-◌, start_of}
use Rattle.names.proofs.NameListLemmas.{start-first, start-next}
use Rattle.names.proofs.name_list.start.Goals as goal

pub returns-then-index-eq0 : goal.returns-then-index-eq0
returns-then-index-eq0 c = sym (ap (start_of 0 c.args.ends.now) c.if-index-eq0.true ∙ start-first 0 c.args.ends.now)

pub returns-else-index-eq0 : goal.returns-else-index-eq0
returns-else-index-eq0 c =
    let ne = c.if-index-eq0.false in
    let next : suc (c.args.index - 1) ≡ c.args.index = omega (arith, ne) in
    sym (ap (start_of 0 c.args.ends.now) (sym next) ∙ start-next 0 c.args.ends.now (c.args.index - 1) c.item.result c.item.ensures)
