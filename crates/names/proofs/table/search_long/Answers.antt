use Rattle.std.proofs.Common.{◌∙◌, sym, arith, inr}
use Rattle.names.proofs.CodesLemmas.{code-at}
use Rattle.names.proofs.TableLemmas.{not-found}
use Rattle.names.proofs.table.search_long.Goals as goal

pub returns-then-has_name_at : goal.returns-then-has_name_at
returns-then-has_name_at c =
    let same = c.has_name_at.ensures.yes c.if-has_name_at.true in
    sym (code-at c.args.name_list.now c.args.name.now c.probe-slot.result.code c.requires.distinct same.0 same.1)

pub returns-then-is_absent : goal.returns-then-is_absent
returns-then-is_absent c =
    let end = c.is_absent.ensures c.if-is_absent.true in
    sym (not-found c.args.slots.now c.args.name_keys.now.overflow c.args.name_list.now c.args.name.now c.hash-key.result 0 c.hash-key.ensures.key c.requires.found c.requires.few (λ i below. absurd (omega (arith, below)))
    (inr (c.probe-slot.result, c.probe-slot.ensures, end.0)) (λ k lt e z. let none = end.1 c.args.name.now in cc (sym none ∙ z)))
