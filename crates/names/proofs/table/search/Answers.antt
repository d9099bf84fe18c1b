use Rattle.names.proofs.Words.{◌≡◌, ◌∙◌, sym, rules, arith, inr, name_at}
use Rattle.names.proofs.KeysLemmas.{key-same}
use Rattle.names.proofs.CodesLemmas.{code-at}
use Rattle.names.proofs.TableLemmas.{not-found}
use Rattle.names.proofs.table.search.Goals as goal

pub returns-then-has : goal.returns-then-has
returns-then-has c =
    let slot = c.probe-slot.result in
    let h = c.has.ensures c.if-has.true in
    let same : c.args.name.now ≡ name_at c.args.name_list.now slot.code =
    key-same c.args.name.now (name_at c.args.name_list.now slot.code) c.short_key-key.ensures.bytes h.1 (search rules) (sym c.short_key-key.ensures.key ∙ sym h.2) in
    sym (code-at c.args.name_list.now c.args.name.now slot.code c.requires.distinct h.0 (sym same))

pub returns-then-is_absent : goal.returns-then-is_absent
returns-then-is_absent c =
    let end = c.is_absent.ensures c.if-is_absent.true in
    sym (not-found c.args.slots.now c.args.name_keys.now.overflow c.args.name_list.now c.args.name.now c.short_key-key.result 0 c.short_key-key.ensures.key c.requires.found c.requires.few (λ i below. absurd (omega (arith, below)))
    (inr (c.probe-slot.result, c.probe-slot.ensures, end.0)) (λ k lt e z. let none = end.1 c.args.name.now in cc (sym none ∙ z)))
