use Rattle.std.proofs.Common.{◌∙◌, sym, inl, inr, below_more, arith}
use Rattle.names.proofs.CodesLemmas.{code-at}
use Rattle.names.proofs.TableLemmas.{passed-one, ended}
use Rattle.names.proofs.table.search_slots.Goals as goal
use Rattle.names.proofs.table.search_slots.Goals.{else-slot-half-via-then-slot-half+else-is_name, else-slot-half-via-else-slot-half}

pub returns-then-slot : goal.returns-then-slot
returns-then-slot c =
    ended c.args.slots.now c.args.name_keys.now.overflow c.args.name_list.now c.args.name.now c.key-key.result c.loop-step.step c.search_overflow.result c.key-key.ensures.key c.requires.found c.requires.few c.loop-step.invariant
    (inr (c.probe-slot.result, c.probe-slot.ensures, c.if-slot.true)) c.search_overflow.ensures.some c.search_overflow.ensures.none

pub returns-then-is_name : goal.returns-then-is_name
returns-then-is_name c =
    let p = c.is_name.ensures.yes c.if-is_name.true in
    sym (code-at c.args.name_list.now c.args.name.now c.probe-slot.result.code c.requires.distinct p.0 p.1)

pub loop-step-preserved : goal.loop-step-preserved
loop-step-preserved c =
    below_more _ _ c.loop-step.invariant
    (passed-one c.args.slots.now c.args.name_list.now c.args.name.now c.key-key.result c.loop-step.step c.probe-slot.result c.probe-slot.ensures c.if-slot.false
    (λ own. elim c.else-slot-half.branch [
      | else-slot-half-via-then-slot-half+else-is_name w ↦ w.is_name.ensures.no w.if-is_name.false
      | else-slot-half-via-else-slot-half w ↦ absurd (w.if-slot-half.false (own ∙ sym c.half-half.ensures))
    ]))

pub returns : goal.returns
returns c =
    ended c.args.slots.now c.args.name_keys.now.overflow c.args.name_list.now c.args.name.now c.key-key.result c.loop-step.step c.search_overflow-2.result c.key-key.ensures.key c.requires.found c.requires.few c.loop-step.invariant
    (inl (elim c.max_steps-step-end.ensures.all [
      | inl p ↦ inl (omega (arith, p))
      | inr p ↦ inr (omega (arith, p))
    ])) c.search_overflow-2.ensures.some c.search_overflow-2.ensures.none
