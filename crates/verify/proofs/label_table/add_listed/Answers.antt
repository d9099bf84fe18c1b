use Rattle.verify.proofs.Words.{◌<◌, ◌∙◌, not, length, arith, sym, ap, subst, IsNonDecreasing, before, stands-within, is_hypothesis_among}
use Rattle.verify.proofs.LabelTableLemmas.{hypotheses-rise, word-left, one-added, one-shared}
use Rattle.verify.proofs.label_table.add_listed.Goals as goal

pub unreachable-requires : goal.unreachable-requires
unreachable-requires c =
    let within : c.loop.counter < length c.args.heading.words = let a = c.requires.listed in let b = c.loop-test.true in omega (arith, a, b) in
    word-left _ _ _ _ _ _ _ c.loop.invariant within c.in_default.ensures.steps.0

pub entry_of-entry-requires-clause-place : goal.entry_of-entry-requires-clause-place
entry_of-entry-requires-clause-place c = stands-within c.args.frames.now.statements c.args.at c.requires.provable.0 c.requires.provable.1.stands

pub is_among-requires : goal.is_among-requires
is_among-requires c =
    subst IsNonDecreasing (sym (c.requires.mandatory c.requires.provable.0 c.requires.provable.1))
    (hypotheses-rise (before c.args.frames.now.statements c.args.at) c.requires.provable.0)

pub returns-then-is_among-clause-apart : goal.returns-then-is_among-clause-apart
returns-then-is_among-clause-apart c = λ s provable.
    let within : c.loop.counter < length c.args.heading.words = let a = c.requires.listed in let b = c.loop-test.true in omega (arith, a, b) in
    ap not (sym (one-shared _ _ _ _ _ _ _ c.loop.invariant within c.in-Some.label.now c.next.new.self c.in-Some.ensures.steps c.entry_of-entry.result c.requires.legal.once (c.entry_of-entry.ensures c.in-Some.label.now c.position.ensures)
    c.requires.provable.0 c.requires.provable.1
    (ap (λ hs. is_hypothesis_among hs c.entry_of-entry.result) (sym (c.requires.mandatory c.requires.provable.0 c.requires.provable.1)) ∙ sym c.if-is_among.ensures)
    c.args.heading.count (let b = c.loop-test.true in omega (arith, b)) s provable))

pub loop-preserved : goal.loop-preserved
loop-preserved c =
    let within : c.loop.counter < length c.args.heading.words = let a = c.requires.listed in let b = c.loop-test.true in omega (arith, a, b) in
    one-added _ _ _ _ _ _ _ c.loop.invariant within c.in-Some.label.now c.next.new.self c.in-Some.ensures.steps c.entry_of-entry.result c.requires.legal.once (c.entry_of-entry.ensures c.in-Some.label.now c.position.ensures)
    c.requires.provable.0 c.requires.provable.1
    (ap (λ hs. is_hypothesis_among hs c.entry_of-entry.result) (sym (c.requires.mandatory c.requires.provable.0 c.requires.provable.1)) ∙ sym c.if-is_among.ensures)
    c.push.new.self.items c.in_ok-push.ensures.items
