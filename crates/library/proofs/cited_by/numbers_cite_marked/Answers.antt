use Rattle.library.proofs.Words.{◌<◌, ◌+◌, ◌∙◌, Some, ap, map, subst, sym, length, arith, list_any, take_all, is_marked, AreLabelMarks}
use Rattle.library.proofs.MeetingLemmas.{word-left, one-tested, early-meets, late-meets}
use Rattle.library.proofs.cited_by.numbers_cite_marked.Goals as goal

pub unreachable-requires : goal.unreachable-requires
unreachable-requires c =
    let within : c.loop.counter < length c.args.heading.words = let a = c.requires.listed in let b = c.loop-test.true in omega (arith, a, b) in
    word-left _ _ _ _ _ _ _ c.loop.invariant within c.in_default.ensures.steps.0

pub loop-preserved : goal.loop-preserved
loop-preserved c =
    let within : c.loop.counter < length c.args.heading.words = let a = c.requires.listed in let b = c.loop-test.true in omega (arith, a, b) in
    one-tested _ _ _ _ _ _ _ c.loop.invariant within c.in-Some.label.now c.next.new.self c.position.result c.is_marked-marked.result c.push-in-loop.new.self.items c.in-Some.ensures.steps c.position.ensures c.is_marked-marked.ensures c.in_ok-push-2.ensures.items

pub returns-then-has_marked : goal.returns-then-has_marked
returns-then-has_marked c =
    let within : c.loop.counter < length c.args.heading.words = let a = c.requires.listed in let b = c.loop-test.true in omega (arith, a, b) in
    λ front w. early-meets c.args.frames.now.statements c.args.marks.now c.args.heading.words c.next.new.self (c.loop.counter + 1) c.args.heading.count c.loop-position.label_marks.items c.push-in-loop.new.self.items c.args.numbers.now
    (one-tested _ _ _ _ _ _ _ c.loop.invariant within c.in-Some.label.now c.next.new.self c.position.result c.is_marked-marked.result c.push-in-loop.new.self.items c.in-Some.ensures.steps c.position.ensures c.is_marked-marked.ensures c.in_ok-push-2.ensures.items)
    (let b = c.loop-test.true in omega (arith, b)) c.requires.once
    (sym c.if-has_marked.true ∙ (c.has_marked.ensures ∙ ap (λ tests. list_any (λ n. is_marked tests (Some n)) c.args.numbers.now) c.deref.ensures.value)) front (subst (AreLabelMarks c.args.frames.now.statements front c.args.marks.now) (sym (c.loop-position.invariant ∙ ap (map (λ position. is_marked c.args.marks.now (Some position))) (let over = c.loop-position-test.false in take_all _ _ (omega (arith, over))))) w)

pub returns : goal.returns
returns c =
    λ front w. late-meets c.args.frames.now.statements c.args.marks.now c.args.heading.words _ c.loop.counter c.args.heading.count c.loop-position.label_marks.items c.loop.label_marks.items c.args.numbers.now c.has_marked-2.result
    c.loop.invariant (let b = c.loop-test.false in omega (arith, b)) c.requires.once
    (c.has_marked-2.ensures ∙ ap (λ tests. list_any (λ n. is_marked tests (Some n)) c.args.numbers.now) c.deref-2.ensures.value) front (subst (AreLabelMarks c.args.frames.now.statements front c.args.marks.now) (sym (c.loop-position.invariant ∙ ap (map (λ position. is_marked c.args.marks.now (Some position))) (let over = c.loop-position-test.false in take_all _ _ (omega (arith, over))))) w)
