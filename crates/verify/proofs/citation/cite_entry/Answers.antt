use Rattle.verify.proofs.Words.{arith, refl, true, false, true≢false, of_hypothesis}
use Rattle.verify.proofs.StepLemmas.{given-result}
use Rattle.verify.proofs.WalkLemmas.{hypothesis-heard, assertion-heard, cited-some, assertion-low}
use Rattle.verify.proofs.ItemCountLemmas.{hypothesis-counted, nothing-counted}
use Rattle.verify.proofs.citation.cite_entry.Goals as goal

pub returns-then-not-branch-clause-effect : goal.returns-then-not-branch-clause-effect
returns-then-not-branch-clause-effect g c = λ label is.
    let s = rw c.in-Hypothesis.is at is in
    given-result _ _ _ c.requires.ready.legal c.args.buffers.now.results.results c.add.new.self.results c.requires.named label false c.expr.result.now (of_hypothesis c.in-Hypothesis.i s.0 s.1 s.2 (c.expr.ensures.same s.0 s.2.stands) refl) c.expr.ensures.codes
    (rw c.if-not-branch.true at c.in_ok-add-in-Hypothesis.ensures.adds)

pub returns-in_ok-hypothesis-in-Hypothesis-clause-effect : goal.returns-in_ok-hypothesis-in-Hypothesis-clause-effect
returns-in_ok-hypothesis-in-Hypothesis-clause-effect g c = λ label is.
    let s = rw c.in-Hypothesis.is at is in
    given-result _ _ _ c.requires.ready.legal c.args.buffers.now.results.results c.add.new.self.results c.requires.named label true c.expr.result.now (of_hypothesis c.in-Hypothesis.i s.0 s.1 s.2 (c.expr.ensures.same s.0 s.2.stands) refl) c.expr.ensures.codes
    (rw c.if-not-branch.false at c.in_ok-add-in-Hypothesis.ensures.adds)

pub returns-in_ok-hypothesis-in-Hypothesis-clause-heard : goal.returns-in_ok-hypothesis-in-Hypothesis-clause-heard
returns-in_ok-hypothesis-in-Hypothesis-clause-heard g c = λ label is.
    hypothesis-heard g.L.Listener.follows c.args.context.now.frames.now c.args.context.now.at c.in-Hypothesis.i c.last_range.result c.args.buffers.now.results c.add.new.self c.args.listener.now c.hypothesis.new.self
    c.in_ok-hypothesis-in-Hypothesis.ensures c.requires.ready.legal label (rw c.in-Hypothesis.is at is) (returns-in_ok-hypothesis-in-Hypothesis-clause-effect g c label is) (rw c.if-not-branch.false at c.in_ok-add-in-Hypothesis.ensures.kept) c.last_range.ensures

pub returns-then-not-branch-2-clause-effect : goal.returns-then-not-branch-2-clause-effect
returns-then-not-branch-2-clause-effect g c = λ label is. (rw c.if-not-branch-2.true at c.in_ok-cite-in-Assertion.ensures.effect) label (rw c.in-Assertion.is at is)

pub overflow_sub-count : goal.overflow_sub-count
overflow_sub-count g c =
    let e = c.requires.entry in
    let run = ((rw c.if-not-branch-2.false at c.in_ok-cite-in-Assertion.ensures.effect) e.0 (rw c.in-Assertion.is at e.1)).0 in
    let some = cited-some c.args.context.now.frames.now.statements c.args.context.now.at c.args.context.now.frames.now.names c.requires.ready.legal.once e.0 c.args.buffers.now.results.results c.cite.new.buffers.results.results run in
    omega (arith, some, c.len.ensures)

pub overflow_sub-count-in-Assertion : goal.overflow_sub-count-in-Assertion
overflow_sub-count-in-Assertion g c =
    let e = c.requires.entry in
    let run = ((rw c.if-not-branch-2.false at c.in_ok-cite-in-Assertion.ensures.effect) e.0 (rw c.in-Assertion.is at e.1)).0 in
    let low = assertion-low c.args.context.now.frames.now.statements c.args.context.now.at c.args.context.now.frames.now.names c.requires.ready.legal.once e.0 c.args.buffers.now.results.results c.cite.new.buffers.results.results run c.in-Assertion.position (rw c.in-Assertion.is at e.1) in
    omega (arith, low, c.len.ensures, c.len-stack_len.ensures)

pub last_range-requires-in-Assertion : goal.last_range-requires-in-Assertion
last_range-requires-in-Assertion g c =
    let e = c.requires.entry in
    let run = ((rw c.if-not-branch-2.false at c.in_ok-cite-in-Assertion.ensures.effect) e.0 (rw c.in-Assertion.is at e.1)).0 in
    cited-some c.args.context.now.frames.now.statements c.args.context.now.at c.args.context.now.frames.now.names c.requires.ready.legal.once e.0 c.args.buffers.now.results.results c.cite.new.buffers.results.results run

pub returns-in_ok-assertion-in-Assertion-clause-effect : goal.returns-in_ok-assertion-in-Assertion-clause-effect
returns-in_ok-assertion-in-Assertion-clause-effect g c = λ label is. (rw c.if-not-branch-2.false at c.in_ok-cite-in-Assertion.ensures.effect) label (rw c.in-Assertion.is at is)

pub returns-in_ok-assertion-in-Assertion-clause-heard : goal.returns-in_ok-assertion-in-Assertion-clause-heard
returns-in_ok-assertion-in-Assertion-clause-heard g c = λ label is.
    assertion-heard g.L.Listener.follows c.args.context.now.frames.now c.args.context.now.at c.in-Assertion.position _ c.last_range-in-Assertion.result c.args.buffers.now.results c.cite.new.buffers.results c.args.listener.now c.assertion.new.self
    c.in_ok-assertion-in-Assertion.ensures c.requires.ready.legal label (rw c.in-Assertion.is at is) (returns-in_ok-assertion-in-Assertion-clause-effect g c label is) (rw c.if-not-branch-2.false at c.in_ok-cite-in-Assertion.ensures.kept) c.last_range-in-Assertion.ensures
    (omega (arith, c.len.ensures, c.len-stack_len.ensures))

-- ---- what is counted

pub returns-then-not-branch-clause-counted : goal.returns-then-not-branch-clause-counted
returns-then-not-branch-clause-counted g c =
    rw (c.in-Hypothesis.is) (hypothesis-counted c.args.context.now c.args.buffers.now.results c.add.new.self c.args.meter.now c.args.meter.now c.requires.ready c.in-Hypothesis.i c.expr.result.now false c.expr.ensures.same refl
    c.in_ok-add-in-Hypothesis.ensures.light (λ e. (rw c.if-not-branch.true at c.in_ok-add-in-Hypothesis.ensures.kept).0) (rw c.if-not-branch.true at c.in_ok-add-in-Hypothesis.ensures.adds))

pub returns-in_ok-hypothesis-in-Hypothesis-clause-counted : goal.returns-in_ok-hypothesis-in-Hypothesis-clause-counted
returns-in_ok-hypothesis-in-Hypothesis-clause-counted g c =
    rw (c.in-Hypothesis.is) (hypothesis-counted c.args.context.now c.args.buffers.now.results c.add.new.self c.args.meter.now c.args.meter.now c.requires.ready c.in-Hypothesis.i c.expr.result.now true c.expr.ensures.same refl
    c.in_ok-add-in-Hypothesis.ensures.light (λ e. absurd (true≢false e)) (rw c.if-not-branch.false at c.in_ok-add-in-Hypothesis.ensures.adds))

pub returns-then-not-branch-2-clause-counted : goal.returns-then-not-branch-2-clause-counted
returns-then-not-branch-2-clause-counted g c = λ label is. (rw c.if-not-branch-2.true at c.in_ok-cite-in-Assertion.ensures.counted) label (rw c.in-Assertion.is at is)

pub returns-in_ok-assertion-in-Assertion-clause-counted : goal.returns-in_ok-assertion-in-Assertion-clause-counted
returns-in_ok-assertion-in-Assertion-clause-counted g c = λ label is. (rw c.if-not-branch-2.false at c.in_ok-cite-in-Assertion.ensures.counted) label (rw c.in-Assertion.is at is)

pub returns-in-Nothing-clause-counted : goal.returns-in-Nothing-clause-counted
returns-in-Nothing-clause-counted g c = rw (c.in-Nothing.is) (nothing-counted c.args.context.now c.args.buffers.now.results c.args.buffers.now.results c.args.meter.now c.args.meter.now refl refl)
