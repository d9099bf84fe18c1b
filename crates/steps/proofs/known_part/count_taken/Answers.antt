use Rattle.steps.proofs.Words.{◌≡◌, length, ap, arith, hypotheses, before}
use Rattle.steps.proofs.KnownPartLemmas.{hypothesis-takes, assertion-takes, nothing-takes}
use Rattle.steps.proofs.known_part.count_taken.Goals as goal

pub returns-in-Hypothesis : goal.returns-in-Hypothesis
returns-in-Hypothesis c =
    hypothesis-takes c.args.frames.now.statements c.args.at c.in-Some.position c.args.label.now c.in-Some.ensures (c.in-Hypothesis.ensures.0, c.in-Hypothesis.ensures.1)

pub returns-in_ok-mandatory-in-Assertion : goal.returns-in_ok-mandatory-in-Assertion
returns-in_ok-mandatory-in-Assertion c =
    let s = c.in-Assertion.ensures.0 in
    let S = c.args.frames.now.statements in
    let listed = ap length (c.in_ok-mandatory-in-Assertion.ensures.listed s c.in-Assertion.ensures.1.0) in
    let all : c.len.result ≡ length (hypotheses (before S c.in-Some.position) s) = omega (arith, listed, c.len.ensures) in
    assertion-takes S c.args.at c.in-Some.position c.args.label.now c.in-Some.ensures c.len.result s c.in-Assertion.ensures.1 c.in-Assertion.ensures.2 all

pub returns-in-Nothing : goal.returns-in-Nothing
returns-in-Nothing c = nothing-takes c.args.frames.now.statements c.args.at c.in-Some.position c.args.label.now c.in-Some.ensures c.in-Nothing.ensures
