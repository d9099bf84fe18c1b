use Rattle.unproved.proofs.Words.{◌≡◌, ◌+◌, ◌-◌, ◌<◌, ◌≤◌, ◌∙◌, IfOk, Some, ap, arith, length, subst, sym, proof_of, is_provable, IsProvedIfProvable, not-provable, stands_index, judged-stands, not-there, provable-bare}
use Rattle.verify.specs.Right.{IsAnswerIfAny}
use Rattle.unproved.proofs.RangeLemmas.{answered}
use Rattle.verify_pool.proofs.FirstWrongLemmas.{counts_nothing}
use Rattle.library.proofs.ProvingLemmas.{stands-bare}
use Rattle.verify.specs.Proves.{Proves}
use Rattle.library.specs.Words.{stmt_at}
use Rattle.unproved.proofs.statement_range.StatementRangeWork.judge.Goals as goal

pub prove-requires : goal.prove-requires
prove-requires c =
    let less : c.args.index < c.self.inside.end - c.self.inside.start = subst (λ v. c.args.index < v.end - v.start) (sym c.self.view_is) c.requires in
    let within : c.self.inside.end ≤ length c.self.inside.statements.now = c.self.invariant.within in
    let stands : stmt_at c.self.inside.statements.now (c.self.inside.start + c.args.index + 1) ≡ Some c.index-self-at.result = stands_index c.self.inside.statements.now (c.self.inside.start + c.args.index + 1) c.index-self-at.result (omega arith) (omega (arith, less, within)) c.index-self-at.is in
    record { provable = (_, provable-bare _ _ _ _ c.self.invariant.frames_are (record { stands = stands; provable = ap is_provable (c.index-self-at.is ∙ c.in-Prove.is) })) }

pub returns-in-Prove-clause-answer : goal.returns-in-Prove-clause-answer
returns-in-Prove-clause-answer c =
    let less : c.args.index < c.self.inside.end - c.self.inside.start = subst (λ v. c.args.index < v.end - v.start) (sym c.self.view_is) c.requires in
    let within : c.self.inside.end ≤ length c.self.inside.statements.now = c.self.invariant.within in
    let stands : stmt_at c.self.inside.statements.now (c.self.inside.start + c.args.index + 1) ≡ Some c.index-self-at.result = stands_index c.self.inside.statements.now (c.self.inside.start + c.args.index + 1) c.index-self-at.result (omega arith) (omega (arith, less, within)) c.index-self-at.is in
    subst (λ v. IfOk c.prove.result (λ answer. IsAnswerIfAny answer (IsProvedIfProvable v.statements (v.start + c.args.index + 1)))) c.self.view_is
    (judged-stands _ _ _ _ c.self.invariant.frames_are (record { stands = stands; provable = ap is_provable (c.index-self-at.is ∙ c.in-Prove.is) }) c.in-Prove.proof (ap proof_of (c.index-self-at.is ∙ c.in-Prove.is)) c.prove.result c.prove.ensures.answer)

pub returns-in_default-clause-answer : goal.returns-in_default-clause-answer
returns-in_default-clause-answer c =
    let less : c.args.index < c.self.inside.end - c.self.inside.start = subst (λ v. c.args.index < v.end - v.start) (sym c.self.view_is) c.requires in
    let within : c.self.inside.end ≤ length c.self.inside.statements.now = c.self.invariant.within in
    let stands : stmt_at c.self.inside.statements.now (c.self.inside.start + c.args.index + 1) ≡ Some c.index-self-at.result = stands_index c.self.inside.statements.now (c.self.inside.start + c.args.index + 1) c.index-self-at.result (omega arith) (omega (arith, less, within)) c.index-self-at.is in
    subst (λ v. IsProvedIfProvable v.statements (v.start + c.args.index + 1)) c.self.view_is
    (λ r p. absurd (not-there _ _ _ stands (not-provable c.index-self-at.result (λ label expr proof e. c.in_default.not-Prove label expr proof (sym c.index-self-at.is ∙ e))) r p))

pub returns-in-Prove-clause-counted : goal.returns-in-Prove-clause-counted
returns-in-Prove-clause-counted c =
    let F = c.self.inside.frames.now.statements in
    let at = c.self.inside.start + c.args.index + 1 in
    let less : c.args.index < c.self.inside.end - c.self.inside.start = subst (λ v. c.args.index < v.end - v.start) (sym c.self.view_is) c.requires in
    let within : c.self.inside.end ≤ length c.self.inside.statements.now = c.self.invariant.within in
    let stands : stmt_at c.self.inside.statements.now at ≡ Some c.index-self-at.result = stands_index c.self.inside.statements.now at c.index-self-at.result (omega arith) (omega (arith, less, within)) c.index-self-at.is in
    counts_nothing (Proves F at c.in-Prove.proof) c.args._meter.now c.prove.result
    (answered F at _ c.in-Prove.proof c.new-meter.result c.prove.new.meter (Proves F at c.in-Prove.proof) c.prove.result
    (stands-bare _ _ _ _ c.self.invariant.frames_are (record { stands = stands; provable = ap is_provable (c.index-self-at.is ∙ c.in-Prove.is) }))
    c.new-meter.ensures.limit c.prove.ensures.answer c.prove.ensures.counted)
