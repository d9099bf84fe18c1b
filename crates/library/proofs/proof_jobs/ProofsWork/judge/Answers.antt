use Rattle.library.proofs.Words.{◌≡◌, ◌∙◌, ◌<◌, ap, get_or, length, subst, sym, proof_of, is_provable, IfOk, IsAnswerIfAny, IsProvedIfProvable, provable-bare}
use Rattle.verify.specs.Counted.{HasCountedAnswer}
use Rattle.verify.specs.Metered.{with_work}
use Rattle.library.specs.ProofJobs.{proof_work_at}
use Rattle.library.proofs.ProvingLemmas.{judged-counts, judged-nothing, judged-stands, not-there}
use Rattle.library.proofs.UnprovedLemmas.{proof-at, proof-stands}
use Rattle.library.proofs.CitedByLemmas.{not-provable}
use Rattle.library.proofs.proof_jobs.ProofsWork.judge.Goals as goal

pub prove-requires : goal.prove-requires
prove-requires c =
    let stands = proof-stands _ _ _ c.self.invariant c.args.index _ _ (subst (λ v. c.args.index < length v.positions) (sym c.self.view_is) c.requires) c.index-at.ensures c.index-self-at.is in
    record { provable = (_, provable-bare _ _ _ _ c.self.invariant.same (record { stands = stands; provable = ap is_provable (c.index-self-at.is ∙ c.in-Prove.is) })) }

pub returns-in-Prove-clause-answer : goal.returns-in-Prove-clause-answer
returns-in-Prove-clause-answer c =
    let less = subst (λ v. c.args.index < length v.positions) (sym c.self.view_is) c.requires in
    let stands = proof-stands _ _ _ c.self.invariant c.args.index _ _ less c.index-at.ensures c.index-self-at.is in
    subst (λ v. IfOk c.prove.result (λ answer. IsAnswerIfAny answer (IsProvedIfProvable v.statements (get_or v.positions c.args.index 0)))) c.self.view_is
    (proof-at _ _ _ c.self.invariant c.args.index _ _ less c.index-at.ensures c.index-self-at.is (λ n. IfOk c.prove.result (λ answer. IsAnswerIfAny answer (IsProvedIfProvable c.self.inside.statements.now n)))
    (judged-stands _ _ _ _ c.self.invariant.same (record { stands = stands; provable = ap is_provable (c.index-self-at.is ∙ c.in-Prove.is) }) c.in-Prove.proof (ap proof_of (c.index-self-at.is ∙ c.in-Prove.is)) c.prove.result c.prove.ensures.answer))

pub returns-in-Prove-clause-counted : goal.returns-in-Prove-clause-counted
returns-in-Prove-clause-counted c =
    let less = subst (λ v. c.args.index < length v.positions) (sym c.self.view_is) c.requires in
    let stands = proof-stands _ _ _ c.self.invariant c.args.index _ _ less c.index-at.ensures c.index-self-at.is in
    subst (λ v. IfOk c.prove.result (HasCountedAnswer (proof_work_at v.statements (get_or v.positions c.args.index 0)) c.args.meter.now c.prove.new.meter)) c.self.view_is
    (proof-at _ _ _ c.self.invariant c.args.index _ _ less c.index-at.ensures c.index-self-at.is (λ n. IfOk c.prove.result (HasCountedAnswer (proof_work_at c.self.inside.statements.now n) c.args.meter.now c.prove.new.meter))
    (judged-counts c.self.inside.statements.now c.self.inside.frames.now.statements c.index-at.result.now c.index-self-at.result c.args.meter.now c.prove.new.meter c.in-Prove.proof c.prove.result c.self.invariant.same
    (record { stands = stands; provable = ap is_provable (c.index-self-at.is ∙ c.in-Prove.is) }) (ap proof_of (c.index-self-at.is ∙ c.in-Prove.is)) c.prove.ensures.counted))

pub returns-in_default-clause-answer : goal.returns-in_default-clause-answer
returns-in_default-clause-answer c =
    let less = subst (λ v. c.args.index < length v.positions) (sym c.self.view_is) c.requires in
    let stands = proof-stands _ _ _ c.self.invariant c.args.index _ _ less c.index-at.ensures c.index-self-at.is in
    subst (λ v. IsProvedIfProvable v.statements (get_or v.positions c.args.index 0)) c.self.view_is
    (proof-at _ _ _ c.self.invariant c.args.index _ _ less c.index-at.ensures c.index-self-at.is (IsProvedIfProvable c.self.inside.statements.now)
    (λ r p. absurd (not-there _ _ _ stands (not-provable c.index-self-at.result (λ label expr proof e. c.in_default.not-Prove label expr proof (sym c.index-self-at.is ∙ e))) r p)))

pub returns-in_default-clause-counted : goal.returns-in_default-clause-counted
returns-in_default-clause-counted c =
    let less = subst (λ v. c.args.index < length v.positions) (sym c.self.view_is) c.requires in
    let stands = proof-stands _ _ _ c.self.invariant c.args.index _ _ less c.index-at.ensures c.index-self-at.is in
    subst (λ v. c.args.meter.now ≡ with_work c.args.meter.now (proof_work_at v.statements (get_or v.positions c.args.index 0))) c.self.view_is
    (proof-at _ _ _ c.self.invariant c.args.index _ _ less c.index-at.ensures c.index-self-at.is (λ n. c.args.meter.now ≡ with_work c.args.meter.now (proof_work_at c.self.inside.statements.now n))
    (judged-nothing c.self.inside.statements.now c.index-at.result.now c.index-self-at.result c.args.meter.now stands
    (not-provable c.index-self-at.result (λ label expr proof e. c.in_default.not-Prove label expr proof (sym c.index-self-at.is ∙ e)))))
