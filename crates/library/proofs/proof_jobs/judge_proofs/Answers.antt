use Rattle.library.proofs.Words.{IfOk, IsRightProof, length, ◌≡◌, ◌+◌, Some, refl, suc, subst, sym, ◌∙◌, arith, inl, inr, true≢false, get_or_default, slice_get_read, stmt_at}
use Rattle.verify_pool.specs.FirstStop.{IsFirstStop}
use Rattle.library.specs.ProofJobs.{IsProofStop, ProofsAt, work_of_proof}
use Rattle.verify_pool.specs.declared.outcome.Outcome.TheVariants.{AllRight, Wrong}
use Rattle.verify_pool.specs.declared.outcome.Outcome.TheVariants as pool
use Rattle.library.proofs.UnprovedLemmas.{all-after, all-right, are-proofs, after-more, after-pass, costly-at, stop-within, wrong-at}
use Rattle.library.proofs.ProvingLemmas.{not-there}
use Rattle.library.proofs.proof_jobs.judge_proofs.Goals as goal
use Rattle.library.proofs.proof_jobs.judge_proofs.Goals.{then-is_provable+in_ok-push, else-is_provable}

pub loop-index-preserved : goal.loop-index-preserved
loop-index-preserved g c =
    let S = c.args.statements.now in
    let start = c.args.start in
    let index = c.loop-index.index in
    let s = c.index-statements-index.result in
    let next : suc index ≡ index + 1 = omega arith in
    elim c.if-is_provable.branch [
      | then-is_provable+in_ok-push w ↦ rw (w.positions-is, w.in_ok-push.ensures.items)
          (after-more S start index c.loop-index.positions.items c.loop-index.auto.index c.loop-index.invariant)
      | else-is_provable w ↦ rw w.positions-is
          (after-pass S start index c.loop-index.positions.items c.loop-index.invariant (not-there S (index + 1) s (subst (λ n. stmt_at S n ≡ Some s) next (slice_get_read S _ index s refl c.loop-index-test.true c.index-statements-index.is))
          (λ f. true≢false (sym f ∙ (sym c.is_provable.ensures ∙ w.if-is_provable.false)))))
    ]

pub invariant_of-proofs : goal.invariant_of-proofs
invariant_of-proofs g c =
    are-proofs c.args.statements.now c.args.frames.now.statements c.args.start c.loop-index.positions.items c.requires.same (all-after c.args.statements.now c.args.start c.loop-index.index c.loop-index.positions.items (c.loop-index.auto.index-end c.requires.begins) c.loop-index-test.false c.loop-index.invariant)

pub returns-in-AllRight : goal.returns-in-AllRight
returns-in-AllRight g c =
    let S = c.args.statements.now in
    let ps = c.loop-index.positions.items in
    let P : ProofsAt = record { statements = S; positions = ps } in
    let are = (all-after c.args.statements.now c.args.start c.loop-index.index c.loop-index.positions.items (c.loop-index.auto.index-end c.requires.begins) c.loop-index-test.false c.loop-index.invariant) in
    let told : IfOk c.judge.result (IsFirstStop (IsRightProof P) (work_of_proof P) (length ps) c.args.meter.now c.judge.new.arg4) = c.requires.judges.1 _ _ _ _ _ _ c.judge.ensures in
    let stops = subst (λ o. IsFirstStop (IsRightProof P) (work_of_proof P) (length ps) c.args.meter.now c.judge.new.arg4 o) c.in-AllRight.is
    (subst (λ r. IfOk r (IsFirstStop (IsRightProof P) (work_of_proof P) (length ps) c.args.meter.now c.judge.new.arg4)) c.in_ok-judge.was told) in
    all-right S c.args.start ps c.requires.begins are c.args.meter.now c.judge.new.arg4 stops

pub index-requires : goal.index-requires
index-requires g c =
    let S = c.args.statements.now in
    let ps = c.loop-index.positions.items in
    let P : ProofsAt = record { statements = S; positions = ps } in
    let are = (all-after c.args.statements.now c.args.start c.loop-index.index c.loop-index.positions.items (c.loop-index.auto.index-end c.requires.begins) c.loop-index-test.false c.loop-index.invariant) in
    let told : IfOk c.judge.result (IsFirstStop (IsRightProof P) (work_of_proof P) (length ps) c.args.meter.now c.judge.new.arg4) = c.requires.judges.1 _ _ _ _ _ _ c.judge.ensures in
    let stops = subst (λ r. IfOk r (IsFirstStop (IsRightProof P) (work_of_proof P) (length ps) c.args.meter.now c.judge.new.arg4)) c.in_ok-judge.was told in
    let within = stop-within S c.args.start ps c.requires.begins are c.args.meter.now c.judge.new.arg4 c.in-Wrong.index _ stops (inl c.in-Wrong.is) in
    omega (arith, within, c.loop-index.positions.ok.0)

pub returns-in-Wrong : goal.returns-in-Wrong
returns-in-Wrong g c =
    let S = c.args.statements.now in
    let ps = c.loop-index.positions.items in
    let P : ProofsAt = record { statements = S; positions = ps } in
    let are = (all-after c.args.statements.now c.args.start c.loop-index.index c.loop-index.positions.items (c.loop-index.auto.index-end c.requires.begins) c.loop-index-test.false c.loop-index.invariant) in
    let told : IfOk c.judge.result (IsFirstStop (IsRightProof P) (work_of_proof P) (length ps) c.args.meter.now c.judge.new.arg4) = c.requires.judges.1 _ _ _ _ _ _ c.judge.ensures in
    let stops = subst (λ o. IsFirstStop (IsRightProof P) (work_of_proof P) (length ps) c.args.meter.now c.judge.new.arg4 o) c.in-Wrong.is
    (subst (λ r. IfOk r (IsFirstStop (IsRightProof P) (work_of_proof P) (length ps) c.args.meter.now c.judge.new.arg4)) c.in_ok-judge.was told) in
    let at = c.index.ensures ∙ get_or_default ps c.in-Wrong.index c.index.result.now 0 stops.0.stands in
    subst (λ n. IsProofStop S c.args.start c.args.meter.now c.judge.new.arg4 (Wrong n)) (sym at) (wrong-at S c.args.start ps c.requires.begins are c.args.meter.now c.judge.new.arg4 c.in-Wrong.index stops)

pub index-requires-in-TooCostly : goal.index-requires-in-TooCostly
index-requires-in-TooCostly g c =
    let S = c.args.statements.now in
    let ps = c.loop-index.positions.items in
    let P : ProofsAt = record { statements = S; positions = ps } in
    let are = (all-after c.args.statements.now c.args.start c.loop-index.index c.loop-index.positions.items (c.loop-index.auto.index-end c.requires.begins) c.loop-index-test.false c.loop-index.invariant) in
    let told : IfOk c.judge.result (IsFirstStop (IsRightProof P) (work_of_proof P) (length ps) c.args.meter.now c.judge.new.arg4) = c.requires.judges.1 _ _ _ _ _ _ c.judge.ensures in
    let stops = subst (λ r. IfOk r (IsFirstStop (IsRightProof P) (work_of_proof P) (length ps) c.args.meter.now c.judge.new.arg4)) c.in_ok-judge.was told in
    let within = stop-within S c.args.start ps c.requires.begins are c.args.meter.now c.judge.new.arg4 c.in-TooCostly.index _ stops (inr c.in-TooCostly.is) in
    omega (arith, within, c.loop-index.positions.ok.0)

pub returns : goal.returns
returns g c =
    let S = c.args.statements.now in
    let ps = c.loop-index.positions.items in
    let P : ProofsAt = record { statements = S; positions = ps } in
    let are = (all-after c.args.statements.now c.args.start c.loop-index.index c.loop-index.positions.items (c.loop-index.auto.index-end c.requires.begins) c.loop-index-test.false c.loop-index.invariant) in
    let told : IfOk c.judge.result (IsFirstStop (IsRightProof P) (work_of_proof P) (length ps) c.args.meter.now c.judge.new.arg4) = c.requires.judges.1 _ _ _ _ _ _ c.judge.ensures in
    let stops = subst (λ o. IsFirstStop (IsRightProof P) (work_of_proof P) (length ps) c.args.meter.now c.judge.new.arg4 o) c.in-TooCostly.is
    (subst (λ r. IfOk r (IsFirstStop (IsRightProof P) (work_of_proof P) (length ps) c.args.meter.now c.judge.new.arg4)) c.in_ok-judge.was told) in
    let at = c.index-in-TooCostly.ensures ∙ get_or_default ps c.in-TooCostly.index c.index-in-TooCostly.result.now 0 stops.stands in
    subst (λ n. IsProofStop S c.args.start c.args.meter.now c.judge.new.arg4 (pool.TooCostly n)) (sym at) (costly-at S c.args.start ps c.requires.begins are c.args.meter.now c.judge.new.arg4 c.in-TooCostly.index stops)
