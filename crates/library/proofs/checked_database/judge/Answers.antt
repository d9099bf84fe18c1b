use Rattle.library.proofs.Words.{Ok, Some, ◌∙◌, ap, arith, inr, refl, subst}
use Rattle.library.specs.ProofJobs.{IsProofStop}
use Rattle.verify_pool.specs.declared.outcome.Outcome.TheVariants.{AllRight, Wrong}
use Rattle.verify_pool.specs.declared.outcome.Outcome.TheVariants as pool
use Rattle.library.proofs.CheckedDatabaseLemmas.{begun-stop}
use Rattle.library.proofs.FrontLemmas.{stands_index}
use Rattle.library.proofs.checked_database.judge.Goals as goal

pub returns-in-AllRight : goal.returns-in-AllRight
returns-in-AllRight g c =
    let S = c.args.statements.now in
    let from = c.begin_proofs-start.result in
    let stop = subst (IsProofStop S from c.begin_proofs-start.new.meter c.judge_proofs.new.meter) c.in-AllRight.is c.in_ok-judge_proofs.ensures in
    inr (c.in_ok-cause.was ∙ ap Ok c.in_default.is, (AllRight, begun-stop S c.args.added c.args.meter.now c.begin_proofs-start.new.meter c.judge_proofs.new.meter from AllRight c.requires.known c.begin_proofs-start.ensures stop, refl))

pub returns-in-TooCostly : goal.returns-in-TooCostly
returns-in-TooCostly g c =
    let S = c.args.statements.now in
    let from = c.begin_proofs-start.result in
    let at = c.in-TooCostly.at in
    let stop = subst (IsProofStop S from c.begin_proofs-start.new.meter c.judge_proofs.new.meter) c.in-TooCostly.is c.in_ok-judge_proofs.ensures in
    inr (c.in_ok-cause.was ∙ ap Ok c.in_default.is, (pool.TooCostly at, begun-stop S c.args.added c.args.meter.now c.begin_proofs-start.new.meter c.judge_proofs.new.meter from (pool.TooCostly at) c.requires.known c.begin_proofs-start.ensures stop, refl))

pub returns-in-Wrong : goal.returns-in-Wrong
returns-in-Wrong g c =
    let S = c.args.statements.now in
    let from = c.begin_proofs-start.result in
    let at = c.in-Wrong.at in
    let stop = subst (IsProofStop S from c.begin_proofs-start.new.meter c.judge_proofs.new.meter) c.in-Wrong.is c.in_ok-judge_proofs.ensures in
    let whole = begun-stop S c.args.added c.args.meter.now c.begin_proofs-start.new.meter c.judge_proofs.new.meter from (Wrong at) c.requires.known c.begin_proofs-start.ensures stop in
    let above = whole.0 in
    inr (c.in_ok-cause.was ∙ ap Ok c.in_default.is, (Wrong at, whole, (c.index-statements-at.result, stands_index S at c.index-statements-at.result (omega (arith, above)) whole.1 c.index-statements-at.is, ap Some c.proof_cause.ensures)))
