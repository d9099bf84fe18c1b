use Rattle.library.proofs.Words.{subst}
use Rattle.library.specs.ProofJobs.{IsProofStop}
use Rattle.library.proofs.UnprovedLemmas.{all-to}
use Rattle.library.proofs.adding.verify_ahead.Goals as goal

pub returns-in-Ok-AllRight-clause-proved : goal.returns-in-Ok-AllRight-clause-proved
returns-in-Ok-AllRight-clause-proved g c =
    let S = c.args.statements.now in
    rw c.count.ensures (all-to S c.new-proofs_meter.result c.judge_proofs.new.meter c.new-proofs_meter.ensures.count
    (subst (IsProofStop S 0 c.new-proofs_meter.result c.judge_proofs.new.meter) c.in-Ok-AllRight.field-0-is c.in-Ok-AllRight.ensures))
