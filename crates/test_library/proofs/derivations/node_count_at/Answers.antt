use Rattle.std.proofs.Common.{rules, length, IsTrue, None, sym, subst, ap, ◌∙◌}
use Rattle.scope.specs.Active.{bare, is_provable}
use Rattle.verify_pool.specs.declared.job.Job.{Job}
use Rattle.verify_pool.specs.Jobs.{IsJob}
use Rattle.verify_pool.proofs.JobsLemmas.{last_is_job}
use Rattle.test_library.proofs.derivations.node_count_at.Goals as goal

pub check-requires : goal.check-requires
check-requires c =
    let job : Job = record { at = c.len-at.result; items = None } in
    let provable : IsTrue (is_provable (bare c.args.stmt.now)) = search rules in
    subst (λ T. IsJob T job) (sym c.requires.1)
    (last_is_job c.requires.0 (bare c.args.stmt.now) job provable (c.len-at.ensures ∙ ap length c.requires.1))

pub derivation-requires : goal.derivation-requires
derivation-requires c =
    let job : Job = record { at = c.len-at.result; items = None } in
    let provable : IsTrue (is_provable (bare c.args.stmt.now)) = search rules in
    subst (λ T. IsJob T job) (sym c.requires.1)
    (last_is_job c.requires.0 (bare c.args.stmt.now) job provable (c.len-at.ensures ∙ ap length c.requires.1))
