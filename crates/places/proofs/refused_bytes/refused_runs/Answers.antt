use Rattle.places.proofs.Words.{◌∙◌, ◌+◌, ◌++◌, ap, not}
use Rattle.std.proofs.Common.{drop}
use Rattle.places.proofs.RefusedByteLemmas.{run-step}
use Rattle.places.specs.RefusedBytes.{refused_runs}
use Rattle.places.proofs.refused_bytes.refused_runs.Goals as goal

pub loop-at-preserved : goal.loop-at-preserved
loop-at-preserved c =
    ap (λ o. o ++ refused_runs (c.loop-at.at + 1) (not c.is_allowed-is_refused.result) (drop (c.loop-at.at + 1) c.args.text.now)) c.in_ok-push_if_run_begins.ensures
    ∙ run-step c.args.text.now c.loop-at.offsets.items _ c.loop-at.at c.loop-at.is_inside c.is_allowed-is_refused.result c.loop-at-test.true c.is_allowed-is_refused.ensures c.loop-at.invariant
