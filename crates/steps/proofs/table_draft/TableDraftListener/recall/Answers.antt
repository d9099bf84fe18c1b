use Rattle.steps.proofs.Words.{refl, arith}
use Rattle.steps.proofs.ListeningLemmas.{hears-recall, hears-no-recall}
use Rattle.steps.proofs.table_draft.TableDraftListener.recall.Goals as goal

pub returns-in_ok-push : goal.returns-in_ok-push
returns-in_ok-push c =
    let k = c.index-place.result.now in
    hears-recall _ _ c.args.index k k (omega (arith, c.if-index-len.true, c.len.ensures)) c.index-place.ensures refl refl c.in_ok-push.ensures.items refl

pub returns-else-index-len : goal.returns-else-index-len
returns-else-index-len c = hears-no-recall _ _ c.args.index (omega (arith, c.if-index-len.false, c.len.ensures))
