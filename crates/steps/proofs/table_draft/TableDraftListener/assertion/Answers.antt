use Rattle.steps.proofs.Words.{on_ok_weaker, arith}
use Rattle.steps.proofs.ListeningLemmas.{hears-assertion}
use Rattle.steps.proofs.table_draft.TableDraftListener.assertion.Goals as goal

pub returns : goal.returns
returns c =
    on_ok_weaker c.cite_step.result
    (hears-assertion c.args.self.now c.split_off.new.self _ c.args.position c.args.count c.args.range _
    c.saturating_sub-keep.result (omega (arith, c.saturating_sub-keep.ensures, c.len.ensures)) c.in_ok-taken.ensures.items c.in_ok-taken.ensures.tail)
    c.cite_step.ensures
