use Rattle.steps.proofs.Words.{on_ok_weaker}
use Rattle.steps.proofs.ListeningLemmas.{hears-hypothesis}
use Rattle.steps.proofs.table_draft.TableDraftListener.hypothesis.Goals as goal

pub returns : goal.returns
returns c = on_ok_weaker c.cite_step.result (hears-hypothesis _ _ c.args.position c.args.range _ c.new.ensures.items) c.cite_step.ensures
