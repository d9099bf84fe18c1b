-- The keep of a node, which `main` names, may be sent to another thread.
use denote.Exit.{no}
use denote.Param.Send.{arg_send, param_send}
use Rattle.node_files.proofs.SendLemmas.{keep_send}
use Rattle.world.specs.contracts.carried.CarriedValue.TheImpl as value
use Rattle.entry_rows.specs.contracts.entry_columns.EntryColumnsValueColumnsCarried.TheImpl as columns
use Rattle.world.proofs.carried.Carried.TheSendSync as sent_value
use Rattle.entry_rows.proofs.entry_columns.EntryColumns.TheSendSync as sent_columns
use Rattle.mmlib.proofs.main.Goals as goal

pub run-requires-send-K-Keep : goal.run-requires-send-K-Keep
run-requires-send-K-Keep g c κs = param_send _ _ (arg_send _ no _
    (keep_send _ _ value.ghosts columns.ghosts sent_value.the_send sent_columns.the_send))
