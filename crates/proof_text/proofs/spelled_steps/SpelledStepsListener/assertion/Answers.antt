use Rattle.std.proofs.lemmas.Result.{on_ok_weaker}
use Rattle.proof_text.proofs.SpelledLemmas.{hears-assertion}
use Rattle.proof_text.proofs.spelled_steps.SpelledStepsListener.assertion.Goals as goal

pub returns : goal.returns
returns c = on_ok_weaker c.cite.result (hears-assertion _ _ c.args.position c.args.count _) c.cite.ensures
