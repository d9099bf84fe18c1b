use Rattle.std.proofs.lemmas.Result.{on_ok_weaker}
use Rattle.proof_text.proofs.SpelledLemmas.{hears-hypothesis}
use Rattle.proof_text.proofs.spelled_steps.SpelledStepsListener.hypothesis.Goals as goal

pub returns : goal.returns
returns c = on_ok_weaker c.cite.result (hears-hypothesis _ _ c.args.position _) c.cite.ensures
