use Rattle.std.proofs.Common.{arith}
use Rattle.explain.proofs.StoppedLemmas.{one_result}
use Rattle.explain.proofs.run.end_reason.Goals as goal

pub returns : goal.returns
returns c = (c.get.result.now, one_result c.args.results.now.results.stack c.get.result.now (omega arith) c.get.ensures, c.in_ok-proved.ensures)
