use Rattle.std.proofs.Common.{Some}
use Rattle.steps.proofs.KnownMapLemmas.{others-same}
use Rattle.steps.proofs.step_places.record_place.Goals as goal

pub returns-clause-others : goal.returns-clause-others
returns-clause-others c = λ x ne. others-same c.args.key.items c.args.step_places.now c.insert.new.self (Some c.args.place) c.in_ok-insert.ensures.updates x ne
