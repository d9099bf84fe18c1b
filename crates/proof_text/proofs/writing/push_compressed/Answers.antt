use Rattle.proof_text.proofs.RequestLemmas.{assertion-there}
use Rattle.proof_text.proofs.writing.push_compressed.Goals as goal

pub mandatory-requires-clause-assertion : goal.mandatory-requires-clause-assertion
mandatory-requires-clause-assertion c = assertion-there c.args.request.now c.requires
