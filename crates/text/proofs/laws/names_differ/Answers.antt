use Rattle.text.proofs.ReadingLemmas.{names-differ}
use Rattle.text.proofs.laws.names_differ.Goals as goal

pub returns : goal.returns
returns c = names-differ
