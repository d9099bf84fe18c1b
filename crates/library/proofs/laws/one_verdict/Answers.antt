use Rattle.library.proofs.LibraryLemmas.{applies-determined}
use Rattle.library.proofs.laws.one_verdict.Goals as goal

pub returns : goal.returns
returns c = applies-determined
