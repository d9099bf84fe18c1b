use Rattle.library.proofs.PlainLibraryLemmas.{plain_without_charters}
use Rattle.library.proofs.laws.plain_without_charters.Goals as goal

pub returns : goal.returns
returns c = plain_without_charters
