use Rattle.library.proofs.LibraryLemmas.{library-good}
use Rattle.library.proofs.laws.libraries_are_good.Goals as goal

pub returns : goal.returns
returns c = library-good
