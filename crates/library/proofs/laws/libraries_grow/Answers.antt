use Rattle.library.proofs.LibraryLemmas.{library-begins}
use Rattle.library.proofs.laws.libraries_grow.Goals as goal

pub returns : goal.returns
returns c = library-begins
