use Rattle.library.specs.LibraryOf.{empty}
use Rattle.library.proofs.LibraryLemmas.{runs-one}
use Rattle.library.proofs.laws.one_library.Goals as goal

pub returns : goal.returns
returns c = λ limit log replica other. runs-one log (empty limit) replica other
