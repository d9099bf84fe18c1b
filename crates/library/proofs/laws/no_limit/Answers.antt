use Rattle.library.proofs.Words.{None, refl, empty}
use Rattle.library.proofs.UnlimitedLibraryLemmas.{runs-unlimited}
use Rattle.library.proofs.laws.no_limit.Goals as goal

pub returns : goal.returns
returns c = λ log replica. runs-unlimited log (empty None) replica refl
