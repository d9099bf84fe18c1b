use Rattle.unproved.proofs.Words.{sym, subst, Good, AllLegal}
use Rattle.unproved.proofs.AssumedGoodLemmas.{good_assumed}
use Rattle.unproved.proofs.legal_database.LegalDatabase.into_assumed_library.Goals as goal

pub library_of_good-requires-clause-good : goal.library_of_good-requires-clause-good
library_of_good-requires-clause-good c =
    subst Good (sym c.into_assumed_statements-statements.ensures.replaced)
    (good_assumed c.args.self c.args.unproved.now (subst AllLegal c.self.view_is c.self.invariant.legal) c.requires)
