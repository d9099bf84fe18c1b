use Rattle.mm_lex.proofs.TokensLemmas.{SplitsInto-unique}
use Rattle.mm_lex.proofs.OneSplit.{same_first}
use Rattle.mm_lex.proofs.laws.one_split.Goals as goal

pub returns : goal.returns
returns c = λ text spans tokens others split other.
    let same = same_first text spans tokens others split other in
    (SplitsInto-unique text spans tokens others split other, same.0, same.1)
