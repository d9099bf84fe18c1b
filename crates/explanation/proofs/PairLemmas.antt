-- The number of a name.
use Rattle.std.proofs.Common.{◌≡◌, ◌<◌, ℕ, List, Some, length, sym}
use Rattle.mm_lex.specs.Alphabet.{Name}
use Rattle.names.proofs.CodesLemmas.{code-name}
use Rattle.names.specs.Codes.{code_of}

pub number_within : (names : List Name) (x : Name) (n : ℕ) → Some n ≡ code_of names x → n < length names
number_within names x n e = (code-name names x n (sym e)).0
