-- The front of a proof's tokens, up to a byte of one of them.
-- Source: Metamath, 4.3 and appendix B: the front of a proof that is not finished may write items.
use Rattle.std.specs.Prelude.{ℕ, zero, suc, List, [], ◌∷◌, take}
use Rattle.mm_lex.specs.Alphabet.{Name}
use Rattle.proof_code.specs.Writes.{Writes}
use Rattle.proof_code.specs.declared.item.Item.{Item}

-- the first bytes of a word as a word, if there are any
abbrev pub first_bytes : Name → ℕ → List Name
first_bytes word zero = []
first_bytes word (suc n) = take (suc n) word ∷ []

-- the tokens before the one at an index, and of that one the bytes before the one at an index
abbrev pub before_spot : List Name → ℕ → ℕ → List Name
before_spot [] token byte = []
before_spot (word ∷ words) zero byte = first_bytes word byte
before_spot (word ∷ words) (suc token) byte = word ∷ before_spot words token byte

-- a front of the tokens writes these items, under these labels of mandatory hypotheses
pub record WritesFront (tokens mandatory : List Name) (items : List Item) : Type 0 where
  pub token : ℕ
  pub byte : ℕ
  pub written : Writes (before_spot tokens token byte) mandatory items
