-- Laws about the definitions.
-- Source: Metamath, 4.3 and appendix B.
-- The code does nothing here: each law is the contract of a function without parameters.
use Rattle.std.specs.Prelude.{◌≡◌, ℕ, ◌↔◌, ◌⊎◌, IsTrue, List, Some}
use Rattle.mm_lex.specs.Alphabet.{Name}
use Rattle.proof_code.specs.declared.item.Item.{Item}
use Rattle.proof_code.specs.Letters.{IsNumber, number_of}
use Rattle.proof_code.specs.Writes.{is_unfinished, Writes, IsMalformed}

-- the place of a word of letters in the order of all words is the number that the formula in base 5
-- and base 20 gives
abbrev pub NumbersByFormula : Type 0
NumbersByFormula = (word : Name) (n : ℕ) → IsNumber word n ↔ (number_of word ≡ Some n)

-- tokens write at most one list of items
abbrev pub OneListOfItems : Type 0
OneListOfItems = (tokens mandatory : List Name) (a b : List Item) → Writes tokens mandatory a → Writes tokens mandatory b → a ≡ b

-- tokens write items, or are unfinished, or are malformed, and no two of these
pub record OneAnswer (tokens mandatory : List Name) : Type 0 where
  pub some : ((items : List Item) × Writes tokens mandatory items) ⊎ IsTrue (is_unfinished tokens) ⊎ IsMalformed tokens (Writes tokens mandatory)
  pub finished : (items : List Item) → Writes tokens mandatory items → ¬ IsTrue (is_unfinished tokens)
  pub formed : (items : List Item) → Writes tokens mandatory items → ¬ IsMalformed tokens (Writes tokens mandatory)
  pub not_both : IsTrue (is_unfinished tokens) → ¬ IsMalformed tokens (Writes tokens mandatory)

abbrev pub OneAnswerEach : Type 0
OneAnswerEach = (tokens mandatory : List Name) → OneAnswer tokens mandatory
