-- Sets of symbols that are not emptied symbol by symbol.
-- Source: this project's representation of sets of variables.
-- The code gives each symbol that it adds the current stamp; a symbol with another stamp does not
-- count.
use Rattle.std.specs.Prelude.{ℕ, Bool, ◌==◌, List, get_or}

-- the stamps by symbol, and the current one
pub record StampedSymbols : Type 0 where
  pub stamps : List ℕ
  pub stamp : ℕ

-- the symbol is in the set
abbrev pub has_symbol : StampedSymbols → ℕ → Bool
has_symbol set x = get_or set.stamps x 0 == set.stamp
