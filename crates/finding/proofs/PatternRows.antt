-- The definitions, worked out on small patterns and expressions.
use Rattle.finding.proofs.PatternPrelude.{◌≡◌, List, [], ◌∷◌, map, codes, refl, Some, find, list_any, false, Name, words_in, symbol, any_symbol, any_sequence, part_of, MatchesExactly, Matches, is_symbol_word, is_unknown_word, HasWords}

-- the words of a pattern, separated by any white bytes
pattern_words : words_in (codes "  E. $? A.  $* -> ") ≡ codes "E." ∷ codes "$?" ∷ codes "A." ∷ codes "$*" ∷ codes "->" ∷ []
pattern_words = refl

pattern_parts : map part_of (words_in (codes "E. $? $* ->")) ≡ symbol (codes "E.") ∷ any_symbol ∷ any_sequence ∷ symbol (codes "->") ∷ []
pattern_parts = refl

-- `E. $? A.` matches a part of `|- E. x A. y`, ..
any_one_symbol : Matches (symbol (codes "E.") ∷ any_symbol ∷ symbol (codes "A.") ∷ []) (codes "|-" ∷ codes "E." ∷ codes "x" ∷ codes "A." ∷ codes "y" ∷ [])
any_one_symbol = record {
  before = codes "|-" ∷ [];
  run = codes "E." ∷ codes "x" ∷ codes "A." ∷ [];
  after = codes "y" ∷ [];
  whole = refl;
  exact = (codes "x" ∷ codes "A." ∷ [], refl, (codes "x", codes "A." ∷ [], refl, ([], refl, refl)));
}

-- .. and `$*` matches no symbol, and two symbols
no_symbols : MatchesExactly (symbol (codes "E.") ∷ any_sequence ∷ symbol (codes "A.") ∷ []) (codes "E." ∷ codes "A." ∷ [])
no_symbols = (codes "A." ∷ [], refl, ([], codes "A." ∷ [], refl, ([], refl, refl)))

two_symbols : MatchesExactly (symbol (codes "E.") ∷ any_sequence ∷ symbol (codes "A.") ∷ []) (codes "E." ∷ codes "x" ∷ codes "y" ∷ codes "A." ∷ [])
two_symbols = (codes "x" ∷ codes "y" ∷ codes "A." ∷ [], refl, (codes "x" ∷ codes "y" ∷ [], codes "A." ∷ [], refl, ([], refl, refl)))

-- `$?` does not match two symbols
not_two : MatchesExactly (any_symbol ∷ []) (codes "x" ∷ codes "y" ∷ []) → ⊥
not_two s = absurd (none_is s.1 s.3 s.2)
  where
    none_is : (rest : List Name) → rest ≡ [] → codes "x" ∷ codes "y" ∷ [] ≡ s.0 ∷ rest → ⊥
    none_is rest e whole = cc

-- `x$y` is not a part of a pattern, and `$?` and `$*` are not symbols
first_unknown_word : find is_unknown_word (words_in (codes "a $? x$y $")) ≡ Some (codes "x$y")
first_unknown_word = refl

no_symbol : list_any is_symbol_word (words_in (codes "$? $*")) ≡ false
no_symbol = refl

-- words in another case
in_other_case : HasWords (codes "Axiom _Simp_.") (words_in (codes "SIMP axi"))
in_other_case = (
  record { before = codes "Axiom _"; slice = codes "Simp"; after = codes "_."; whole = refl; same = refl },
  (record { before = []; slice = codes "Axi"; after = codes "om _Simp_."; whole = refl; same = refl }, tt),
)
