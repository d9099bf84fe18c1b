-- The definitions, worked out on small texts.
use Rattle.mm_lex.proofs.Prelude.{◌≡◌, true, false, [], ◌∷◌, ◌++◌, codes, refl, inl, inr, arith, is_label, is_symbol, spaced, words_of, AreTokens, IsFirstBadByte, IsCommentFault, spaced_prefix_len}

-- `$. $( hi $) p`: the comment is left out
comment_goes : AreTokens (codes "$. $( hi $) p") (record { start = 0; end = 2 } ∷ record { start = 12; end = 13 } ∷ [])
comment_goes = (
  refl,
  record {
    first = record { start = 0; end = 2 } ∷ [];
    parts = record { begin = record { start = 3; end = 5 }; inside = record { start = 6; end = 8 } ∷ []; end = record { start = 9; end = 11 }; after = record { start = 12; end = 13 } ∷ [] } ∷ [];
    whole = refl;
    plain = refl;
    comments = (record { begins = refl; inside = refl; ends = refl; after = refl }, tt);
    outside = refl;
  },
)

-- a longer token that begins with `$(` is plain
longer_is_plain : AreTokens (codes "$(x") (record { start = 0; end = 3 } ∷ [])
longer_is_plain = (refl, record { first = record { start = 0; end = 3 } ∷ []; parts = []; whole = refl; plain = refl; comments = tt; outside = refl })

-- a byte above 0x7E is a text fault
bad_byte : IsFirstBadByte (128 ∷ []) 0
bad_byte = record { inside = omega arith; bad = refl; before = refl }

-- `$( $( $)`: the second `$(` is the fault
nested : IsCommentFault (codes "$( $( $)") 3
nested = (
  refl,
  inr (inl (record {
    before = [];
    tokens = [];
    outer = record { start = 0; end = 2 };
    inside = [];
    at = record { start = 3; end = 5 };
    rest = record { start = 6; end = 8 } ∷ [];
    whole = refl;
    split = record { first = []; parts = []; whole = refl; plain = refl; comments = tt; outside = refl };
    opens = refl;
    plain = refl;
    opens_again = refl;
    place = refl;
  })),
)

-- `$( a`: the `$(` is the fault
unclosed : IsCommentFault (codes "$( a") 0
unclosed = (
  refl,
  inr (inr (record {
    before = [];
    tokens = [];
    at = record { start = 0; end = 2 };
    inside = record { start = 3; end = 4 } ∷ [];
    whole = refl;
    split = record { first = []; parts = []; whole = refl; plain = refl; comments = tt; outside = refl };
    opens = refl;
    plain = refl;
    place = refl;
  })),
)

-- `a $)`: the `$)` is the fault
stray : IsCommentFault (codes "a $)") 2
stray = (
  refl,
  inl (record {
    before = record { start = 0; end = 1 } ∷ [];
    tokens = record { start = 0; end = 1 } ∷ [];
    at = record { start = 2; end = 4 };
    rest = [];
    whole = refl;
    split = record { first = record { start = 0; end = 1 } ∷ []; parts = []; whole = refl; plain = refl; comments = tt; outside = refl };
    closes = refl;
    place = refl;
  }),
)

-- a longer token inside a comment does not end it
longer_inside : AreTokens (codes "$( $)x $) b") (record { start = 10; end = 11 } ∷ [])
longer_inside = (
  refl,
  record {
    first = [];
    parts = record {
      begin = record { start = 0; end = 2 };
      inside = record { start = 3; end = 6 } ∷ [];
      end = record { start = 7; end = 9 };
      after = record { start = 10; end = 11 } ∷ [];
    } ∷ [];
    whole = refl;
    plain = refl;
    comments = (record { begins = refl; inside = refl; ends = refl; after = refl }, tt);
    outside = refl;
  },
)

-- a byte that is not allowed is a fault inside a comment too
bad_byte_inside : IsFirstBadByte (codes "$( " ++ 127 ∷ codes " $)") 3
bad_byte_inside = record { inside = omega arith; bad = refl; before = refl }

-- ---- names and words

-- a label has no `+`, and at least one byte
labels : (is_label (codes "ax-1.b_2") ≡ true) × (is_label (codes "a+b") ≡ false) × (is_label [] ≡ false)
labels = (refl, refl, refl)

-- a symbol has no `$` and no space
symbols : (is_symbol (codes "|-") ≡ true) × (is_symbol (codes "$a") ≡ false) × (is_symbol (codes "a b") ≡ false)
symbols = (refl, refl, refl)

-- the words of a buffer with a space in it, and of an empty one
words_in_a_buffer : (words_of (codes "wff P") ≡ codes "wff" ∷ codes "P" ∷ []) × (words_of [] ≡ [])
words_in_a_buffer = (refl, refl)

-- two words are written with a space between them
words_with_a_space : spaced (codes "wff" ∷ codes "P" ∷ []) ≡ codes "wff P"
words_with_a_space = refl

-- symbols with one space between two: four bytes come before a keyword
up_to_keyword : spaced_prefix_len (codes "ab c $.") ≡ 4
up_to_keyword = refl

-- one byte before two spaces
up_to_spaces : spaced_prefix_len (codes "a  b") ≡ 1
up_to_spaces = refl

-- three bytes before a token with a `$` in it, up to the `$`
up_to_dollar : spaced_prefix_len (codes "a b$c") ≡ 3
up_to_dollar = refl

-- all three bytes, if the text ends
up_to_end : spaced_prefix_len (codes "a b") ≡ 3
up_to_end = refl
