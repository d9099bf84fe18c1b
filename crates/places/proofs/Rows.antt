-- Descriptions on a small text.
use Rattle.places.proofs.Words.{[], ◌∷◌, Some, None, codes, refl, Const, Open, Close, AreDescriptions}

-- `$( a $) $( b c $) $c x $( d $) $. ${ $( e $) $}`: the last comment before the first token, and
-- no comment within a statement
last_comment : AreDescriptions (codes "$( a $) $( b c $) $c x $( d $) $. ${ $( e $) $}") (Const (codes "x" ∷ []) ∷ Open ∷ Close ∷ [])
    (Some (record { start = 10; end = 15 }) ∷ None ∷ Some (record { start = 39; end = 42 }) ∷ [])
last_comment = (
  record { start = 18; end = 20 } ∷ record { start = 21; end = 22 } ∷ record { start = 31; end = 33 } ∷ record { start = 34; end = 36 } ∷ record { start = 45; end = 47 } ∷ [],
  record {
    first = [];
    parts =
        record { begin = record { start = 0; end = 2 }; inside = record { start = 3; end = 4 } ∷ []; end = record { start = 5; end = 7 }; after = [] } ∷
        record { begin = record { start = 8; end = 10 }; inside = record { start = 11; end = 12 } ∷ record { start = 13; end = 14 } ∷ []; end = record { start = 15; end = 17 }; after = record { start = 18; end = 20 } ∷ record { start = 21; end = 22 } ∷ [] } ∷
        record { begin = record { start = 23; end = 25 }; inside = record { start = 26; end = 27 } ∷ []; end = record { start = 28; end = 30 }; after = record { start = 31; end = 33 } ∷ record { start = 34; end = 36 } ∷ [] } ∷
        record { begin = record { start = 37; end = 39 }; inside = record { start = 40; end = 41 } ∷ []; end = record { start = 42; end = 44 }; after = record { start = 45; end = 47 } ∷ [] } ∷ [];
    whole = refl;
    plain = refl;
    comments = (record { begins = refl; inside = refl; ends = refl; after = refl }, (record { begins = refl; inside = refl; ends = refl; after = refl }, (record { begins = refl; inside = refl; ends = refl; after = refl }, (record { begins = refl; inside = refl; ends = refl; after = refl }, tt))));
    outside = refl;
  },
  refl,
)
