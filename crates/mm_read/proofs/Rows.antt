-- Small texts, worked out: the statements that they read as, their export form, and their misplaced
-- tokens.
use Rattle.mm_read.proofs.Words.{◌≡◌, ℕ, [], ◌∷◌, ◌++◌, false, codes, refl, Span, Const, Float, Axiom, Prove, Database, is_shaped, Reads, IsShapeFault, line_of, export_of, with_proof}
use Rattle.mm_read.proofs.ReaderStates.{between, labelled, listing, floating, proving}
use Rattle.mm_read.proofs.ShapeFaults.{stops_at, ends_inside}

-- a constant, an axiom and its one-step theorem
smallest : Database
smallest = Const (codes "|-" ∷ []) ∷ Axiom (codes "p") (codes "|-" ∷ []) ∷ Prove (codes "q") (codes "|-" ∷ []) (codes "p" ∷ []) ∷ []

abbrev from_to : ℕ → ℕ → Span
from_to start end = record { start = start; end = end }

-- a comment between two statements is left out
comment_between_statements : Reads (codes "$c |- $. $( hi $) p $a |- $. q $p |- $= p $.") smallest
unfolding smallest
comment_between_statements =
    let before = from_to 0 2 ∷ from_to 3 5 ∷ from_to 6 8 ∷ [] in
    let after =
    from_to 18 19 ∷ from_to 20 22 ∷ from_to 23 25 ∷ from_to 26 28 ∷ from_to 29 30 ∷ from_to 31 33 ∷ from_to 34 36 ∷ from_to 37 39 ∷ from_to 40 41 ∷ from_to 42 44 ∷ [] in
    record {
      shaped = refl;
      tokens = (
        before ++ after,
        (
          refl,
          record {
            first = before;
            parts = record { begin = from_to 9 11; inside = from_to 12 14 ∷ []; end = from_to 15 17; after = after } ∷ [];
            whole = refl;
            plain = refl;
            comments = (record { begins = refl; inside = refl; ends = refl; after = refl }, tt);
            outside = refl;
          },
        ),
        refl,
      );
    }

-- the export form has one line for each statement, and no comment
comment_is_not_kept : export_of smallest ≡ codes "$c |- $." ++ 10 ∷ codes "p $a |- $." ++ 10 ∷ codes "q $p |- $= p $." ++ 10 ∷ []
unfolding smallest
comment_is_not_kept = refl

-- the line of a statement whose proof is replaced
proof_replaced : line_of (with_proof (Prove (codes "q") (codes "|-" ∷ []) (codes "p" ∷ codes "p" ∷ [])) (codes "2" ∷ [])) ≡ codes "q $p |- $= 2 $." ++ 10 ∷ []
proof_replaced = refl

-- the line of a statement with no steps between `$=` and `$.`
no_proof : line_of (Prove (codes "q") (codes "|-" ∷ []) []) ≡ codes "q $p |- $= $." ++ 10 ∷ []
no_proof = refl

-- a label has no brackets
label_needs_label_bytes : is_shaped (Float (codes "(x)") (codes "wff") (codes "x")) ≡ false
label_needs_label_bytes = refl

-- ---- misplaced tokens

-- `$c a` ends inside a statement
unfinished : IsShapeFault (codes "$c" ∷ codes "a" ∷ []) 3
unfinished = ends_inside (codes "$c" ∷ codes "a" ∷ []) (listing 0) refl (λ bad. cc)

-- `$[` is misplaced
file_inclusion : IsShapeFault (codes "$[" ∷ codes "x" ∷ codes "$]" ∷ []) 1
file_inclusion = stops_at [] (codes "x" ∷ codes "$]" ∷ []) (codes "$[") between refl refl

-- a longer token that begins with `$(` is neither a label nor a keyword
longer_dollar_token : IsShapeFault (codes "$(x" ∷ []) 1
longer_dollar_token = stops_at [] [] (codes "$(x") between refl refl

-- `$c` has at least one constant
no_constants : IsShapeFault (codes "$c" ∷ codes "$." ∷ []) 2
no_constants = stops_at (codes "$c" ∷ []) [] (codes "$.") (listing 1) refl refl

-- `$d` has at least two variables
one_disjoint_variable : IsShapeFault (codes "$d" ∷ codes "x" ∷ codes "$." ∷ []) 3
one_disjoint_variable = stops_at (codes "$d" ∷ codes "x" ∷ []) [] (codes "$.") (listing 1) refl refl

-- `$f` has two symbols, and no third
third_symbol_of_a_float : IsShapeFault (codes "wx" ∷ codes "$f" ∷ codes "wff" ∷ codes "x" ∷ codes "y" ∷ codes "$." ∷ []) 5
third_symbol_of_a_float = stops_at (codes "wx" ∷ codes "$f" ∷ codes "wff" ∷ codes "x" ∷ []) (codes "$." ∷ []) (codes "y") (floating 0) refl refl

-- `$p` needs a `$=`
no_equals_sign : IsShapeFault (codes "th" ∷ codes "$p" ∷ codes "|-" ∷ codes "$." ∷ []) 4
no_equals_sign = stops_at (codes "th" ∷ codes "$p" ∷ codes "|-" ∷ []) [] (codes "$.") (proving 0) refl refl

-- a label alone is not a statement
label_alone : IsShapeFault (codes "th" ∷ []) 2
label_alone = ends_inside (codes "th" ∷ []) labelled refl (λ bad. cc)
