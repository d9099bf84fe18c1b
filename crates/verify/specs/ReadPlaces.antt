-- Images read from results that are ranges of a buffer.
-- Metamath, 4.2.6: the symbols after the first one of the result for a `$f` are the image of its
-- variable.
-- The code sets one image after another; these are the images set so far.
use Rattle.std.specs.Prelude.{◌≡◌, ℕ, ◌+◌, ◌<◌, nat_eq, Bool, true, false, List, get_or, slice_get, Some, None}
use Rattle.verify.specs.Words.{lookup, SymbolRange, Hypothesis, Float}

-- the range without its first symbol
abbrev pub tail_of : SymbolRange → SymbolRange
tail_of p = record { start = p.start + 1; end = p.end }

-- the symbols in the range begin with this typecode
abbrev pub BeginsWith : List ℕ → ℕ → SymbolRange → Type 0
BeginsWith symbols typecode p = (p.start < p.end) × (get_or symbols p.start 0 ≡ typecode)

-- the images are those of the `$f` among the first n hypotheses, whose results begin with their
-- typecodes
pub record ReadTo (n : ℕ) (symbols typecodes : List ℕ) (hs : List Hypothesis) (places : List SymbolRange) (images : List (ℕ × SymbolRange)) : Type 0 where
  pub each : (k x : ℕ) (p : SymbolRange) → k < n → slice_get hs k ≡ Some (Float x) → slice_get places k ≡ Some p
      → BeginsWith symbols (get_or typecodes k 0) p × (lookup (nat_eq x) images ≡ Some (tail_of p))
  pub own : (x : ℕ) → ((k : ℕ) → k < n → slice_get hs k ≡ Some (Float x) → ⊥) → lookup (nat_eq x) images ≡ None

-- the result for some `$f` does not begin with its typecode
abbrev pub IsMistyped : List ℕ → List ℕ → List Hypothesis → List SymbolRange → Type 0
IsMistyped symbols typecodes hs places =
    (k : ℕ) × (x : ℕ) × (p : SymbolRange) × (slice_get hs k ≡ Some (Float x)) × (slice_get places k ≡ Some p) × (BeginsWith symbols (get_or typecodes k 0) p → ⊥)

-- all images were set, or a result does not begin with its typecode
abbrev pub ReadsAll : Bool → ℕ → List ℕ → List ℕ → List Hypothesis → List SymbolRange → List (ℕ × SymbolRange) → Type 0
ReadsAll true n symbols typecodes hs places images = ReadTo n symbols typecodes hs places images
ReadsAll false n symbols typecodes hs places images = IsMistyped symbols typecodes hs places
