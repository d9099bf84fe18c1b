-- Ranges of a buffer of symbols, and images that are such ranges.
-- Source: this project's representation of results; images of variables are Metamath, 4.2.6.
-- The code stores where each image begins and ends.
use Rattle.std.specs.Prelude.{◌≡◌, ℕ, ◌≤◌, nat_eq, List, [], ◌∷◌, map, Some, slice_range}
use Rattle.subst.specs.Words.{lookup, CodeImages, code_image}
use Rattle.subst.specs.declared.symbol_range.SymbolRange.{SymbolRange}

-- the symbols in a range
abbrev pub symbols_in : List ℕ → SymbolRange → List ℕ
symbols_in symbols p = slice_range symbols p.start p.end

-- each range lies within the first n symbols
abbrev pub AreWithin : ℕ → List SymbolRange → Type 0
AreWithin n [] = Unit {0}
AreWithin n (p ∷ ranges) = (p.start ≤ p.end) × (p.end ≤ n) × AreWithin n ranges

-- the images in these ranges
abbrev pub images_at : List ℕ → List (ℕ × SymbolRange) → CodeImages
images_at symbols ranges = map (λ p. (p.0, symbols_in symbols p.1)) ranges

-- the image of a symbol, which is in a range of the same symbols
abbrev pub image_at : List ℕ → List (ℕ × SymbolRange) → ℕ → List ℕ
image_at symbols ranges x = code_image (images_at symbols ranges) x

-- each image lies within the first n symbols
pub record AreInside (n : ℕ) (ranges : List (ℕ × SymbolRange)) : Type 0 where
  pub each : (x : ℕ) (p : SymbolRange) → lookup (nat_eq x) ranges ≡ Some p → (p.start ≤ p.end) × (p.end ≤ n)
