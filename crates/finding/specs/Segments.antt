-- Segments: parts that match one symbol each; the first index at which symbols match them.
-- Source: none; for the private functions of `matching`.
use Rattle.std.specs.Prelude.{◌≡◌, ℕ, zero, suc, ◌<◌, ◌≤◌, Bool, true, false, ◌&&◌, List, [], ◌∷◌, length, drop, Option, Some, None}
use Rattle.mm_lex.specs.Alphabet.{Name, name_eq}
use Rattle.finding.specs.declared.part.Part.{Part}
use Rattle.finding.specs.declared.part.Part.TheVariants.{Symbol, AnySymbol, AnySequence}
use Rattle.finding.specs.Matches as m

-- the view of a part in contracts
abbrev pub part_view : Part → m.Part
part_view (Symbol s) = m.symbol s.now
part_view AnySymbol = m.any_symbol
part_view AnySequence = m.any_sequence

-- `$*`
abbrev pub is_any_sequence : Part → Bool
is_any_sequence (Symbol s) = false
is_any_sequence AnySymbol = false
is_any_sequence AnySequence = true

-- the number of parts before the first `$*`
abbrev pub segment_len : List Part → ℕ
segment_len [] = zero
segment_len (Symbol s ∷ p) = suc (segment_len p)
segment_len (AnySymbol ∷ p) = suc (segment_len p)
segment_len (AnySequence ∷ p) = zero

-- the part matches this one symbol
abbrev pub matches_symbol : Part → Name → Bool
matches_symbol (Symbol s) x = name_eq s.now x
matches_symbol AnySymbol x = true
matches_symbol AnySequence x = false

-- the first symbols match the parts, one symbol each
abbrev pub matches_prefix : List Part → List Name → Bool
matches_prefix [] e = true
matches_prefix (q ∷ p) [] = false
matches_prefix (q ∷ p) (x ∷ e) = matches_symbol q x && matches_prefix p e

-- the first index from which the symbols match the parts
abbrev pub IsFirstMatch : List Part → List Name → Option ℕ → Type 0
IsFirstMatch p e (Some i) = (i ≤ length e) × (matches_prefix p (drop i e) ≡ true) × ((k : ℕ) → k < i → matches_prefix p (drop k e) ≡ false)
IsFirstMatch p e None = (k : ℕ) → k ≤ length e → matches_prefix p (drop k e) ≡ false
