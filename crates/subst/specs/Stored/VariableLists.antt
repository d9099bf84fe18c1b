-- The variables of the images of one citation, and those that one variable is disjoint from.
-- Metamath, 4.2.6: each pair of variables, one from each of two images, is in an active `$d`.
-- The code lists the variables of an image once in a citation, and keeps the symbols of the active
-- `$d` that have one variable as a set.
use Rattle.std.specs.Prelude.{◌≡◌, ℕ, ◌+◌, ◌<◌, ◌≤◌, nat_eq, List, [], ◌∷◌, ◌++◌, flat_map, length, is_some, Option, Some}
use Rattle.frame.specs.MandatoryPairs.{has_number}
use Rattle.frame.specs.NumberedWork.{image_variables, images_length, new_numbers, numbered_variables, numbers_but, read_after}
use Rattle.subst.specs.Words.{lookup, Numbered, is_pair, name_at, CodeImages, code_image}
use Rattle.subst.specs.ReadImages.{ReadImages}
use Rattle.subst.specs.Stored.SymbolSets.{StampedSymbols, has_symbol}
use Rattle.subst.specs.SymbolRanges.{AreInside, images_at, symbols_in}
use Rattle.subst.specs.declared.symbol_range.SymbolRange.{SymbolRange}
use Rattle.subst.specs.declared.variable_lists.VariableLists.{VariableLists}

-- further numbers are appended
pub record Extends (old new : List ℕ) : Type 0 where
  pub more : List ℕ
  pub whole : new ≡ old ++ more

-- the range is within the variables, and has those of the image
pub record IsListOf (v : Numbered) (variables image : List ℕ) (r : SymbolRange) : Type 0 where
  pub low : r.start ≤ r.end
  pub high : r.end ≤ length variables
  pub lists : symbols_in variables r ≡ numbered_variables v image

-- each image that was read in this citation has its variables in its range
pub record AreLists (v : Numbered) (σ : CodeImages) (a : VariableLists) : Type 0 where
  pub each : (x : ℕ) (r : SymbolRange) → lookup (nat_eq x) a.lists ≡ Some r → IsListOf v a.variables.items (code_image σ x) r

-- the images of exactly these numbers were read
pub record HasListsOf (read : List ℕ) (a : VariableLists) : Type 0 where
  pub each : (x : ℕ) → is_some (lookup (nat_eq x) a.lists) ≡ has_number read x

-- the images of the numbers were read after those of others, whichever they are, and their symbols
-- counted
pub record HasCountedImages (σ : CodeImages) (numbers : List ℕ) (old new : VariableLists) : Type 0 where
  pub read : (read : List ℕ) → HasListsOf read old → HasListsOf (read_after read numbers) new
  pub work : (read : List ℕ) → HasListsOf read old → new.work ≡ old.work + images_length σ (new_numbers read numbers)

-- the variables of the images of the numbers other than x, one after another
abbrev pub other_variables : Numbered → CodeImages → ℕ → List ℕ → List ℕ
other_variables v σ x numbers = flat_map (image_variables v σ) (numbers_but x numbers)

-- the second list, unless the first one is empty
abbrev pub listed_beside : List ℕ → List ℕ → List ℕ
listed_beside [] others = []
listed_beside (u ∷ own) others = others

-- the variables with which those of the image of x are compared, none if there are none of these
abbrev pub compared_variables : Numbered → CodeImages → ℕ → List ℕ → List ℕ
compared_variables v σ x numbers = listed_beside (image_variables v σ x) (other_variables v σ x numbers)

-- the set has exactly the symbols that u is in an active `$d` with
pub record IsRowOf (v : Numbered) (u : ℕ) (row : StampedSymbols) : Type 0 where
  pub each : (w : ℕ) → w < length v.names → has_symbol row w ≡ is_pair v.statements (name_at v.names u) (name_at v.names w)

-- the variables of the images that were read, the count, and how much it may be
abbrev pub read_images : Option ℕ → VariableLists → ReadImages
read_images left a = record { images = images_at a.variables.items a.lists; work = a.work; left = left }

-- each list is within the variables
abbrev pub HasListsInside : VariableLists → Type 0
HasListsInside a = AreInside (length a.variables.items) a.lists
