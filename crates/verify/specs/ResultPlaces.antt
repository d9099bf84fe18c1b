-- Results that are ranges of one buffer, and images that were read from some of them.
-- Metamath, 4.2.6: the stack of a proof.
-- The code keeps the range of each result; here the results are lists of symbols.
use Rattle.std.specs.Prelude.{◌≡◌, ℕ, ◌+◌, ◌-◌, ◌<◌, ◌≤◌, Bool, true, false, List, [], ◌∷◌, ◌++◌, length, map, drop, take}
use Rattle.verify.specs.Words.{CodeImages, SymbolRange, symbols_in, images_at, AreWithin, AreInside}
use Rattle.verify.specs.Machine.{Results, with_result, with_mark, IsSaved}
use Rattle.verify.specs.Right.{weight_limit}

-- results and images, and the symbols of the buffer
pub record HeldResults : Type 0 where
  pub results : Results ℕ
  pub images : CodeImages
  pub symbols : List ℕ

-- the results in these ranges
abbrev pub results_in : List ℕ → List SymbolRange → List SymbolRange → ℕ → Results ℕ
results_in symbols stack saved weight = record { stack = map (symbols_in symbols) stack; saved = map (symbols_in symbols) saved; weight = weight }

-- the results and images in these ranges
abbrev pub held : List ℕ → List (ℕ × SymbolRange) → List SymbolRange → List SymbolRange → ℕ → HeldResults
held symbols images stack saved weight = record { results = results_in symbols stack saved weight; images = images_at symbols images; symbols = symbols }

-- all ranges are in the buffer, which has no more symbols than the weight, and the weight is within
-- the limit
pub record AreResultRanges (symbols : List ℕ) (images : List (ℕ × SymbolRange)) (stack saved : List SymbolRange) (weight : ℕ) : Type 0 where
  pub images_inside : AreInside (length symbols) images
  pub stack_within : AreWithin (length symbols) stack
  pub saved_within : AreWithin (length symbols) saved
  pub few : length symbols ≤ weight
  pub light : weight ≤ weight_limit

-- the stack without its last r results
abbrev pub below : {A : Type 0} → ℕ → List A → List A
below r stack = take (length stack - r) stack

-- the last r results of the stack
abbrev pub top : {A : Type 0} → ℕ → List A → List A
top r stack = drop (length stack - r) stack

-- the result is pushed, or the proof would be too heavy
abbrev pub Adds : {A : Type 0} → Bool → Results A → Results A → List (List A) → List A → Type 0
Adds true old new stack e = new ≡ with_result old stack e
Adds false old new stack e = weight_limit < old.weight + length e

-- the item was done, and only appends symbols; or it was not done, and results and symbols are
-- unchanged
abbrev pub IsKept : Bool → HeldResults → HeldResults → Type 0
IsKept true old new = (e : List ℕ) × (new.symbols ≡ old.symbols ++ e)
IsKept false old new = (new.results ≡ old.results) × (new.symbols ≡ old.symbols)

-- the last result was marked, or there is none
abbrev pub Marks : {A : Type 0} → Bool → Results A → Results A → Type 0
Marks {A} true old new = (stack : List (List A)) × (e : List A) × (old.stack ≡ stack ++ e ∷ []) × (new ≡ with_mark old e)
Marks false old new = old.stack ≡ []

-- the saved result of number k, from 1, is pushed; or there is none, or the proof would be too
-- heavy
abbrev pub Recalls : {A : Type 0} → Bool → Results A → Results A → ℕ → Type 0
Recalls {A} true old new k = (e : List A) × IsSaved old.saved k e × (new ≡ with_result old old.stack e)
Recalls {A} false old new k = (e : List A) → IsSaved old.saved k e → weight_limit < old.weight + length e
