-- The conditions on the results for the mandatory hypotheses of an assertion.
-- Metamath, 4.2.6: the symbols after the first one of the result for a `$f` are the image of its
-- variable.
-- The code checks first symbols, reads the images from the results, and compares each `$e` under
-- them with its result.
use Rattle.std.specs.Prelude.{◌≡◌, ℕ, ◌<◌, Bool, true, false, IsTrue, List, [], ◌∷◌, length, map, drop, get_or, slice_get, Some, ◌++◌}
use Rattle.verify.specs.Words.{decode, Stmt, Expr, Database, stmt_at, Images, applied, CodeImages, code_image, expr_at, Hypothesis, Float, Essential, typecode_of, Numbered, images_of_names}
use Rattle.verify.specs.ResultPlaces.{HeldResults, top}

-- the `$f` are of different variables
pub record AreDifferent (hs : List Hypothesis) : Type 0 where
  pub each : (j k x : ℕ) → slice_get hs j ≡ Some (Float x) → slice_get hs k ≡ Some (Float x) → j ≡ k

-- where one of the first n hypotheses is a `$e`, the flag is set
abbrev pub HasSeenEssentialsBefore : ℕ → List Hypothesis → Bool → Type 0
HasSeenEssentialsBefore n hs seen = (k p : ℕ) → k < n → slice_get hs k ≡ Some (Essential p) → IsTrue seen

-- where a hypothesis is a `$e`, the flag is set
abbrev pub HasSeenEssentials : List Hypothesis → Bool → Type 0
HasSeenEssentials hs seen = HasSeenEssentialsBefore (length hs) hs seen

-- there is a statement at the position of a `$e`
abbrev pub IsPresent : Database → Hypothesis → Type 0
IsPresent S (Float x) = Unit {0}
IsPresent S (Essential p) = (s : Stmt) × (stmt_at S p ≡ Some s)

-- each `$e` of the list has a statement at its position
abbrev pub ArePresent : Database → List Hypothesis → Type 0
ArePresent S [] = Unit {0}
ArePresent S (h ∷ hs) = IsPresent S h × ArePresent S hs

-- the result begins with this typecode
pub record IsTyped (typecode : ℕ) (r : List ℕ) : Type 0 where
  pub some : 0 < length r
  pub first : typecode_of r ≡ typecode

-- the result for each `$f` begins with its typecode, the image of its variable is the rest of the
-- result, and no other symbol has an image
pub record AreRead (typecodes : List ℕ) (hs : List Hypothesis) (rs : List (List ℕ)) (σ : CodeImages) : Type 0 where
  pub typed : (k x : ℕ) → slice_get hs k ≡ Some (Float x) → IsTyped (get_or typecodes k 0) (get_or rs k [])
  pub image : (k x : ℕ) → slice_get hs k ≡ Some (Float x) → code_image σ x ≡ drop 1 (get_or rs k [])
  pub own : (x : ℕ) → ((k : ℕ) → slice_get hs k ≡ Some (Float x) → ⊥) → code_image σ x ≡ x ∷ []

-- the images were read, or the result for some `$f` does not begin with its typecode
abbrev pub Reads : Bool → List ℕ → List Hypothesis → List (List ℕ) → CodeImages → Type 0
Reads true typecodes hs rs σ = AreRead typecodes hs rs σ
Reads false typecodes hs rs σ = (k : ℕ) × (x : ℕ) × (slice_get hs k ≡ Some (Float x)) × (IsTyped (get_or typecodes k 0) (get_or rs k []) → ⊥)

-- the image that a result gives, by number
abbrev pub code_image_at : Hypothesis → List ℕ → CodeImages
code_image_at (Float x) e = (x, drop 1 e) ∷ []
code_image_at (Essential q) e = []

-- the images that the results give, by number
abbrev pub code_images_read : List Hypothesis → List (List ℕ) → CodeImages
code_images_read [] es = []
code_images_read (h ∷ hs) [] = []
code_images_read (h ∷ hs) (e ∷ es) = code_image_at h e ++ code_images_read hs es

-- each symbol has the image that the results give it, whatever they begin with
pub record AreGiven (hs : List Hypothesis) (rs : List (List ℕ)) (σ : CodeImages) : Type 0 where
  pub each : (x : ℕ) → code_image σ x ≡ code_image (code_images_read hs rs) x

-- the result for a `$e` is its expression with the images substituted
abbrev pub HypothesisMatches : Database → Images → Hypothesis → Expr → Type 0
HypothesisMatches S σ (Float x) r = Unit {0}
HypothesisMatches S σ (Essential p) r = r ≡ applied σ (expr_at S p)

-- each result for a `$e` is its expression with the images substituted
pub record HypothesesMatch (S : Database) (σ : Images) (hs : List Hypothesis) (rs : List Expr) : Type 0 where
  pub each : (k : ℕ) (h : Hypothesis) → slice_get hs k ≡ Some h → HypothesisMatches S σ h (get_or rs k [])

-- of the last results, one for each hypothesis, each result for a `$e` is its expression with the
-- images substituted
abbrev pub LastResultsMatch : Numbered → List Hypothesis → HeldResults → Type 0
LastResultsMatch frames hs r =
    HypothesesMatch frames.statements (images_of_names frames.names r.images) hs (map (decode frames.names) (top (length hs) r.results.stack))
