-- The results are the hypotheses of an assertion under some images if and only if each result for a
-- `$f` begins with its typecode, and each result for a `$e` is its expression under the images that
-- are read from the results for the `$f`.
use Rattle.verify.proofs.Words.{◌≡◌, ℕ, zero, suc, ◌<◌, Bool, true, false, cond, List, [], ◌∷◌, ◌++◌, length, map, drop, get_or, slice_get, Option, Some, None, option_map, ◌⊎◌, refl, sym, ◌∙◌, ap, subst, arith, inl, inr, true≢false, append-nil, lt-ltb, length-map, ext_get_or, get_or_from_slice_get, slice_get_within, slice_get-map, Name, Stmt, Expr, Database, stmt_at, before, expr_of, is_variable, name_at, decode, code_of, AreDistinct, code-name, hypotheses, mandatory_groups, Images, image, applied, CodeImages, code_image, images_of_names, AreImagesOfVariables, premises, expr_at, option_expr, are_groups_disjoint, AreBelow, AllBelow, AreOver, image-named, image-unnamed, image-decode, Hypothesis, Float, Essential, IsWellTyped, HasFloat, BeginsWithNoVariable, typecode_of, IsTypecode, IsNumberedHypothesis, AreNumberedHypotheses, IsTyped, AreRead, HypothesisMatches, HypothesesMatch, some-same, name_at-injective}
use Rattle.mm_read.specs.declared.stmt.Stmt.TheVariants as stmt
use Rattle.verify.proofs.Named.{all-at}
use Rattle.verify.proofs.RequiredHypotheses.{At, required-lengths, required-at, float-at, essential-at, float-number, float-find}
use Rattle.verify.proofs.ImageLemmas.{apply-members, groups-members, only, only-all, image-only, image-fixed}

-- ---- lists of numbers and of names

pub get-decode : (names : List Name) (rs : List (List ℕ)) (k : ℕ) → get_or (map (decode names) rs) k [] ≡ decode names (get_or rs k [])
get-decode names [] k = refl
get-decode names (e ∷ rs) zero = refl
get-decode names (e ∷ rs) (suc k) = get-decode names rs k

pub get-map-of : {A B : Type 0} (f : A → B) (xs : List A) (k : ℕ) (x : A) (d : B) → slice_get xs k ≡ Some x → get_or (map f xs) k d ≡ f x
get-map-of f xs k x d h = get_or_from_slice_get (map f xs) k (f x) d (slice_get-map f xs k ∙ ap (option_map f) h)

pub drop-decode : (names : List Name) (e : List ℕ) → drop 1 (decode names e) ≡ decode names (drop 1 e)
drop-decode names [] = refl
drop-decode names (x ∷ e) = refl

-- a result that is not empty, decoded, begins with the name of its typecode
pub typecodes_counted : (names : List Name) (e : List ℕ) → 0 < length e → decode names e ≡ name_at names (typecode_of e) ∷ decode names (drop 1 e)
typecodes_counted names [] h = absurd (omega (arith, h))
typecodes_counted names (x ∷ e) h = refl

module _ (S : Database) (names : List Name) (a : ℕ) (s : Stmt) (distinct : AreDistinct names) (bound : IsWellTyped S a s)
    (typecodes : List ℕ) (hs : List Hypothesis) (numbered_hypotheses : AreNumberedHypotheses S names (hypotheses (before S a) s) typecodes hs) (rs : List (List ℕ)) (count : length rs ≡ length hs) where
  abbrev V : Name → Bool
  V = is_variable (before S a)

  abbrev ps : List ℕ
  ps = hypotheses (before S a) s

  -- there are as many typecodes, and as many hypotheses, as positions
  lens : (length typecodes ≡ length ps) × (length hs ≡ length ps)
  lens = required-lengths S names ps typecodes hs numbered_hypotheses

  -- the hypothesis at an index, with its position and its typecode
  at : (k : ℕ) → k < length rs → At S names ps typecodes hs k
  at k h = required-at S names ps typecodes hs k numbered_hypotheses (let l = lens.1 in omega (arith, h, l, count))

  -- each hypothesis of the assertion has a result
  within : (k : ℕ) (h : Hypothesis) → slice_get hs k ≡ Some h → k < length rs
  within k h e = let r = slice_get_within hs k h e in omega (arith, r, count)

  -- the expression at a position is that of the statement there
  expr-stands : (p : ℕ) (r : Stmt) → stmt_at S p ≡ Some r → expr_at S p ≡ expr_of r
  expr-stands p r e = ap option_expr e

  -- ---- the images that were read

  module _ (ρ : CodeImages) (read : AreRead typecodes hs rs ρ) where
    abbrev N : Images
    N = images_of_names names ρ

    -- the image of the variable of a `$f` is its result without the typecode
    pub image-float : (k x : ℕ) (v : Name) → slice_get hs k ≡ Some (Float x) → x < length names → name_at names x ≡ v → image N v ≡ decode names (drop 1 (get_or rs k []))
    image-float k x v at_k low named =
        ap (image N) (sym named) ∙ (sym (image-decode names ρ x distinct (lt-ltb x (length names) low)) ∙ ap (decode names) (read.image k x at_k))

    -- a symbol that is no variable is its own image
    pub image-constant : (y : Name) → V y ≡ false → image N y ≡ y ∷ []
    image-constant y none = by (code_of names y) refl
      where
        by : (o : Option ℕ) → code_of names y ≡ o → image N y ≡ y ∷ []
        by None e = image-unnamed names ρ y e
        by (Some n) e =
            let c = code-name names y n e in
            image-named names ρ y n e
            ∙ (ap (decode names) (read.own n (λ k is.
            (let d = at k (within k (Float n) is) in
            let f = float-at S names d.position d.typecode n (subst (IsNumberedHypothesis S names d.position d.typecode) (some-same d.kind is) d.numbered_hypotheses) in
            let v : V f.variable ≡ true = bound.variable k d.position f.label f.constant f.variable d.listed f.stands in
            true≢false (sym v ∙ (ap V (sym f.named ∙ c.1) ∙ none)))))
            ∙ ap (λ z. z ∷ []) c.1)

    -- if all numbers of the results have names, so have those of the images
    pub read-over : AllBelow (length names) rs → AreOver names ρ
    read-over low n less = by (float-find hs n)
      where
        tail-low : (e : List ℕ) → AreBelow (length names) e → AreBelow (length names) (drop 1 e)
        tail-low [] b = tt
        tail-low (x ∷ e) b = b.1

        by : ((k : ℕ) × (slice_get hs k ≡ Some (Float n))) ⊎ ((k : ℕ) → slice_get hs k ≡ Some (Float n) → ⊥) → AreBelow (length names) (code_image ρ n)
        by (inl f) = subst (AreBelow (length names)) (sym (read.image f.0 n f.1)) (tail-low (get_or rs f.0 []) (all-at (length names) f.0 rs low))
        by (inr none) = subst (AreBelow (length names)) (sym (read.own n none)) (less, tt)

    -- ---- these images, of variables only

    abbrev τ : Images
    τ = only V N

    pub image-τ : (y : Name) → image τ y ≡ image N y
    image-τ y = image-only V N y ∙ by (V y) refl
      where
        by : (b : Bool) → V y ≡ b → cond b (image N y) (y ∷ []) ≡ image N y
        by true e = refl
        by false e = sym (image-constant y e)

    -- these are images of the assertion's variables only
    pub of_variables : AreImagesOfVariables S a τ
    of_variables = only-all V N

    pub apply-τ : (e : Expr) → applied τ e ≡ applied N e
    apply-τ e = apply-members τ N e (λ x k. image-τ x)

    pub disjoint-τ : (D : Database) (gs : List (List Name)) → are_groups_disjoint D τ gs ≡ are_groups_disjoint D N gs
    disjoint-τ D gs = groups-members D τ N gs (λ k g x e f. image-τ x)

    -- if each `$e` matches its result, the results are the hypotheses under these images
    module _ (fits : HypothesesMatch S N hs (map (decode names) rs)) where
      one-premise : (k : ℕ) → k < length rs → (d : At S names ps typecodes hs k) → applied τ (expr_at S d.position) ≡ decode names (get_or rs k [])
      one-premise k less d = by d.hypothesis d.kind d.numbered_hypotheses
        where
          by : (h : Hypothesis) → slice_get hs k ≡ Some h → IsNumberedHypothesis S names d.position d.typecode h → applied τ (expr_at S d.position) ≡ decode names (get_or rs k [])
          by (Essential q) kind numbered_hypotheses =
              let f = essential-at S names d.position d.typecode q numbered_hypotheses in
              apply-τ (expr_at S d.position) ∙ (ap (λ p. applied N (expr_at S p)) (sym f.same) ∙ (sym (fits.each k (Essential q) kind) ∙ get-decode names rs k))
          by (Float x) kind numbered_hypotheses =
              let f = float-at S names d.position d.typecode x numbered_hypotheses in
              let fixed : V f.constant ≡ false = bound.first k d.position (stmt.Float f.label f.constant f.variable) d.listed f.stands in
              let typed = read.typed k x kind in
              let typecode : typecode_of (get_or rs k []) ≡ d.typecode = typed.first ∙ get_or_from_slice_get typecodes k d.typecode 0 d.first in
              ap (applied τ) (expr-stands d.position (stmt.Float f.label f.constant f.variable) f.stands)
              ∙ (apply-τ (f.constant ∷ f.variable ∷ [])
              ∙ (ap (λ e. e ++ (image N f.variable ++ [])) (image-constant f.constant fixed)
              ∙ (ap (λ e. f.constant ∷ e) (append-nil (image N f.variable) ∙ image-float k x f.variable kind f.below f.named)
              ∙ (ap (λ c. c ∷ decode names (drop 1 (get_or rs k []))) (sym (ap (name_at names) typecode ∙ f.typecode_named)) ∙ sym (typecodes_counted names (get_or rs k []) typed.some)))))

      pub premises-read : premises S a s τ ≡ map (decode names) rs
      premises-read =
          ext_get_or [] (premises S a s τ) (map (decode names) rs)
          (length-map ps (λ i. applied τ (expr_at S i)) ∙ (sym lens.1 ∙ (sym count ∙ sym (length-map rs (decode names)))))
          (λ k less. (let less' : k < length rs = (let l = length-map ps (λ i. applied τ (expr_at S i)) in let m = lens.1 in omega (arith, less, l, m, count)) in
          let d = at k less' in
          get-map-of (λ i. applied τ (expr_at S i)) ps k d.position [] d.listed ∙ (one-premise k less' d ∙ sym (get-decode names rs k))))

  -- ---- results that are the hypotheses under images of variables

  module _ (low : AllBelow (length names) rs) (σ : Images) (of_vars : AreImagesOfVariables S a σ) (whole : premises S a s σ ≡ map (decode names) rs) where
    premise-at : (k p : ℕ) → slice_get ps k ≡ Some p → decode names (get_or rs k []) ≡ applied σ (expr_at S p)
    premise-at k p listed = sym (get-decode names rs k) ∙ (ap (λ v. get_or v k []) (sym whole) ∙ get-map-of (λ i. applied σ (expr_at S i)) ps k p [] listed)

    -- a symbol that is no variable of the assertion is its own image
    fixed : (y : Name) → V y ≡ false → image σ y ≡ y ∷ []
    fixed y none = image-fixed V σ y of_vars none

    -- the result for a `$f` is its typecode followed by the image of its variable
    float-premise : (k : ℕ) (d : At S names ps typecodes hs k) (x : ℕ) → (numbered_hypotheses : IsNumberedHypothesis S names d.position d.typecode (Float x)) → let f = float-at S names d.position d.typecode x numbered_hypotheses in decode names (get_or rs k []) ≡ f.constant ∷ image σ f.variable
    float-premise k d x numbered_hypotheses =
        let f = float-at S names d.position d.typecode x numbered_hypotheses in
        let fix : V f.constant ≡ false = bound.first k d.position (stmt.Float f.label f.constant f.variable) d.listed f.stands in
        premise-at k d.position d.listed
        ∙ (ap (applied σ) (expr-stands d.position (stmt.Float f.label f.constant f.variable) f.stands)
        ∙ (ap (λ e. e ++ (image σ f.variable ++ [])) (fixed f.constant fix) ∙ ap (λ e. f.constant ∷ e) (append-nil (image σ f.variable))))

    -- the result for a `$f` is not empty
    premise-some : (k x : ℕ) → slice_get hs k ≡ Some (Float x) → get_or rs k [] ≡ [] → ⊥
    premise-some k x kind none =
        let d = at k (within k (Float x) kind) in
        let numbered_hypotheses' = subst (IsNumberedHypothesis S names d.position d.typecode) (some-same d.kind kind) d.numbered_hypotheses in
        let f = float-at S names d.position d.typecode x numbered_hypotheses' in
        let e : [] ≡ f.constant ∷ image σ f.variable = ap (decode names) (sym none) ∙ float-premise k d x numbered_hypotheses' in cc

    one-typecode : (k : ℕ) → (d : At S names ps typecodes hs k) → typecode_of (get_or rs k []) ≡ d.typecode
    one-typecode k d = by (expr_of d.numbered_hypotheses.stmt) d.numbered_hypotheses.first (get_or rs k []) (all-at (length names) k rs low)
        (bound.first k d.position d.numbered_hypotheses.stmt d.listed d.numbered_hypotheses.stands)
        (premise-at k d.position d.listed ∙ ap (applied σ) (expr-stands d.position d.numbered_hypotheses.stmt d.numbered_hypotheses.stands))
      where
        by : (e : Expr) → IsTypecode names d.typecode e → (r : List ℕ) → AreBelow (length names) r → BeginsWithNoVariable (before S a) e → decode names r ≡ applied σ e → typecode_of r ≡ d.typecode
        by [] first [] b fix same = sym first
        by [] first (n ∷ r) b fix same = cc
        by (x ∷ e) first [] b fix same = let q : [] ≡ x ∷ applied σ e = same ∙ ap (λ i. i ++ applied σ e) (fixed x fix) in cc
        by (x ∷ e) first (n ∷ r) b fix same =
            let q : name_at names n ∷ decode names r ≡ x ∷ applied σ e = same ∙ ap (λ i. i ++ applied σ e) (fixed x fix) in
            let one : name_at names n ≡ x = cc in
            name_at-injective names n d.typecode distinct b.0 first.0 (one ∙ sym first.1)

    -- the result for a `$f` begins with its typecode
    pub premise-typed : (k x : ℕ) → slice_get hs k ≡ Some (Float x) → IsTyped (get_or typecodes k 0) (get_or rs k [])
    premise-typed k x kind =
        let d = at k (within k (Float x) kind) in
        record { some = some-length (get_or rs k []) (premise-some k x kind); first = one-typecode k d ∙ sym (get_or_from_slice_get typecodes k d.typecode 0 d.first) }
      where
        some-length : (e : List ℕ) → (e ≡ [] → ⊥) → 0 < length e
        some-length [] none = absurd (none refl)
        some-length (y ∷ e) none = omega arith

    module _ (ρ : CodeImages) (read : AreRead typecodes hs rs ρ) where
      float-agrees : (k x : ℕ) (v : Name) → slice_get hs k ≡ Some (Float x) → x < length names → name_at names x ≡ v → image (images_of_names names ρ) v ≡ image σ v
      float-agrees k x v kind lows named =
          let d = at k (within k (Float x) kind) in
          let numbered_hypotheses' = subst (IsNumberedHypothesis S names d.position d.typecode) (some-same d.kind kind) d.numbered_hypotheses in
          let f = float-at S names d.position d.typecode x numbered_hypotheses' in
          image-float ρ read k x v kind lows named
          ∙ (sym (drop-decode names (get_or rs k [])) ∙ (ap (drop 1) (float-premise k d x numbered_hypotheses') ∙ ap (image σ) (sym f.named ∙ named)))

      -- a symbol has the same image under both if it is no variable or is the variable of some `$f`
      agrees : (y : Name) → (V y ≡ true → HasFloat S ps y) → image (images_of_names names ρ) y ≡ image σ y
      agrees y has = by (V y) refl
        where
          float : HasFloat S ps y → image (images_of_names names ρ) y ≡ image σ y
          float f =
              let d = at f.place (let l = lens.1 in let m = slice_get_within ps f.place f.position f.listed in omega (arith, l, m, count)) in
              let same : d.position ≡ f.position = some-same d.listed f.listed in
              let x = float-number S names d.position d.typecode d.hypothesis f.label f.constant y d.numbered_hypotheses (ap (stmt_at S) same ∙ f.stands) in
              float-agrees f.place x.0 y (d.kind ∙ ap Some x.1) x.2 x.3

          by : (b : Bool) → V y ≡ b → image (images_of_names names ρ) y ≡ image σ y
          by false e = image-constant ρ read y e ∙ sym (fixed y e)
          by true e = float (has e)

      pub fits-agree : HypothesesMatch S (images_of_names names ρ) hs (map (decode names) rs)
      fits-agree = record { each = one }
        where
          one : (k : ℕ) (h : Hypothesis) → slice_get hs k ≡ Some h → HypothesisMatches S (images_of_names names ρ) h (get_or (map (decode names) rs) k [])
          one k (Float x) kind = tt
          one k (Essential q) kind =
              let d = at k (within k (Essential q) kind) in
              let f = essential-at S names d.position d.typecode q (subst (IsNumberedHypothesis S names d.position d.typecode) (some-same d.kind kind) d.numbered_hypotheses) in
              get-decode names rs k
              ∙ (premise-at k d.position d.listed
              ∙ (ap (applied σ) (expr-stands d.position (stmt.Ess f.label f.expr) f.stands)
              ∙ (sym (apply-members (images_of_names names ρ) σ f.expr (λ x in_x. agrees x (λ var. bound.essential k d.position f.label f.expr x d.listed f.stands in_x var)))
              ∙ ap (applied (images_of_names names ρ)) (sym (ap (expr_at S) f.same ∙ expr-stands d.position (stmt.Ess f.label f.expr) f.stands)))))

      pub conclusion-agrees : applied σ (expr_of s) ≡ applied (images_of_names names ρ) (expr_of s)
      conclusion-agrees = sym (apply-members (images_of_names names ρ) σ (expr_of s) (λ x in_x. agrees x (λ var. bound.own x in_x var)))

      pub disjoint-agrees : (D : Database) → are_groups_disjoint D (images_of_names names ρ) (mandatory_groups (before S a) s) ≡ are_groups_disjoint D σ (mandatory_groups (before S a) s)
      disjoint-agrees D = groups-members D (images_of_names names ρ) σ (mandatory_groups (before S a) s) (λ k g x listed in_g. agrees x (λ var. bound.grouped k g x listed in_g))
