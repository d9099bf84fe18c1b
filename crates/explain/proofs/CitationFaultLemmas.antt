-- Hypotheses that require other results than they have.
use Rattle.explain.proofs.Words.{◌≡◌, ℕ, ◌+◌, ◌-◌, ◌<◌, ◌≤◌, List, [], ◌∷◌, ◌++◌, length, take, drop, get_or, map, refl, sym, ◌∙◌, ap, subst, arith, false, true≢false, add-one, append-nil, Some, slice_get, same_Some, take-suc, slice_get-get_or, slice_get_within, get_or_from_slice_get, take-map, map_push, length-map, Name, Stmt, Database, Expr, stmt_at, before, expr_of, is_variable, name_at, decode, AreDistinct, Hypothesis, Float, Essential, AreBelow, AllBelow, AreNumberedHypotheses, IsNumberedHypothesis, expr_at, option_expr, CodeImages, Images, code_image, code_apply, hypotheses, required_result, AllMatch, IsFirstMismatch, HasOtherTypecode, HasOtherTypecodeThan, IsEssential, IsMismatchFault, AreRead, last_named, images_read, HasAssertion, Numbered, OtherTypecode, OtherExpression, take_all, length-drop, all-drop, map-at, name_at-injective, decode-injective}
use Rattle.explain.specs.Excerpts.{IsExcerpt, IsExcerptOf}
use Rattle.explain.specs.declared.excerpt.Excerpt.{Excerpt}
use Rattle.explain.specs.declared.excerpt.TheConstants.{EXCERPT_LEN}
use Rattle.mm_read.specs.declared.stmt.Stmt.TheVariants as stmt
use Rattle.frame.specs.Substitution.{apply as applied}
use Rattle.frame.specs.WellTyped.{IsWellTyped}
use Rattle.frame.specs.AssertionView.{IsViewOf}
use Rattle.frame.specs.AtPosition.{HasLegalProperties}
use Rattle.entries.specs.declared.assertion_view.AssertionView.{AssertionView}
use Rattle.explain.specs.WrongResults.{ResultsMatch}
use Rattle.std.proofs.lemmas.List.{get_or-drop}
use Rattle.verify.proofs.Named.{all-at, length-top}
use Rattle.verify.specs.ResultPlaces.{HeldResults, top}
use Rattle.verify.proofs.RequiredHypotheses.{float-at, essential-at, required-at, required-different, required-lengths}
use Rattle.verify.specs.HypothesisResults.{AreGiven}
use Rattle.explain.proofs.NamedLemmas.{AreSame, apply-below, apply_same, given_same, given-below, read-float, read-own}

-- the expression at a position is that of the statement there
pub expr_is : (S : Database) (p : ℕ) (s : Stmt) → stmt_at S p ≡ Some s → expr_at S p ≡ expr_of s
expr_is S p s e = ap option_expr e

-- an excerpt by number is one by name
pub excerpt_named : (names : List Name) (e : List ℕ) (excerpt : Excerpt) → IsExcerpt e excerpt → IsExcerptOf names (decode names e) excerpt
excerpt_named names e excerpt is = record { symbols = ap (decode names) is.symbols ∙ sym (take-map (name_at names) EXCERPT_LEN e); len = is.len ∙ sym (length-map e (name_at names)) }

module _ (S : Database) (names : List Name) (σ : Images) (ps : List ℕ) (results : List (List ℕ)) (k : ℕ) (r : List ℕ) (within : k < length ps) (here : slice_get results k ≡ Some r)
    (before : AllMatch S σ (take k ps) (take k (map (decode names) results))) where
  -- the first k + 1 results by name are the first k and this one
  last_is : take (k + 1) (map (decode names) results) ≡ take k (map (decode names) results) ++ decode names r ∷ []
  last_is =
      let inside = slice_get_within results k r here in
      take-map (decode names) (k + 1) results
      ∙ (ap (λ n. map (decode names) (take n results)) (add-one k)
      ∙ (ap (λ l. map (decode names) l) (take-suc results k [] inside ∙ ap (λ v. take k results ++ v ∷ []) (get_or_from_slice_get results k r [] here))
      ∙ (map_push (decode names) (take k results) r
      ∙ ap (λ l. l ++ decode names r ∷ []) (sym (take-map (decode names) k results)))))

  -- the next hypothesis has the result that it requires
  pub fit_more : required_result S σ (get_or ps k 0) ≡ decode names r → AllMatch S σ (take (k + 1) ps) (take (k + 1) (map (decode names) results))
  fit_more e =
      ap (λ n. map (required_result S σ) (take n ps)) (add-one k)
      ∙ (ap (λ l. map (required_result S σ) l) (take-suc ps k 0 within)
      ∙ (map_push (required_result S σ) (take k ps) (get_or ps k 0)
      ∙ (ap (λ l. l ++ required_result S σ (get_or ps k 0) ∷ []) before
      ∙ (ap (λ x. take k (map (decode names) results) ++ x ∷ []) e ∙ sym last_is))))

  -- the next hypothesis requires another result than it has
  pub other_here : (required : List ℕ) → AreDistinct names → AreBelow (length names) required → AreBelow (length names) r → decode names required ≡ required_result S σ (get_or ps k 0) → (r ≡ required → ⊥)
      → IsFirstMismatch S σ ps (map (decode names) results) k (get_or ps k 0) (decode names r)
  other_here required distinct low below is differ = record {
    hypothesis = slice_get-get_or ps k 0 within;
    result = map-at (decode names) results k r here;
    differ = λ same. differ (decode-injective names r required distinct below low (same ∙ sym is));
    before = before;
  }

-- the result that a hypothesis requires, computed by number
pub required_is : (S : Database) (names : List Name) (σ : CodeImages) (τ : Images) → AreSame names σ τ → (p : ℕ) (s : Stmt) → stmt_at S p ≡ Some s
    → (e : List ℕ) → decode names e ≡ expr_of s → AreBelow (length names) e → decode names (code_apply σ e) ≡ required_result S τ p
required_is S names σ τ same p s stands e is below = apply_same names σ τ e same below ∙ ap (λ x. applied τ x) (is ∙ sym (expr_is S p s stands))

-- ---- the hypothesis that requires another result

-- the statement of a `$e` is a `$e`
pub essential_is : (S : Database) (names : List Name) (p typecode q : ℕ) → IsNumberedHypothesis S names p typecode (Essential q) → IsEssential (stmt_at S p)
essential_is S names p typecode q is = let e = essential-at S names p typecode q is in subst IsEssential (sym e.stands) tt

-- two numbers whose names are two names
two_numbers : (names : List Name) (e : List ℕ) (c v : Name) → decode names e ≡ c ∷ v ∷ [] → (a : ℕ) × (b : ℕ) × (e ≡ a ∷ b ∷ []) × (name_at names a ≡ c) × (name_at names b ≡ v)
two_numbers names [] c v is = cc
two_numbers names (a ∷ []) c v is = cc
two_numbers names (a ∷ b ∷ []) c v is = (a, b, refl, cc, cc)
two_numbers names (a ∷ b ∷ d ∷ e) c v is = cc

module _ (S : Database) (names : List Name) (a : ℕ) (s : Stmt) (distinct : AreDistinct names) (bound : IsWellTyped S a s) (typecodes : List ℕ) (hs : List Hypothesis)
    (numbered : AreNumberedHypotheses S names (hypotheses (before S a) s) typecodes hs) (rs : List (List ℕ)) (count : length rs ≡ length hs) (σ : CodeImages) (given : AreGiven hs rs σ) where
  -- a number that stands for no variable is its own image
  constant_own : (t : ℕ) → is_variable (before S a) (name_at names t) ≡ false → code_image σ t ≡ t ∷ []
  constant_own t none = given.each t ∙ read-own t hs rs (λ k at.
      (let lens = required-lengths S names (hypotheses (before S a) s) typecodes hs numbered in
      let inside = slice_get_within hs k (Float t) at in
      let d = required-at S names (hypotheses (before S a) s) typecodes hs k numbered (let l = lens.1 in omega (arith, inside, l)) in
      let f = float-at S names d.position d.typecode t (subst (IsNumberedHypothesis S names d.position d.typecode) (same_Some d.hypothesis (Float t) (sym d.kind ∙ at)) d.numbered_hypotheses) in
      true≢false (sym (bound.variable k d.position f.label f.constant f.variable d.listed f.stands) ∙ (ap (is_variable (before S a)) (sym f.named) ∙ none))))

  -- a result that is not the one that a `$f` requires begins with another typecode
  pub other_typecode : (k p typecode x : ℕ) (e r : List ℕ) → slice_get (hypotheses (before S a) s) k ≡ Some p → slice_get hs k ≡ Some (Float x) → IsNumberedHypothesis S names p typecode (Float x)
      → ((t : Stmt) → stmt_at S p ≡ Some t → decode names e ≡ expr_of t) → AreBelow (length names) e → slice_get rs k ≡ Some r → AreBelow (length names) r → (r ≡ code_apply σ e → ⊥)
      → HasOtherTypecodeThan (stmt_at S p) (decode names r)
  other_typecode k p typecode x e r listed kind is said below at low differ =
      let f = float-at S names p typecode x is in
      subst (λ o. HasOtherTypecodeThan o (decode names r)) (sym f.stands) (by r refl f.constant f.variable (two_numbers names e f.constant f.variable (said (stmt.Float f.label f.constant f.variable) f.stands)) f.below f.named
      (bound.first k p (stmt.Float f.label f.constant f.variable) listed f.stands))
    where
      by : (q : List ℕ) → r ≡ q → (c v : Name) → (i : ℕ) × (j : ℕ) × (e ≡ i ∷ j ∷ []) × (name_at names i ≡ c) × (name_at names j ≡ v) → x < length names → name_at names x ≡ v → is_variable (before S a) c ≡ false
          → HasOtherTypecode c (decode names q)
      by [] is_q c v two inside named none = tt
      by (y ∷ q) is_q c v two inside named none = λ begins. differ (is_q ∙ sym (applied_is begins))
        where
          both : AreBelow (length names) (two.0 ∷ two.1 ∷ [])
          both = subst (AreBelow (length names)) two.2 below

          all : AreBelow (length names) (y ∷ q)
          all = subst (AreBelow (length names)) is_q low

          applied_is : name_at names y ≡ c → code_apply σ e ≡ y ∷ q
          applied_is begins =
              let first : two.0 ≡ y = name_at-injective names two.0 y distinct both.0 all.0 (two.3 ∙ sym begins) in
              let second : two.1 ≡ x = name_at-injective names two.1 x distinct both.1.0 inside (two.4 ∙ sym named) in
              let tail : code_image σ two.1 ≡ q =
              ap (code_image σ) second ∙ (given.each x ∙ (read-float x k hs rs (required-different S names a s typecodes hs bound numbered) kind count ∙ ap (drop 1) (get_or_from_slice_get rs k r [] at ∙ is_q))) in
              ap (code_apply σ) two.2
              ∙ (ap (λ l. l ++ (code_image σ two.1 ++ [])) (constant_own two.0 (ap (is_variable (before S a)) two.3 ∙ none))
              ∙ (ap (λ l. two.0 ∷ l) (append-nil (code_image σ two.1) ∙ tail) ∙ ap (λ z. z ∷ q) first))

-- ---- the results for the hypotheses of a cited assertion

-- a result among the last ones
last_at : (stack : List (List ℕ)) (n base k : ℕ) → base ≡ length stack - n → n ≤ length stack → k < n → slice_get (top n stack) k ≡ Some (get_or stack (base + k) [])
last_at stack n base k is many inside =
    let cut = length-drop (length stack - n) stack in
    slice_get-get_or (drop (length stack - n) stack) k [] (omega (arith, cut, many, inside)) ∙ ap Some (get_or-drop (length stack - n) stack k [] ∙ ap (λ b. get_or stack (b + k) []) (sym is))

module _ (f : Numbered) (a : ℕ) (s : Stmt) (c : AssertionView) (r : HeldResults) (ps : List ℕ) (legal : HasLegalProperties f.statements f.names) (has : HasAssertion f.statements a s)
    (is : IsViewOf f.statements f.names a s c) (same : ps ≡ hypotheses (before f.statements a) s) (read : AreRead f c.hypotheses r) where
  abbrev stack : List (List ℕ)
  stack = r.results.stack

  abbrev n : ℕ
  n = length c.hypotheses

  abbrev named : List Expr
  named = last_named f c.hypotheses r

  abbrev τ : Images
  τ = images_read f.statements ps named

  numbered : AreNumberedHypotheses f.statements f.names ps c.typecodes.now c.hypotheses
  numbered = subst (λ qs. AreNumberedHypotheses f.statements f.names qs c.typecodes.now c.hypotheses) (sym same) is.numbered_hypotheses

  pub as_many : n ≡ length ps
  as_many = (required-lengths f.statements f.names ps c.typecodes.now c.hypotheses numbered).1

  low : AllBelow (length f.names) (top n stack)
  low = all-drop (length f.names) (length stack - n) stack read.below

  pub images_same : AreSame f.names r.images τ
  images_same = given_same f.statements f.names legal.distinct ps c.typecodes.now c.hypotheses (top n stack) r.images numbered read.given

  pub images_over : (x : ℕ) → x < length f.names → AreBelow (length f.names) (code_image r.images x)
  images_over x less = given-below (length f.names) x c.hypotheses (top n stack) r.images read.given low less

  -- the hypothesis with an index, by its number
  pub numbered_at : (k : ℕ) (h : Hypothesis) → slice_get c.hypotheses k ≡ Some h → (typecode : ℕ) × IsNumberedHypothesis f.statements f.names (get_or ps k 0) typecode h
  numbered_at k h at =
      let inside = slice_get_within c.hypotheses k h at in
      let d = required-at f.statements f.names ps c.typecodes.now c.hypotheses k numbered (let many = as_many in omega (arith, inside, many)) in (
        d.typecode,
        subst (λ p. IsNumberedHypothesis f.statements f.names p d.typecode h) (sym (get_or_from_slice_get ps k d.position 0 d.listed))
            (subst (λ g. IsNumberedHypothesis f.statements f.names d.position d.typecode g) (same_Some d.hypothesis h (sym d.kind ∙ at)) d.numbered_hypotheses),
      )

  module _ (k base : ℕ) (within : k < length ps) (base_is : base ≡ length stack - n) (e : List ℕ)
      (said : (t : Stmt) → stmt_at f.statements (get_or ps k 0) ≡ Some t → decode f.names e ≡ expr_of t) (below : AreBelow (length f.names) e) (before_all : AllMatch f.statements τ (take k ps) (take k named)) where
    abbrev p : ℕ
    p = get_or ps k 0

    abbrev actual : List ℕ
    actual = get_or stack (base + k) []

    here : slice_get (top n stack) k ≡ Some actual
    here = last_at stack n base k base_is read.count (let many = as_many in omega (arith, within, many))

    actual_low : AreBelow (length f.names) actual
    actual_low = all-at (length f.names) (base + k) stack read.below

    required : decode f.names (code_apply r.images e) ≡ required_result f.statements τ p
    required =
        let h = numbered_at k (get_or c.hypotheses k (Float 0)) (slice_get-get_or c.hypotheses k (Float 0) (let many = as_many in omega (arith, within, many))) in
        required_is f.statements f.names r.images τ images_same p h.1.stmt h.1.stands e (said h.1.stmt h.1.stands) below

    -- if the result is the one that is required, so are one more
    pub match_next : actual ≡ code_apply r.images e → AllMatch f.statements τ (take (k + 1) ps) (take (k + 1) named)
    match_next fits = fit_more f.statements f.names τ ps (top n stack) k actual within here before_all (sym required ∙ sym (ap (decode f.names) fits))

    module _ (differ : actual ≡ code_apply r.images e → ⊥) where
      mismatch : IsFirstMismatch f.statements (images_read f.statements (hypotheses (before f.statements a) s) named) (hypotheses (before f.statements a) s) named k p (decode f.names actual)
      mismatch = subst (λ qs. IsFirstMismatch f.statements (images_read f.statements qs named) qs named k p (decode f.names actual)) same
          (other_here f.statements f.names τ ps (top n stack) k actual within here before_all (code_apply r.images e) legal.distinct (apply-below (length f.names) r.images e images_over below) actual_low required differ)

      -- the fault of a `$f`
      pub float_fault : (x : ℕ) (excerpt : Excerpt) → slice_get c.hypotheses k ≡ Some (Float x) → IsExcerpt actual excerpt → IsMismatchFault f.statements f.names a s named (OtherTypecode a p excerpt)
      float_fault x excerpt at cut =
          let h = numbered_at k (Float x) at in
          let listed = subst (λ qs. slice_get qs k ≡ Some p) same (slice_get-get_or ps k 0 within) in (
            refl,
            (
              k,
              decode f.names actual,
              mismatch,
              other_typecode f.statements f.names a s legal.distinct (legal.well_typed a s has) c.typecodes.now c.hypotheses is.numbered_hypotheses (top n stack) (length-top n stack read.count) r.images read.given k p h.0 x e actual
                  listed at h.1 said below here actual_low differ,
              excerpt_named f.names actual excerpt cut,
            ),
          )

      -- the fault of a `$e`
      pub essential_fault : (q : ℕ) (wanted excerpt : Excerpt) → slice_get c.hypotheses k ≡ Some (Essential q) → IsExcerpt (code_apply r.images e) wanted → IsExcerpt actual excerpt
          → IsMismatchFault f.statements f.names a s named (OtherExpression a p wanted excerpt)
      essential_fault q wanted excerpt at first cut =
          let h = numbered_at k (Essential q) at in (
            refl,
            (
              k,
              decode f.names actual,
              mismatch,
              essential_is f.statements f.names p h.0 q h.1,
              subst (λ x. IsExcerptOf f.names x wanted) (required ∙ ap (λ qs. required_result f.statements (images_read f.statements qs named) p) same) (excerpt_named f.names (code_apply r.images e) wanted first),
              excerpt_named f.names actual excerpt cut,
            ),
          )

  -- all results are those that are required
  pub all_match : (k : ℕ) → length ps ≤ k → AllMatch f.statements τ (take k ps) (take k named) → ResultsMatch f.statements a s named
  all_match k over all =
      let long = length-map (top n stack) (decode f.names) in
      let count = length-top n stack read.count in
      let many = as_many in
      subst (λ qs. AllMatch f.statements (images_read f.statements qs named) qs named) same
      (ap (map (required_result f.statements τ)) (sym (take_all k ps over)) ∙ (all ∙ take_all k named (omega (arith, over, long, count, many))))
