-- What a citation of an assertion counts when the results are lists of numbers.
use Rattle.verify.proofs.Words.{◌≡◌, ℕ, ◌+◌, ◌-◌, ◌<◌, ◌≤◌, Bool, true, false, true≢false, cond, List, [], ◌∷◌, length, map, drop, take, get_or, slice_get, Option, Some, None, refl, sym, ◌∙◌, ap, subst, arith, nat_tests, nat_le, length-map, length-drop, drop-map, take-map, slice_get_within, get_or_from_slice_get, some-same, Name, Stmt, Expr, Database, stmt_at, before, expr_of, is_assertion, is_variable, hypotheses, mandatory_groups, with_result, name_at, decode, code_of, code-name, Images, image, applied, CodeImages, code_apply, images_of_names, image-named, image-unnamed, are_groups_disjoint, AreImagesOfVariables, premises, Carries, HasAssertion, HasFloat, HasLegalProperties, IsWellTyped, IsViewOf, AssertionView, Float, IsNumberedHypothesis, IsTyped, AreRead, HypothesesMatch, Cite, Results, State, named, AreNamed, MayCite, HeldResults, TellsDisjoint, Adds, below, top, weight_limit}
use Rattle.mm_read.specs.declared.stmt.Stmt.TheVariants as stmt
use Rattle.frame.specs.Sizes.{assertion_size}
use Rattle.frame.specs.DisjointWork.{disjointness}
use Rattle.verify.proofs.CitationLemmas.{conclusion-named}
use Rattle.verify.proofs.CitingLemmas.{drop-decode, fits-agree, get-decode, image-float, image-τ, premise-typed, premises-read}
use Rattle.verify.proofs.Decide.{length-premises}
use Rattle.verify.proofs.ImageLemmas.{only}
use Rattle.verify.proofs.Named.{all-drop, length-top, named-result}
use Rattle.verify.proofs.RequiredHypotheses.{At, required-lengths, required-at, float-at, float-number}
use Rattle.verify.proofs.WorkLemmas.{assertion-found, before-before, does-fit, images-same, not-fit, premises-same}
use Rattle.verify.proofs.LabelTableLemmas.{has_with}
use Rattle.verify.specs.Counted.{HasCountedFit, HasCountedPairs, IsPastFit, IsPastPairs, IsPastResult, is_past_with, outcome_of}
use Rattle.verify.specs.Metered.{Metered, is_over, metered, with_work}
use Rattle.verify.specs.RunsItemByNumber.{IsCitedView}
use Rattle.verify.specs.declared.citation.ProofContext.{ProofContext}
use Rattle.verify.specs.Work.{Outcome, conclude, fault, pushed, step}

-- ---- results by number

pub outcome-same : (m n : ℕ) (a b : Option State) → m ≡ n → a ≡ b → (let o : Outcome = record { work = m; after = a } in o) ≡ record { work = n; after = b }
outcome-same m n a b p q = ap (λ k. record { work = k; after = a }) p ∙ ap (λ r. record { work = n; after = r }) q

-- a fault leaves the results
pub fault-is : (names : List Name) (cost : ℕ) (old new : Results ℕ) → new ≡ old → fault cost ≡ outcome_of cost false names old new
fault-is names cost old new same = let w = ap (λ (r : Results ℕ). r.weight) same in outcome-same cost (cost + (new.weight - old.weight)) None None (omega (arith, w)) refl

-- a result is pushed, or the proof would be too heavy
pub pushed-is : (names : List Name) (cost : ℕ) (ok : Bool) (old new : Results ℕ) (under : List (List ℕ)) (e : List ℕ) → new.weight ≤ weight_limit → (ok ≡ false → new ≡ old) → Adds ok old new under e
    → pushed cost (named names old) (map (decode names) under) (decode names e) ≡ outcome_of cost ok names old new
pushed-is names cost true old new under e light same adds = by (nat_le (old.weight + length (decode names e)) weight_limit) refl
  where
    by : (b : Bool) → nat_le (old.weight + length (decode names e)) weight_limit ≡ b → pushed cost (named names old) (map (decode names) under) (decode names e) ≡ outcome_of cost true names old new
    by true h =
        let w = ap (λ (r : Results ℕ). r.weight) adds in
        let l = length-map e (name_at names) in
        rw h (outcome-same (cost + length (decode names e)) (cost + (new.weight - old.weight)) _ (Some (named names new)) (omega (arith, w, l)) (ap Some (sym (ap (named names) adds ∙ named-result names old under e))))
    by false h =
        let w = ap (λ (r : Results ℕ). r.weight) adds in
        let l = length-map e (name_at names) in
        let m : old.weight + length (decode names e) ≤ weight_limit = omega (arith, w, l, light) in
        let no : ⊥ = grind (arith, nat_tests, h, m) in absurd no
pushed-is names cost false old new under e light same heavy = by (nat_le (old.weight + length (decode names e)) weight_limit) refl
  where
    by : (b : Bool) → nat_le (old.weight + length (decode names e)) weight_limit ≡ b → pushed cost (named names old) (map (decode names) under) (decode names e) ≡ outcome_of cost false names old new
    by true h =
        let l = length-map e (name_at names) in
        let m : weight_limit < old.weight + length (decode names e) = omega (arith, heavy, l) in
        let no : ⊥ = grind (arith, nat_tests, h, m) in absurd no
    by false h = rw h (fault-is names cost old new (same refl))

top-map : {A B : Type 0} (f : A → B) (n : ℕ) (xs : List A) → top n (map f xs) ≡ map f (top n xs)
top-map f n xs = ap (λ m. drop (m - n) (map f xs)) (length-map xs f) ∙ drop-map f (length xs - n) xs

below-map : {A B : Type 0} (f : A → B) (n : ℕ) (xs : List A) → below n (map f xs) ≡ map f (below n xs)
below-map f n xs = ap (λ m. take (m - n) (map f xs)) (length-map xs f) ∙ take-map f (length xs - n) xs

-- ---- an assertion

-- the conditions on the stack that hold if typecodes and `$e` fit
pub record Matches (S : Database) (names : List Name) (c : AssertionView) (stack : List (List ℕ)) : Type 0 where
  pub many : length c.hypotheses ≤ length stack
  pub typed : (k x : ℕ) → slice_get c.hypotheses k ≡ Some (Float x) → IsTyped (get_or c.typecodes.now k 0) (get_or (top (length c.hypotheses) stack) k [])
  pub fits : (ρ : CodeImages) → AreRead c.typecodes.now c.hypotheses (top (length c.hypotheses) stack) ρ → HypothesesMatch S (images_of_names names ρ) c.hypotheses (map (decode names) (top (length c.hypotheses) stack))

module _ (S : Database) (names : List Name) (at a : ℕ) (s : Stmt) (c : AssertionView) (legal : HasLegalProperties S names) (bound : IsWellTyped S a s) (is : IsViewOf S names a s c)
    (label : Name) (carries : Carries S a s label) (assertion : is_assertion s ≡ true) (less : a < at) (old : Results ℕ) (an : AreNamed names old) where
  abbrev n : ℕ
  n = length c.hypotheses

  abbrev rs : List (List ℕ)
  rs = top n old.stack

  abbrev st : State
  st = named names old

  abbrev ps : List ℕ
  ps = hypotheses (before S a) s

  lens : (length c.typecodes.now ≡ length ps) × (length c.hypotheses ≡ length ps)
  lens = required-lengths S names ps c.typecodes.now c.hypotheses is.numbered_hypotheses

  -- if the results are the hypotheses under images of variables, the conditions hold
  matches : (σ : Images) → AreImagesOfVariables S a σ → premises S a s σ ≡ top n (map (decode names) old.stack) → Matches S names c old.stack
  matches σ of_variables whole =
      let whole' : premises S a s σ ≡ map (decode names) rs = whole ∙ top-map (decode names) n old.stack in
      let lp = length-premises S a s σ in
      let l = lens.1 in
      let e = ap length whole' in
      let m = length-map rs (decode names) in
      let d = length-drop (length old.stack - n) old.stack in
      let count : length rs ≡ n = omega (arith, lp, l, e, m) in
      record {
        many = omega (arith, count, d);
        typed = premise-typed S names a s legal.distinct bound c.typecodes.now c.hypotheses is.numbered_hypotheses rs count (all-drop (length names) (length old.stack - n) old.stack an.stack_named) σ of_variables whole';
        fits = λ ρ read. fits-agree S names a s legal.distinct bound c.typecodes.now c.hypotheses is.numbered_hypotheses rs count (all-drop (length names) (length old.stack - n) old.stack an.stack_named) σ of_variables whole' ρ read;
      }

  -- where they do not fit, the citation counts 1 and the assertion's size
  pub not-counted : (Matches S names c old.stack → ⊥) → step (before S at) (Cite label) st ≡ fault (1 + assertion_size (before S a) s)
  not-counted none =
      assertion-found S at legal.once a s label carries less assertion n lens.1 st
      ∙ not-fit S at a s less st (below n st.stack) (top n st.stack) bound (λ σ of_variables whole. none (matches σ of_variables whole))

  module _ (ρ : CodeImages) (many : n ≤ length old.stack) (read : AreRead c.typecodes.now c.hypotheses rs ρ)
      (fits : HypothesesMatch S (images_of_names names ρ) c.hypotheses (map (decode names) rs)) where
    abbrev N : Images
    N = images_of_names names ρ

    count : length rs ≡ n
    count = length-top n old.stack many

    at-place : (k : ℕ) → k < length ps → At S names ps c.typecodes.now c.hypotheses k
    at-place k h = required-at S names ps c.typecodes.now c.hypotheses k is.numbered_hypotheses h

    -- the image of the variable of a `$f`
    agree : (x : Name) (k p : ℕ) (l d : Name) → slice_get ps k ≡ Some p → stmt_at S p ≡ Some (stmt.Float l d x) → (r : Expr) → slice_get (map (decode names) rs) k ≡ Some r → image N x ≡ drop 1 r
    agree x k p l d listed stands r at_k =
        let h = at-place k (slice_get_within ps k p listed) in
        let same : h.position ≡ p = some-same h.listed listed in
        let z = float-number S names h.position h.typecode h.hypothesis l d x h.numbered_hypotheses (ap (stmt_at S) same ∙ stands) in
        image-float S names a s legal.distinct bound c.typecodes.now c.hypotheses is.numbered_hypotheses rs count ρ read k z.0 x (h.kind ∙ ap Some z.1) z.2 z.3
        ∙ (sym (drop-decode names (get_or rs k [])) ∙ ap (drop 1) (sym (get-decode names rs k) ∙ get_or_from_slice_get (map (decode names) rs) k r [] at_k))

    -- other names have no image
    other : (x : Name) → (HasFloat S ps x → ⊥) → image N x ≡ x ∷ []
    other x none = by (code_of names x) refl
      where
        by : (o : Option ℕ) → code_of names x ≡ o → image N x ≡ x ∷ []
        by None e = image-unnamed names ρ x e
        by (Some m) e =
            let named_so = code-name names x m e in
            image-named names ρ x m e
            ∙ (ap (decode names) (read.own m (λ k at_k.
            (let within = slice_get_within c.hypotheses k (Float m) at_k in
            let h = at-place k (let l = lens.1 in omega (arith, within, l)) in
            let f = float-at S names h.position h.typecode m (subst (IsNumberedHypothesis S names h.position h.typecode) (some-same h.kind at_k) h.numbered_hypotheses) in
            none (record { place = k; position = h.position; label = f.label; constant = f.constant; listed = h.listed; stands = f.stands ∙ ap (λ v. Some (stmt.Float f.label f.constant v)) (sym f.named ∙ named_so.1) }))))
            ∙ ap (λ z. z ∷ []) named_so.1)

    whole : premises S a s N ≡ top n st.stack
    whole =
        let D = legal.distinct in
        premises-same N (only (is_variable (before S a)) N) (λ x. sym (image-τ S names a s D bound c.typecodes.now c.hypotheses is.numbered_hypotheses rs count ρ read x)) S a s
        ∙ (premises-read S names a s D bound c.typecodes.now c.hypotheses is.numbered_hypotheses rs count ρ read fits ∙ sym (top-map (decode names) n old.stack))

    -- where they fit, the citation is concluded with the images that were read
    concluded : step (before S at) (Cite label) st ≡ conclude (before S at) a s N st (map (decode names) (below n old.stack))
    concluded =
        assertion-found S at legal.once a s label carries less assertion n lens.1 st
        ∙ (does-fit S at a s less st (below n st.stack) (top n st.stack) N
        (λ x. images-same S N x ps (top n st.stack) results-count
        (λ k p l d listed stands r at_k. agree x k p l d listed stands r (subst (λ xs. slice_get xs k ≡ Some r) (top-map (decode names) n old.stack) at_k)) (other x)) whole
        ∙ ap (conclude (before S at) a s N st) (below-map (decode names) n old.stack))
      where
        results-count : length (top n st.stack) ≡ length ps
        results-count = ap length (top-map (decode names) n old.stack) ∙ (length-map rs (decode names) ∙ (count ∙ lens.1))

    abbrev cost : ℕ
    cost = 1 + assertion_size (before S a) s + disjointness (before S a) s (before S at) N

    -- by whether the images are disjoint
    by-disjoint : (b : Bool) → are_groups_disjoint (before S at) N (mandatory_groups (before S a) s) ≡ b
        → step (before S at) (Cite label) st ≡ cond b (pushed cost st (map (decode names) (below n old.stack)) (decode names (code_apply ρ c.conclusion.now))) (fault cost)
    by-disjoint b disjoint =
        concluded
        ∙ (ap (λ D. cond (are_groups_disjoint (before S at) N (mandatory_groups D s)) (pushed (1 + assertion_size D s + disjointness D s (before S at) N) st (map (decode names) (below n old.stack)) (applied N (expr_of s))) (fault (1 + assertion_size D s + disjointness D s (before S at) N))) (before-before S at a (omega (arith, less)))
        ∙ (ap (λ g. cond g (pushed cost st (map (decode names) (below n old.stack)) (applied N (expr_of s))) (fault cost)) disjoint
        ∙ ap (λ e. cond b (pushed cost st (map (decode names) (below n old.stack)) e) (fault cost)) (sym (conclusion-named S names at a s c legal bound is ρ))))

    -- whether they are or not, the citation counts its disjointness
    pub least-counted : cost ≤ (step (before S at) (Cite label) st).work
    least-counted = subst (λ (o : Outcome). cost ≤ o.work) (sym (by-disjoint (are_groups_disjoint (before S at) N (mandatory_groups (before S a) s)) refl)) (either (are_groups_disjoint (before S at) N (mandatory_groups (before S a) s)))
      where
        light : (under : List Expr) (e : Expr) (b : Bool) → cost ≤ (cond b (record { work = cost + length e; after = Some (with_result st under e) }) (fault cost)).work
        light under e true = omega arith
        light under e false = omega arith

        either : (b : Bool) → cost ≤ (cond b (pushed cost st (map (decode names) (below n old.stack)) (decode names (code_apply ρ c.conclusion.now))) (fault cost)).work
        either true = light (map (decode names) (below n old.stack)) (decode names (code_apply ρ c.conclusion.now)) (nat_le (st.weight + length (decode names (code_apply ρ c.conclusion.now))) weight_limit)
        either false = omega arith

    pub not-disjoint-counted : are_groups_disjoint (before S at) N (mandatory_groups (before S a) s) ≡ false → step (before S at) (Cite label) st ≡ fault cost
    not-disjoint-counted h = by-disjoint false h

    pub done-counted : are_groups_disjoint (before S at) N (mandatory_groups (before S a) s) ≡ true → (ok : Bool) (new : Results ℕ) → new.weight ≤ weight_limit → (ok ≡ false → new ≡ old)
        → Adds ok old new (below n old.stack) (code_apply ρ c.conclusion.now) → step (before S at) (Cite label) st ≡ outcome_of cost ok names old new
    done-counted h ok new light same adds = by-disjoint true h ∙ pushed-is names cost ok old new (below n old.stack) (code_apply ρ c.conclusion.now) light same adds

-- ---- the citation of an assertion, as the code goes through it

pub with-none : (m : Metered) → m ≡ with_work m 0
with-none m = let e : m.count ≡ m.count + 0 = omega arith in ap (λ n. metered n m.limit) e

module _ (t : ProofContext) (a : ℕ) (old : HeldResults) (may : MayCite t a old.results) (c : AssertionView) (cited : IsCitedView t a c) where
  abbrev S : Database
  S = t.frames.now.statements

  abbrev names : List Name
  names = t.frames.now.names

  -- the assertion with a label is the one that stands there
  one : (label : Name) (s : Stmt) → Carries S a s label → HasAssertion S a s
  one label s carries = has_with S a s may.assertion.0 label carries may.assertion.1

  -- typecodes and `$e` do not fit
  pub fit-not : (new : HeldResults) (m m' : Metered) → new.results ≡ old.results → m' ≡ m → (Matches S names c old.results.stack → ⊥) → HasCountedFit t a old new m m' false
  fit-not new m m' same kept none = record {
    extra = 0;
    metered = kept ∙ with-none m;
    gives = λ label s carries.
        let has = one label s carries in
        let cost : 1 + assertion_size (before S a) s ≡ 1 + assertion_size (before S a) s + 0 = omega arith in
        not-counted S names t.at a s c may.ready.legal (may.ready.legal.well_typed a s has) (cited s carries.stands) label carries has.1 may.earlier old.results may.named none
        ∙ (ap fault cost ∙ fault-is names (1 + assertion_size (before S a) s + 0) old.results new.results same);
  }

  module _ (ρ : CodeImages) (m m' : Metered) (many : length c.hypotheses ≤ length old.results.stack) (read : AreRead c.typecodes.now c.hypotheses (top (length c.hypotheses) old.results.stack) ρ)
      (fits : HypothesesMatch S (images_of_names names ρ) c.hypotheses (map (decode names) (top (length c.hypotheses) old.results.stack))) where
    abbrev pairs_work : Stmt → ℕ
    pairs_work s = disjointness (before S a) s (before S t.at) (images_of_names names ρ)

    same-work : (label : Name) (s : Stmt) → Carries S a s label → pairs_work s ≡ pairs_work may.assertion.0
    same-work label s carries = ap pairs_work (some-same carries.stands may.assertion.1.0)

    -- they fit, and beside the results the meter is past its limit with their disjointness
    pub fit-past : IsPastPairs t a ρ (with_work m old.results.weight) → IsPastFit t a old m
    fit-past past = record {
      extra = pairs_work may.assertion.0;
      past = past may.assertion.0 may.assertion.1.0;
      within = λ label s carries.
          let has = one label s carries in
          let least = least-counted S names t.at a s c may.ready.legal (may.ready.legal.well_typed a s has) (cited s carries.stands) label carries has.1 may.earlier old.results may.named ρ many read fits in
          let same = same-work label s carries in
          omega (arith, least, same);
    }

    -- they fit, and images are not disjoint
    pub fit-apart : HasCountedPairs t a ρ m m' → (new : HeldResults) → new.results ≡ old.results → TellsDisjoint t a ρ false → HasCountedFit t a old new m m' false
    fit-apart pairs new same apart = record {
      extra = pairs_work may.assertion.0;
      metered = pairs may.assertion.0 may.assertion.1.0;
      gives = λ label s carries.
          let has = one label s carries in
          not-disjoint-counted S names t.at a s c may.ready.legal (may.ready.legal.well_typed a s has) (cited s carries.stands) label carries has.1 may.earlier old.results may.named ρ many read fits
          (sym (apart s carries.stands))
          ∙ (ap (λ w. fault (1 + assertion_size (before S a) s + w)) (same-work label s carries)
          ∙ fault-is names (1 + assertion_size (before S a) s + pairs_work may.assertion.0) old.results new.results same);
    }

    -- they fit, images are disjoint, and the result is pushed, or the proof would be too heavy
    pub fit-done : HasCountedPairs t a ρ m m' → (ok : Bool) (new : HeldResults) → TellsDisjoint t a ρ true → new.results.weight ≤ weight_limit → (ok ≡ false → new.results ≡ old.results)
        → Adds ok old.results new.results (below (length c.hypotheses) old.results.stack) (code_apply ρ c.conclusion.now) → HasCountedFit t a old new m m' ok
    fit-done pairs ok new disjoint light same adds = record {
      extra = pairs_work may.assertion.0;
      metered = pairs may.assertion.0 may.assertion.1.0;
      gives = λ label s carries.
          let has = one label s carries in
          done-counted S names t.at a s c may.ready.legal (may.ready.legal.well_typed a s has) (cited s carries.stands) label carries has.1 may.earlier old.results may.named ρ many read fits
          (sym (disjoint s carries.stands)) ok new.results light same adds
          ∙ ap (λ w. outcome_of (1 + assertion_size (before S a) s + w) ok names old.results new.results) (same-work label s carries);
    }

    -- they fit, images are disjoint, and beside the results the meter is past its limit with the
    -- result too
    pub fit-heavy : HasCountedPairs t a ρ m m' → TellsDisjoint t a ρ true → (held : HeldResults) → held.results ≡ old.results → IsPastResult held.results.weight (code_apply ρ c.conclusion.now) m' → IsPastFit t a old m
    fit-heavy pairs disjoint held same past = record {
      extra = pairs_work may.assertion.0 + length (code_apply ρ c.conclusion.now);
      past =
          let n = length (code_apply ρ c.conclusion.now) in
          let w = pairs_work may.assertion.0 in
          let weight : held.results.weight ≡ old.results.weight = ap (λ (r : Results ℕ). r.weight) same in
          let e : m.count + w + (held.results.weight + n) ≡ m.count + old.results.weight + (w + n) = omega (arith, weight) in
          subst (λ k. is_over m.limit k ≡ true) e (subst (λ x. is_past_with x (held.results.weight + n) ≡ true) (pairs may.assertion.0 may.assertion.1.0) past.past);
      within = λ label s carries.
          let has = one label s carries in
          let after = with_result old.results (below (length c.hypotheses) old.results.stack) (code_apply ρ c.conclusion.now) in
          let weight : held.results.weight ≡ old.results.weight = ap (λ (r : Results ℕ). r.weight) same in
          let low = past.light in
          let done = ap (λ (o : Outcome). o.work)
          (done-counted S names t.at a s c may.ready.legal (may.ready.legal.well_typed a s has) (cited s carries.stands) label carries has.1 may.earlier old.results may.named ρ many read fits
          (sym (disjoint s carries.stands)) true after (omega (arith, weight, low)) (λ f. absurd (true≢false f)) refl) in
          let work = same-work label s carries in
          omega (arith, done, work);
    }
