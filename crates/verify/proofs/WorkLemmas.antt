-- What a citation counts, by the meaning of its label.
use Rattle.verify.proofs.Words.{◌≡◌, ℕ, zero, suc, ◌+◌, ◌-◌, ◌<◌, ◌≤◌, Bool, true, false, cond, filter, ◌&&◌, List, [], ◌∷◌, ◌++◌, length, map, take, drop, Option, Some, None, slice_get, refl, sym, ◌∙◌, ap, arith, true≢false, nat_le, nat_lt, nat_tests, some-same, list_all, and_from, bytes_eq-Decides, name_same, same_name, length-append, slice_get_within, Name, name_eq, Stmt, Ess, Expr, Database, before, stmt_at, is_active, is_variable, is_assertion, label_of, expr_of, hypotheses, mandatory_groups, is_hypothesis_kind, IsWellTyped, HasFloat, Images, image, applied, are_groups_disjoint, AreImagesOfVariables, Carries, IsHypothesis, IsCitable, expr_at, option_expr, premises, AreHyps, hyps, label_or_empty, mandatory_labels, stands-within, length-take-le, HasLabelsOnce, Cite, State, below, top}
use mathlib.Core.Path.{fun_ext}
use Rattle.mm_read.specs.declared.stmt.Stmt.TheVariants.{Float}
use Rattle.std.specs.Cmp.Lexicographic.{pointwise, pointwise_decides}
use Rattle.std.specs.Prelude.{sum_by}
use Rattle.std.proofs.lemmas.Bool.{and_parts}
use Rattle.std.proofs.lemmas.List.{length-take, take-take}
use Rattle.scope.specs.Active.{has_label, stays_open}
use Rattle.frame.proofs.BlockWalkLemmas.{get-take, active-stays, active-end}
use Rattle.frame.specs.Sizes.{assertion_size, mandatory_variables, row}
use Rattle.frame.specs.FrameOf.{is_mandatory_pair}
use Rattle.frame.specs.DisjointWork.{disjointness, all_pairs_work, has_pair, image_work, pairs_work, variables_in}
use Rattle.verify.proofs.Decide.{not_both}
use Rattle.verify.proofs.ImageLemmas.{apply-members, groups-members}
use Rattle.verify.specs.Work.{Outcome, labelled_from, image_from, images_from, fit, fault, pushed, conclude, take_results, cite_assertion, cite, step}

-- ---- the first statement with a label

same-found : (p q : ℕ × Stmt) → Some p ≡ Some q → (p.0 ≡ q.0) × (p.1 ≡ q.1)
same-found p q e = let same : p ≡ q = some-same refl e in (ap (λ r. r.0) same, ap (λ r. r.1) same)

-- a label that is found is that of the statement
has-label : (label : Name) (o : Option Name) → has_label label o ≡ true → o ≡ Some label
has-label label None h = absurd (true≢false (sym h))
has-label label (Some l) h = ap Some (sym (same_name label l h))

-- a statement is found by its label if no earlier one has it
first-labelled : (k : ℕ) (T : Database) (label : Name) (n : ℕ) (s : Stmt) → slice_get T n ≡ Some s → label_of s ≡ Some label
    → ((m : ℕ) (r : Stmt) → m < n → slice_get T m ≡ Some r → has_label label (label_of r) ≡ false) → labelled_from k T label ≡ Some (k + n, s)
first-labelled k [] label n s at_n has none = cc
first-labelled k (t ∷ T) label zero s at_n has none =
    let same : t ≡ s = some-same refl at_n in
    let here : has_label label (label_of t) ≡ true = ap (λ r. has_label label (label_of r)) same ∙ (ap (has_label label) has ∙ name_same label) in
    let e : k ≡ k + 0 = omega arith in
    rw here (ap (λ r. Some (k, r)) same ∙ ap (λ i. Some (i, s)) e)
first-labelled k (t ∷ T) label (suc n) s at_n has none =
    let e : k + 1 + n ≡ k + suc n = omega arith in
    rw (none zero t (omega arith) refl)
    (first-labelled (k + 1) T label n s at_n has (λ m r h g. none (suc m) r (omega (arith, h)) g) ∙ ap (λ i. Some (i, s)) e)

-- ---- the statements before a theorem

module _ (S : Database) (at : ℕ) where
  -- they stand where they stood
  stands-before : (i : ℕ) → i < at → stmt_at (before S at) i ≡ stmt_at S i
  stands-before zero h = refl
  stands-before (suc n) h = get-take n (at - 1) S (omega (arith, h))

  expr-before : (i : ℕ) → i < at → expr_at (before S at) i ≡ expr_at S i
  expr-before i h = ap option_expr (stands-before i h)

  -- before an earlier statement the same ones stand
  pub before-before : (a : ℕ) → a ≤ at → before (before S at) a ≡ before S a
  before-before a h = take-take (a - 1) (at - 1) S (omega (arith, h))

  -- the same hypotheses are active
  pub active-before : (i : ℕ) (s : Stmt) → stmt_at S i ≡ Some s → i < at → is_active (before S at) i (length (before S at) + 1) ≡ is_active S i at
  active-before zero s stands h = cc
  active-before (suc n) s stands h =
      let within = slice_get_within (before S at) n s (get-take n (at - 1) S (omega (arith, h)) ∙ stands) in
      active-end (before S at) n within ∙ sym (active-stays S (suc n) at (omega arith) h)

  -- functions that agree on earlier positions agree on those of mandatory hypotheses
  map-hypotheses : {A : Type 0} (f g : ℕ → A) → ((i : ℕ) → i < at → f i ≡ g i) → (D : Database) (s : Stmt) → length D < at → (ps : List ℕ) → AreHyps D s ps → map f ps ≡ map g ps
  map-hypotheses f g same D s less [] h = refl
  map-hypotheses f g same D s less (p ∷ ps) h =
      let l = length-append h.0.front (h.0.stmt ∷ h.0.rest) in
      let e = ap length h.0.whole in
      let here : p < at = omega (arith, l, e, h.0.at, less) in
      ap (λ x. x ∷ map f ps) (same p here) ∙ ap (λ xs. g p ∷ xs) (map-hypotheses f g same D s less ps h.1)

  -- the labels of the mandatory hypotheses of the theorem are the same
  pub mandatory-before : (s : Stmt) → stmt_at S at ≡ Some s → mandatory_labels (before S at) (length (before S at) + 1) s ≡ mandatory_labels S at s
  mandatory-before s stands =
      let w = stands-within S at s stands in
      let low = w.0 in
      let high = w.1 in
      let l = length-take-le (at - 1) S (omega (arith, high)) in
      let whole : length (before S at) + 1 ≡ at = omega (arith, l, low) in
      ap (λ D. map (λ i. label_or_empty (stmt_at (before S at) i)) (hypotheses D s)) (before-before (length (before S at) + 1) (omega (arith, whole)) ∙ ap (before S) whole)
      ∙ map-hypotheses (λ i. label_or_empty (stmt_at (before S at) i)) (λ i. label_or_empty (stmt_at S i)) (λ i h. ap label_or_empty (stands-before i h))
      (before S at) s (omega (arith, whole)) (hypotheses (before S at) s) (hyps (before S at) s)

  -- substituted hypotheses of an earlier assertion, and the images that results give, are the same
  premises-before : (a : ℕ) (s : Stmt) (σ : Images) → a < at → length (before S a) < at → premises (before S at) a s σ ≡ premises S a s σ
  premises-before a s σ less short =
      ap (λ D. map (λ i. applied σ (expr_at (before S at) i)) (hypotheses D s)) (before-before a (omega (arith, less)))
      ∙ map-hypotheses (λ i. applied σ (expr_at (before S at) i)) (λ i. applied σ (expr_at S i)) (λ i h. ap (applied σ) (expr-before i h))
      (before S a) s short (hypotheses (before S a) s) (hyps (before S a) s)

  images-before : (D : Database) (s : Stmt) → length D < at → (ps : List ℕ) → AreHyps D s ps → (results : List Expr) → images_from (before S at) ps results ≡ images_from S ps results
  images-before D s less [] h results = refl
  images-before D s less (p ∷ ps) h [] = refl
  images-before D s less (p ∷ ps) h (result ∷ results) =
      let l = length-append h.0.front (h.0.stmt ∷ h.0.rest) in
      let e = ap length h.0.whole in
      let here : p < at = omega (arith, l, e, h.0.at, less) in
      ap (λ o. image_from o result ++ images_from (before S at) ps results) (stands-before p here)
      ∙ ap (λ σ. image_from (stmt_at S p) result ++ σ) (images-before D s less ps h.1 results)

  -- ---- the statement with a label

  pub found : HasLabelsOnce S → (i : ℕ) (s : Stmt) (label : Name) → Carries S i s label → i < at → labelled_from 1 (before S at) label ≡ Some (i, s)
  found once zero s label c less = let e = c.stands in cc
  found once (suc n) s label c less =
      first-labelled 1 (before S at) label n s (get-take n (at - 1) S (omega (arith, less)) ∙ c.stands) c.carried none
      ∙ (let e : 1 + n ≡ suc n = omega arith in ap (λ i. Some (i, s)) e)
    where
      none : (m : ℕ) (r : Stmt) → m < n → slice_get (before S at) m ≡ Some r → has_label label (label_of r) ≡ false
      none m r earlier here = by (has_label label (label_of r)) refl
        where
          by : (b : Bool) → has_label label (label_of r) ≡ b → b ≡ false
          by false e = refl
          by true e =
              let there : Carries S (suc m) r label = record { stands = sym (get-take m (at - 1) S (omega (arith, earlier, less))) ∙ here; carried = has-label label (label_of r) e } in
              absurd (let same = once (suc m) (suc n) r s label there c in omega (arith, same, earlier))

  -- what is found stands there, and has the label
  labelled : (k : ℕ) (T : Database) (label : Name) (i : ℕ) (s : Stmt) → labelled_from k T label ≡ Some (i, s) → (n : ℕ) × (slice_get T n ≡ Some s) × (i ≡ k + n) × (label_of s ≡ Some label)
  labelled k [] label i s e = cc
  labelled k (t ∷ T) label i s e = by (λ p. labelled (k + 1) T label i s p) (has_label label (label_of t)) refl e
    where
      by : (labelled_from (k + 1) T label ≡ Some (i, s) → (n : ℕ) × (slice_get T n ≡ Some s) × (i ≡ k + 1 + n) × (label_of s ≡ Some label))
          → (b : Bool) → has_label label (label_of t) ≡ b → cond b (Some (k, t)) (labelled_from (k + 1) T label) ≡ Some (i, s) → (n : ℕ) × (slice_get (t ∷ T) n ≡ Some s) × (i ≡ k + n) × (label_of s ≡ Some label)
      by rest true h p =
          let q = same-found (k, t) (i, s) p in
          let j = q.0 in
          let u = q.1 in
          (zero, ap Some u, omega (arith, j), sym (ap label_of u) ∙ has-label label (label_of t) h)
      by rest false h p = let r = rest p in (suc r.0, r.1, (let e' = r.2 in omega (arith, e')), r.3)

  -- a statement with a label that is no assertion is a hypothesis
  hypothesis-kind : (s : Stmt) (label : Name) → label_of s ≡ Some label → is_assertion s ≡ false → is_hypothesis_kind s ≡ true
  hypothesis-kind (Float l c v) label p q = refl
  hypothesis-kind (Ess l e) label p q = refl
  hypothesis-kind s label p q = cc

  -- a label without meaning is at fault, and counts 1
  pub nothing-found : (label : Name) → ((i : ℕ) (s : Stmt) → Carries S i s label → (IsHypothesis S at i s → ⊥) × (IsCitable S at i s → ⊥)) → (st : State) → step (before S at) (Cite label) st ≡ fault 1
  nothing-found label none st = by (labelled_from 1 (before S at) label) refl
    where
      by : (o : Option (ℕ × Stmt)) → labelled_from 1 (before S at) label ≡ o → cite (before S at) o st ≡ fault 1
      by None e = refl
      by (Some (i, s)) e = cases (is_assertion s) (is_active (before S at) i (length (before S at) + 1)) refl refl
        where
          l : (n : ℕ) × (slice_get (before S at) n ≡ Some s) × (i ≡ 1 + n) × (label_of s ≡ Some label)
          l = labelled 1 (before S at) label i s e

          less : i < at
          less =
              let w = slice_get_within (before S at) l.0 s l.1 in
              let t = length-take (at - 1) S in
              let p = l.2 in
              omega (arith, w, t, p)

          next : i ≡ suc l.0
          next = let p = l.2 in omega (arith, p)

          stands : stmt_at S i ≡ Some s
          stands = ap (stmt_at S) next ∙ (sym (stands-before (suc l.0) (let p = l.2 in omega (arith, p, less))) ∙ l.1)

          no : (IsHypothesis S at i s → ⊥) × (IsCitable S at i s → ⊥)
          no = none i s (record { stands = stands; carried = l.3 })

          cases : (b d : Bool) → is_assertion s ≡ b → is_active (before S at) i (length (before S at) + 1) ≡ d
              → cond b (cite_assertion (before S at) i s st) (cond d (pushed 1 st st.stack (expr_of s)) (fault 1)) ≡ fault 1
          cases true d p q = absurd (no.1 (record { earlier = less; assertion = p }))
          cases false true p q = absurd (no.0 (record { stands = stands; kind = hypothesis-kind s label l.3 p; active = sym (active-before i s stands less) ∙ q }))
          cases false false p q = refl

  active-less : (i : ℕ) → is_active S i at ≡ true → i < at
  active-less i h =
      let first = and_parts (nat_le 1 i && nat_lt i at) (stays_open 0 (take (at - 1 - i) (drop i S))) h in
      let b = and_parts (nat_le 1 i) (nat_lt i at) first.0 in
      grind (arith, nat_tests, b.1)

  -- an active hypothesis counts 1 and its result
  pub hypothesis-found : HasLabelsOnce S → (i : ℕ) (s : Stmt) (label : Name) → Carries S i s label → IsHypothesis S at i s → (st : State) → step (before S at) (Cite label) st ≡ pushed 1 st st.stack (expr_of s)
  hypothesis-found once i s label carries h st =
      let less = active-less i h.active in
      rw (found once i s label carries less, none (is_assertion s) refl, active-before i s h.stands less ∙ h.active) refl
    where
      none : (b : Bool) → is_assertion s ≡ b → is_assertion s ≡ false
      none false e = e
      none true e = absurd (not_both s h.kind e)

  -- an assertion takes as many results as it has mandatory hypotheses
  pub assertion-found : HasLabelsOnce S → (a : ℕ) (s : Stmt) (label : Name) → Carries S a s label → a < at → is_assertion s ≡ true
      → (n : ℕ) → n ≡ length (hypotheses (before S a) s) → (st : State) → step (before S at) (Cite label) st ≡ take_results (before S at) a s st (below n st.stack) (top n st.stack)
  assertion-found once a s label carries less assertion n count st =
      rw (found once a s label carries less, assertion) refl
      ∙ (ap (λ D. take_results (before S at) a s st (below (length (hypotheses D s)) st.stack) (top (length (hypotheses D s)) st.stack)) (before-before a (omega (arith, less)))
      ∙ ap (λ m. take_results (before S at) a s st (below m st.stack) (top m st.stack)) (sym count))

-- ---- the images that results give

-- the images are those of variables
images-variables : (S : Database) (V : Name → Bool) (ps : List ℕ) (results : List Expr) → ((k p : ℕ) (l c v : Name) → slice_get ps k ≡ Some p → stmt_at S p ≡ Some (Float l c v) → V v ≡ true)
    → list_all (λ p. V p.0) (images_from S ps results) ≡ true
images-variables S V [] results typed = refl
images-variables S V (q ∷ ps) [] typed = refl
images-variables S V (q ∷ ps) (r ∷ results) typed = by (images-variables S V ps results (λ k p l c v h e. typed (suc k) p l c v h e)) (stmt_at S q) refl
  where
    by : list_all (λ p. V p.0) (images_from S ps results) ≡ true → (o : Option Stmt) → stmt_at S q ≡ o → list_all (λ p. V p.0) (image_from o r ++ images_from S ps results) ≡ true
    by rest (Some (Float l c v)) e = and_from _ _ (typed zero q l c v refl e) rest
    by rest (Some s) e = rest
    by rest None e = rest

-- a `$f` behind the first position
later : (S : Database) (q : ℕ) (ps : List ℕ) (x : Name) (f : HasFloat S (q ∷ ps) x) → ((l c : Name) → stmt_at S q ≡ Some (Float l c x) → ⊥) → HasFloat S ps x
later S q ps x f other = by f.place f.listed
  where
    by : (k : ℕ) → slice_get (q ∷ ps) k ≡ Some f.position → HasFloat S ps x
    by zero e = absurd (other f.label f.constant (ap (stmt_at S) (some-same refl e) ∙ f.stands))
    by (suc k) e = record { place = k; position = f.position; label = f.label; constant = f.constant; listed = e; stands = f.stands }

-- images that agree with the results for the `$f`, and give nothing to other names, are those that
-- the results give
pub images-same : (S : Database) (N : Images) (y : Name) (ps : List ℕ) (results : List Expr) → length results ≡ length ps
    → ((k p : ℕ) (l c : Name) → slice_get ps k ≡ Some p → stmt_at S p ≡ Some (Float l c y) → (r : Expr) → slice_get results k ≡ Some r → image N y ≡ drop 1 r)
    → ((HasFloat S ps y → ⊥) → image N y ≡ y ∷ []) → image (images_from S ps results) y ≡ image N y
images-same S N y [] results count agree other = sym (other (λ f. (let e = f.listed in cc)))
images-same S N y (q ∷ ps) [] count agree other = absurd (omega (arith, count))
images-same S N y (q ∷ ps) (r ∷ results) count agree other =
    by
    (λ none. images-same S N y ps results (omega (arith, count)) (λ k p l c h e u at_k. agree (suc k) p l c h e u at_k) (λ no. other (λ f. no (later S q ps y f none))))
    (stmt_at S q) refl
  where
    by : (((l c : Name) → stmt_at S q ≡ Some (Float l c y) → ⊥) → image (images_from S ps results) y ≡ image N y) → (o : Option Stmt) → stmt_at S q ≡ o → image (image_from o r ++ images_from S ps results) y ≡ image N y
    by rest (Some (Float l c v)) e = one (name_eq y v) refl
      where
        one : (b : Bool) → name_eq y v ≡ b → image ((v, drop 1 r) ∷ images_from S ps results) y ≡ image N y
        one true h = rw h (sym (agree zero q l c refl (e ∙ ap (λ w. Some (Float l c w)) (sym (same_name y v h))) r refl))
        one false h = rw h (rest (λ m d here. (let same : v ≡ y = cc (e, here) in true≢false (sym (name_same y) ∙ (ap (name_eq y) (sym same) ∙ h)))))
    by rest (Some s) e = rest (λ m d here. cc (e, here))
    by rest None e = rest (λ m d here. cc (e, here))

-- ---- equal images

-- the outcome of a citation whose results fit, by whether it is disjoint
abbrev concluded : ℕ → State → List Expr → Bool → Expr → Outcome
concluded cost st under ok e = cond ok (pushed cost st under e) (fault cost)

module _ (σ τ : Images) (same : (x : Name) → image σ x ≡ image τ x) where
  same_images : image σ ≡ image τ
  same_images = fun_ext same

  pairs-same : (S : Database) (others : List Name) (x : Name) → pairs_work S σ others x ≡ pairs_work S τ others x
  pairs-same S [] x = refl
  pairs-same S (y ∷ ys) x = ap (λ f. sum_by (λ u. row S u + sum_by (λ z. length (variables_in S (f z))) (y ∷ ys)) (variables_in S (f x))) same_images

  all-pairs-same : (A : Database) (s : Stmt) (S : Database) (xs earlier : List Name) → all_pairs_work A s S σ earlier xs ≡ all_pairs_work A s S τ earlier xs
  all-pairs-same A s S [] earlier = refl
  all-pairs-same A s S (x ∷ xs) earlier =
      let here = pairs-same S (filter (is_mandatory_pair A s x) earlier) x in
      let rest = all-pairs-same A s S xs (earlier ++ x ∷ []) in
      omega (arith, here, rest)

  pub disjointness-same : (A : Database) (s : Stmt) (S : Database) → disjointness A s S σ ≡ disjointness A s S τ
  disjointness-same A s S =
      let here : image_work A s σ ≡ image_work A s τ = ap (λ f. sum_by (λ x. length (f x)) (filter (has_pair A s (mandatory_variables A s)) (mandatory_variables A s))) same_images in
      let rest = all-pairs-same A s S (mandatory_variables A s) [] in
      omega (arith, here, rest)

  pub conclude-same : (S : Database) (a : ℕ) (s : Stmt) (st : State) (under : List Expr) → conclude S a s σ st under ≡ conclude S a s τ st under
  conclude-same S a s st under =
      ap (λ d. concluded (1 + assertion_size (before S a) s + d) st under (are_groups_disjoint S σ (mandatory_groups (before S a) s)) (applied σ (expr_of s))) (disjointness-same (before S a) s S)
      ∙ (ap (λ g. concluded (1 + assertion_size (before S a) s + disjointness (before S a) s S τ) st under g (applied σ (expr_of s))) (groups-members S σ τ (mandatory_groups (before S a) s) (λ k g x p q. same x))
      ∙ ap (λ e. concluded (1 + assertion_size (before S a) s + disjointness (before S a) s S τ) st under (are_groups_disjoint S τ (mandatory_groups (before S a) s)) e) (apply-members σ τ (expr_of s) (λ x p. same x)))

  pub premises-same : (S : Database) (a : ℕ) (s : Stmt) → premises S a s σ ≡ premises S a s τ
  premises-same S a s = ap (λ f. map f (hypotheses (before S a) s)) (fun_ext (λ i. apply-members σ τ (expr_at S i) (λ x p. same x)))

-- ---- results that are taken

module _ (S : Database) (at a : ℕ) (s : Stmt) (less : a < at) (st : State) (under results : List Expr) where
  short : length (before S a) < at
  short = let l = length-take (a - 1) S in omega (arith, l, less)

  same_before : before (before S at) a ≡ before S a
  same_before = before-before S at a (omega (arith, less))

  abbrev given : Images
  given = images_from S (hypotheses (before S a) s) results

  same_given : images_from (before S at) (hypotheses (before (before S at) a) s) results ≡ given
  same_given =
      ap (λ D. images_from (before S at) (hypotheses D s) results) same_before
      ∙ images-before S at (before S a) s short (hypotheses (before S a) s) (hyps (before S a) s) results

  -- the test of the results, with the statements before the theorem
  abbrev taken : Images → Bool → Outcome
  taken σ b = cond b (conclude (before S at) a s σ st under) (fault (1 + assertion_size (before (before S at) a) s))

  is-taken : take_results (before S at) a s st under results ≡ taken given (pointwise (pointwise name_eq) results (premises S a s given))
  is-taken =
      ap (λ σ. taken σ (fit (before S at) a s σ results)) same_given
      ∙ ap (λ ps. taken given (pointwise (pointwise name_eq) results ps)) (premises-before S at a s given less short)

  -- results that are no substituted hypotheses do not fit
  pub not-fit : IsWellTyped S a s → ((σ : Images) → AreImagesOfVariables S a σ → premises S a s σ ≡ results → ⊥)
      → take_results (before S at) a s st under results ≡ fault (1 + assertion_size (before S a) s)
  not-fit bound none = is-taken ∙ by (pointwise (pointwise name_eq) results (premises S a s given)) refl
    where
      by : (b : Bool) → pointwise (pointwise name_eq) results (premises S a s given) ≡ b → taken given b ≡ fault (1 + assertion_size (before S a) s)
      by true h =
          absurd (none given
          (images-variables S (is_variable (before S a)) (hypotheses (before S a) s) results (λ k p l c v at_k stands. bound.variable k p l c v at_k stands))
          (sym ((pointwise_decides (pointwise_decides bytes_eq-Decides) results (premises S a s given)).0 h)))
      by false h = ap (λ D. fault (1 + assertion_size D s)) same_before

  -- results that are the hypotheses under the images that they give fit
  pub does-fit : (N : Images) → ((x : Name) → image given x ≡ image N x) → premises S a s N ≡ results
      → take_results (before S at) a s st under results ≡ conclude (before S at) a s N st under
  does-fit N same whole =
      is-taken
      ∙ (ap (taken given) ((pointwise_decides (pointwise_decides bytes_eq-Decides) results (premises S a s given)).1 (sym (premises-same given N same S a s ∙ whole)))
      ∙ conclude-same given N same (before S at) a s st under)
