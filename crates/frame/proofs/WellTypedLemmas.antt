-- Each variable of a legal assertion is that of exactly one mandatory `$f`. So the results that the
-- assertion takes determine the result that it gives.
use Rattle.frame.proofs.Words.{list_all, All, variables, take, take-take, take-append_seam, arith, All-filter, All-map, All-get_or, All-from_get_or, slice_get_within, get_or_from_slice_get, sym, ◌∙◌, ap, append-nil, subst, get_or, ◌≡◌, ℕ, suc, ◌-◌, Bool, true, false, cond, List, [], ◌∷◌, ◌++◌, length, map, filter, slice_get, Some, refl, bytes_eq-Decides, and_parts, and_from, or_left, or_right, Name, name_eq, has_name, Stmt, Expr, Database, stays_open, stmt_at, before, expr_of, is_variable, HasAssertion, is_used, is_mandatory, is_hypothesis, hypotheses, active_disjoint_lists, has_two_or_more, mandatory_groups, AreImagesOfVariables, premises, expr_at, HasFloat, IsWellTyped, HasSingleResults, take-get, AreAllLegal}
use Rattle.frame.proofs.LegalAfter.{stands-at}
use Rattle.mm_read.specs.declared.stmt.Stmt.TheVariants.{Float, Ess}
use Rattle.frame.specs.Substitution.{Images, image, apply as applied}
use Rattle.frame.proofs.ActivePositions.{active-members, ascends-active}
use Rattle.frame.proofs.ActiveFloats.{one-place}
use Rattle.frame.proofs.AscendingLists.{in-place, place-in, once-each}
use Rattle.frame.proofs.VariablePlaceLemmas.{first-fixed, own-fixed, float-kinds, mandatory-float, still-active}
use Rattle.frame.proofs.GroupsLemmas.{has-filter}
use Rattle.frame.proofs.FoundByNumber.{map-at, kept-front, some-same}
use Rattle.frame.proofs.PlacedHypotheses.{used-in}

-- ---- one assertion

module _ (S : Database) (a : ℕ) (s : Stmt) (legal : AreAllLegal S) (is : HasAssertion S a s) where
  abbrev T : Database
  T = before S a

  abbrev hs : List ℕ
  hs = hypotheses (before S a) s

  front-legal : AreAllLegal T
  front-legal = kept-front S (a - 1) legal

  -- a statement before the assertion is at the same position in the whole database
  there : (A : Database) (t : Stmt) (B : Database) → T ≡ A ++ t ∷ B → stmt_at S (suc (length A)) ≡ Some t
  there A t B whole = (take-get (a - 1) (length A) S t (ap (λ w. slice_get w (length A)) whole ∙ stands-at A t B)).1

  -- the statement r at the position p is active, and before the assertion
  pub record IsBefore (p : ℕ) (r : Stmt) : Type 0 where
    pub front : Database
    pub rest : Database
    pub whole : T ≡ front ++ r ∷ rest
    pub at : p ≡ suc (length front)
    pub stays : stays_open 0 rest ≡ true

  -- the earlier statements
  front-before : (p : ℕ) (A : Database) (t : Stmt) (B : Database) → T ≡ A ++ t ∷ B → p ≡ suc (length A) → before S p ≡ A
  front-before p A t B whole at =
      let less = (take-get (a - 1) (length A) S t (ap (λ w. slice_get w (length A)) whole ∙ stands-at A t B)).0 in
      ap (λ n. take n S) (let one : p - 1 ≡ length A = omega (arith, at) in one)
      ∙ (sym (take-take (length A) (a - 1) S (omega (arith, less))) ∙ (ap (take (length A)) whole ∙ take-append_seam A (t ∷ B)))

  hyp-at : (k p : ℕ) (r : Stmt) → slice_get hs k ≡ Some p → stmt_at S p ≡ Some r → IsBefore p r
  hyp-at k p r h g =
      let w = active-members T (is_hypothesis T s) p [] T 1 refl refl (place-in hs k p h) in
      let shape : w.stmt ≡ r = some-same (ap (stmt_at S) w.at ∙ there w.front w.stmt w.rest w.whole) g in
      record { front = w.front; rest = w.rest; whole = w.whole ∙ ap (λ t. w.front ++ t ∷ w.rest) shape; at = w.at; stays = w.stays }

  mandatory : (x : Name) → is_mandatory T s x ≡ true → HasFloat S hs x
  mandatory x m =
      let f = mandatory-float T s x front-legal (legal a s is.0) is.1 m in
      let k = in-place (suc (length f.front)) hs f.listed in
      record { place = k.0; position = suc (length f.front); label = f.label; constant = f.constant; listed = k.1; stands = there f.front (Float f.label f.constant x) f.rest f.whole }

  used-float : (x : Name) → is_used T s x ≡ true → is_variable T x ≡ true → HasFloat S hs x
  used-float x used var = mandatory x (and_from (is_variable T x) (is_used T s x) var used)

  group-float : (k : ℕ) (g : List Name) (x : Name) → slice_get (mandatory_groups T s) k ≡ Some g → has_name x g ≡ true → HasFloat S hs x
  group-float k g x h has =
      let m = is_mandatory T s in
      let P = λ (names : List Name). (y : Name) → has_name y names ≡ true → m y ≡ true in
      let all : All P (mandatory_groups T s)
      = All-filter has_two_or_more P (map (filter m) (active_disjoint_lists T)) (All-map P (filter m) (active_disjoint_lists T) (All-from_get_or (λ names. P (filter m names)) (active_disjoint_lists T) []
      (λ i lt y k. (and_parts (has_name y (get_or (active_disjoint_lists T) i [])) (m y) (sym (has-filter m y (get_or (active_disjoint_lists T) i [])) ∙ k)).1))) in
      mandatory x (subst P (get_or_from_slice_get (mandatory_groups T s) k g [] h) (All-get_or P (mandatory_groups T s) k [] (slice_get_within (mandatory_groups T s) k g h) all) x has)

  -- each variable of the assertion is that of exactly one mandatory `$f`, and its expressions begin
  -- with a constant
  pub bound : IsWellTyped S a s
  bound = record {
    own = λ x has var. used-float x (or_left (has_name x (expr_of s)) _ has) var;
    essential = λ k p label e x h g has var. let w = hyp-at k p (Ess label e) h g in used-float x (used-in T s x w.front (Ess label e) w.rest w.whole w.stays refl has) var;
    grouped = group-float;
    still = λ k p l e x h g var. let w = hyp-at k p (Ess l e) h g in still-active (λ t. has_name x (variables t)) T w.front (Ess l e) w.rest w.whole w.stays (ap (λ D. is_variable D x) (sym (front-before p w.front (Ess l e) w.rest w.whole w.at)) ∙ var);
    variable = λ k p l c x h g. let w = hyp-at k p (Float l c x) h g in (float-kinds T w.front l c x w.rest front-legal w.whole w.stays).1;
    once = λ k j p q l c m d x h g u v.
        let w = hyp-at k p (Float l c x) h u in
        let r = hyp-at j q (Float m d x) g v in
        let one = one-place T w.front l c x w.rest r.front m d r.rest front-legal w.whole w.stays r.whole r.stays in
        let same : q ≡ p = r.at ∙ (ap suc (sym one) ∙ sym w.at) in
        once-each hs k j p (ascends-active (is_hypothesis T s) 1 T).1 h (g ∙ ap Some same);
    first = λ k p r h g. let w = hyp-at k p r h g in first-fixed T w.front r w.rest front-legal w.whole;
    own_first = own-fixed T s front-legal (legal a s is.0);
  }

-- ---- the results determine the images

-- the image of a symbol that is no variable is the symbol itself
image-own : (S : Database) (a : ℕ) (σ : Images) (c : Name) → AreImagesOfVariables S a σ → is_variable (before S a) c ≡ false → image σ c ≡ c ∷ []
image-own S a [] c p h = refl
image-own S a (q ∷ σ) c p h = by (image-own S a σ c parts.1 h) (name_eq c q.0) refl
  where
    parts : (is_variable (before S a) q.0 ≡ true) × (list_all (λ r. is_variable (before S a) r.0) σ ≡ true)
    parts = and_parts (is_variable (before S a) q.0) (list_all (λ r. is_variable (before S a) r.0) σ) p

    by : (image σ c ≡ c ∷ []) → (b : Bool) → name_eq c q.0 ≡ b → cond b q.1 (image σ c) ≡ c ∷ []
    by own true e =
        let same : c ≡ q.0 = (bytes_eq-Decides c q.0).0 e in
        let f : true ≡ false = sym parts.0 ∙ (ap (is_variable (before S a)) (sym same) ∙ h) in cc
    by own false e = own

module _ (S : Database) (a : ℕ) (s : Stmt) (b : IsWellTyped S a s) (σ τ : Images) (p : AreImagesOfVariables S a σ) (q : AreImagesOfVariables S a τ) (same : premises S a s σ ≡ premises S a s τ) where
  -- the result for the mandatory `$f` of x is its typecode followed by the image of x
  premise-at : (ρ : Images) → AreImagesOfVariables S a ρ → (x : Name) (f : HasFloat S (hypotheses (before S a) s) x) → slice_get (premises S a s ρ) f.place ≡ Some (f.constant ∷ image ρ x)
  premise-at ρ of x f =
      let fixed = image-own S a ρ f.constant of (b.first f.place f.position (Float f.label f.constant x) f.listed f.stands) in
      rw (map-at (λ i. applied ρ (expr_at S i)) (hypotheses (before S a) s) f.place f.position f.listed, f.stands, fixed, append-nil)

  one-image : (x : Name) → HasFloat S (hypotheses (before S a) s) x → image σ x ≡ image τ x
  one-image x f =
      let e : Some (f.constant ∷ image σ x) ≡ Some (f.constant ∷ image τ x) = sym (premise-at σ p x f) ∙ (ap (λ rs. slice_get rs f.place) same ∙ premise-at τ q x f) in cc

  same-applied : (e : Expr) → ((x : Name) → has_name x e ≡ true → is_variable (before S a) x ≡ true → HasFloat S (hypotheses (before S a) s) x) → applied σ e ≡ applied τ e
  same-applied [] h = refl
  same-applied (x ∷ e) h =
      let here : image σ x ≡ image τ x = by (is_variable (before S a) x) refl in
      ap (λ r. r ++ applied σ e) here ∙ ap (λ r. image τ x ++ r) (same-applied e (λ y has. h y (or_right (name_eq y x) (has_name y e) has)))
    where
      by : (t : Bool) → is_variable (before S a) x ≡ t → image σ x ≡ image τ x
      by true v = one-image x (h x (or_left (name_eq x x) (has_name x e) ((bytes_eq-Decides x x).1 refl)) v)
      by false v = image-own S a σ x p v ∙ sym (image-own S a τ x q v)

pub bound-single : (S : Database) (at : ℕ) → ((a : ℕ) (s : Stmt) → HasAssertion S a s → IsWellTyped S a s) → HasSingleResults S at
bound-single S at h a s σ τ p q e =
    let b = h a s (p.stands, p.assertion) in
    same-applied S a s b σ τ p.of_variables q.of_variables e (expr_of s) b.own
