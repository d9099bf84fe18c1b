-- The parts that are kept with an assertion describe it.
use Rattle.frame.proofs.Words.{In, is_float_with, is_typed_by, list_any, list_any-map, sym, ◌∙◌, ap, subst, arith, append_assoc, length-append, ◌≡◌, ℕ, suc, ◌+◌, ◌-◌, ◌<◌, ◌≤◌, Bool, true, false, cond, List, [], ◌∷◌, ◌++◌, length, map, filter, slice_get, Option, Some, None, refl, Name, Stmt, Database, stmt_at, before, stays_open, active_from, expr_of, has_name, disjoint_names, is_assertion, IsLegal, name_at, decode, AreDistinct, is_mandatory, is_hypothesis, hypotheses, has_two_or_more, AreBelow, AllBelow, typecode_of, IsTypecode, IsStatementOf, IsNumberedHypothesis, AreNumberedHypotheses, AreListsOf, IsViewOf, AssertionView, Kind, Disj, Entry, Assertion, actives, actives_from, is_disj, stmt_by, stmt_of, AreAllLegal, AreNumbered, HasTwoSymbolsIfFloat, is_typed, symbols_at, option_symbols, has_two_or_more_items, typecode_at, hypothesis_by, entry_hypothesis, hypothesis_at, take-get, Hypothesis, AreDescribed, AreVariablesOf, AreGroupsOf, AreMandatoryPairs, float_variables, has_number, recorded_in, groups_in, disjoint_symbols, false≢true, inl, inr, or_left, or_right, ◌||◌, ◌&&◌, ◌==◌, and-false, and_parts, is_float_kind, second_is}
use Rattle.frame.proofs.LegalAfter.{stands-at}
use Rattle.frame.proofs.VariablePlaceLemmas.{any-in, in-any, mandatory-float}
use Rattle.frame.proofs.ActivePositions.{active-members}
use Rattle.frame.proofs.NamedCodes.{coded, has-code, code-low, floats-is, is-floats}
use Rattle.mm_read.specs.declared.stmt.Stmt.TheVariants.{Float}
use Rattle.entries.specs.declared.kind.Kind.TheVariants as kinds
use Rattle.frame.proofs.PairListLemmas.{below-each, floats-typed}
use Rattle.std.specs.Cmp.{both_ways}
use Rattle.frame.proofs.FoundByNumber.{map-back, map-at, kept-front, code-floats, numbered-at, required-kind}
use Rattle.frame.proofs.PlacedHypotheses.{IsHyp, AreHyps, hyps}

-- ---- numbers

number-in : (c : ℕ) (list : List ℕ) → has_number list c ≡ true → In c list
number-in c [] h = absurd (false≢true h)
number-in c (x ∷ xs) h = by (x == c) refl h (number-in c xs)
  where
    by : (t : Bool) → (x == c) ≡ t → (t || has_number xs c) ≡ true → (has_number xs c ≡ true → In c xs) → In c (x ∷ xs)
    by true e k more = let same : c ≡ x = grind (arith, e) in inl same
    by false e k more = inr (more k)

in-number : (c : ℕ) (list : List ℕ) → In c list → has_number list c ≡ true
in-number c [] i = absurd i
in-number c (x ∷ xs) (inl e) = or_left (x == c) (has_number xs c) (let same : x ≡ c = sym e in grind (arith, same))
in-number c (x ∷ xs) (inr i) = or_right (x == c) (has_number xs c) (in-number c xs i)

-- the number of the `$f` that is an entry is below n
second-low : (n c : ℕ) (kind : Kind) (codes : List ℕ) → AreBelow n codes → (is_float_kind kind && second_is c codes) ≡ true → c < n
second-low n c kind [] b h = absurd (false≢true (sym (and-false (is_float_kind kind)) ∙ h))
second-low n c kind (x ∷ []) b h = absurd (false≢true (sym (and-false (is_float_kind kind)) ∙ h))
second-low n c kind (x ∷ y ∷ codes) b h = let e = (and_parts (is_float_kind kind) (c == y) h).1 in let low = b.1.0 in let same : c ≡ y = grind (arith, e) in omega (arith, low, same)

second-name : (names : List Name) (n : ℕ) (kind : Kind) (label : Name) (codes : List ℕ) (m l x : Name) → AreBelow n codes → HasTwoSymbolsIfFloat kind codes → stmt_by kind label (decode names codes) ≡ Float m l x
    → (c : ℕ) × (c < n) × (name_at names c ≡ x)
second-name names n kinds.Float label (y ∷ z ∷ codes) m l x b two h = let e : name_at names z ≡ x = cc in (z, b.1.0, e)
second-name names n kinds.Float label codes m l x b two h = absurd (omega (arith, two))
second-name names n kind label codes m l x b two h = cc

-- ---- the assertion

module _ (es : List Entry) (names labels : List Name) (m a : ℕ) (e : Entry) (d : Assertion)
    (distinct : AreDistinct names) (numbered : AreNumbered (length names) m es) (legal : AreAllLegal (map (stmt_of names labels) es))
    (positive : 1 ≤ a) (here : slice_get es (a - 1) ≡ Some e) (asserts : is_assertion (stmt_of names labels e) ≡ true)
    (is : AreDescribed es (hypotheses (before (map (stmt_of names labels) es) a) (stmt_of names labels e)) d) where
  abbrev all : Database
  all = map (stmt_of names labels) es

  abbrev front_of : Database
  front_of = before all a

  abbrev own : Stmt
  own = stmt_of names labels e

  abbrev places : List Hypothesis
  places = d.numbered_hypotheses

  front-legal : AreAllLegal front_of
  front-legal = kept-front all (a - 1) legal

  own-legal : IsLegal front_of own
  own-legal =
      let back : suc (a - 1) ≡ a = omega (arith, positive) in
      legal a own (ap (stmt_at all) (sym back) ∙ map-at (stmt_of names labels) es (a - 1) e here)

  -- the entry of a statement before the assertion
  pub record IsEntryAt (p : ℕ) (A : Database) (t : Stmt) : Type 0 where
    pub entry : Entry
    pub stands : slice_get front_of (length A) ≡ Some t
    pub stands_at : stmt_at all (suc (length A)) ≡ Some t
    pub found : slice_get es (p - 1) ≡ Some entry
    pub same : t ≡ stmt_of names labels entry
    pub codes : AreBelow (length names) entry.symbols
    pub two : HasTwoSymbolsIfFloat entry.kind entry.symbols

  entry-at : (p : ℕ) (A : Database) (t : Stmt) (T : Database) → front_of ≡ A ++ t ∷ T → p ≡ suc (length A) → IsEntryAt p A t
  entry-at p A t T whole at =
      let there : slice_get front_of (length A) ≡ Some t = ap (λ w. slice_get w (length A)) whole ∙ stands-at A t T in
      let stands = (take-get (a - 1) (length A) all t there).1 in
      let b = map-back (stmt_of names labels) es (length A) t stands in
      let one : p - 1 ≡ length A = omega (arith, at) in
      let n = numbered-at (length names) m es (length A) b.0 numbered b.1 in
      record { entry = b.0; stands = there; stands_at = stands; found = ap (slice_get es) one ∙ b.1; same = b.2; codes = n.0; two = n.1 }

  hyp-at : (p : ℕ) (h : IsHyp front_of own p) → IsEntryAt p h.front h.stmt
  hyp-at p h = entry-at p h.front h.stmt h.rest h.whole h.at

  hyps-are : d.hypotheses ≡ hypotheses front_of own
  hyps-are = is.same

  own-hyps : AreHyps front_of own d.hypotheses
  own-hyps = subst (AreHyps front_of own) (sym hyps-are) (hyps front_of own)

  -- ---- the required hypotheses

  one-required : (p : ℕ) → IsHyp front_of own p → IsNumberedHypothesis all names p (typecode_at es p) (hypothesis_at es p)
  one-required p h =
      let x = hyp-at p h in
      let k = required-kind names x.entry.kind (name_at labels x.entry.label_count) x.entry.symbols p front_of own x.codes x.two (sym (ap (is_hypothesis front_of own) x.same) ∙ h.passes) in
      record {
        stmt = h.stmt;
        stands = ap (stmt_at all) h.at ∙ x.stands_at;
        first = subst (λ o. IsTypecode names (typecode_of (option_symbols o)) (expr_of h.stmt)) (sym x.found) (subst (λ t. IsTypecode names (typecode_of x.entry.symbols) (expr_of t)) (sym x.same) k.0);
        is = subst (λ o. IsStatementOf names p h.stmt (entry_hypothesis p o)) (sym x.found) (subst (λ t. IsStatementOf names p t (hypothesis_by p x.entry.kind x.entry.symbols)) (sym x.same) k.1);
      }

  all-required : (ps : List ℕ) → AreHyps front_of own ps → AreNumberedHypotheses all names ps (map (typecode_at es) ps) (map (hypothesis_at es) ps)
  all-required [] h = tt
  all-required (p ∷ ps) h = (one-required p h.0, all-required ps h.1)

  kept-required : AreNumberedHypotheses all names (hypotheses front_of own) d.typecodes d.numbered_hypotheses
  kept-required =
      subst (λ ps. AreNumberedHypotheses all names ps d.typecodes d.numbered_hypotheses) hyps-are
      (subst (λ hs. AreNumberedHypotheses all names d.hypotheses hs d.numbered_hypotheses) (sym is.typecodes_made)
      (subst (AreNumberedHypotheses all names d.hypotheses (map (typecode_at es) d.hypotheses)) (sym is.numbered_made) (all-required d.hypotheses own-hyps)))

  -- ---- the variables

  -- a number is that of a mandatory `$f` exactly if its name is a mandatory variable
  pub mandatory-is : (c : ℕ) → c < length names → is_typed places c ≡ is_mandatory front_of own (name_at names c)
  mandatory-is c low =
      ap (list_any (is_typed_by c)) is.numbered_made ∙ (sym (list_any-map (hypothesis_at es) (is_typed_by c) d.hypotheses)
      ∙ both_ways (list_any (λ p. is_typed_by c (hypothesis_at es p)) d.hypotheses) (is_mandatory front_of own (name_at names c)) there back)
    where
      there : list_any (λ p. is_typed_by c (hypothesis_at es p)) d.hypotheses ≡ true → is_mandatory front_of own (name_at names c) ≡ true
      there h =
          let r = any-in (λ p. is_typed_by c (hypothesis_at es p)) d.hypotheses h in
          let a = active-members front_of (is_hypothesis front_of own) r.0 [] front_of 1 refl refl (subst (In r.0) hyps-are r.1) in
          let x = entry-at r.0 a.front a.stmt a.rest a.whole a.at in
          let passes : is_float_with c x.entry ≡ true = sym (code-floats c r.0 x.entry.kind x.entry.symbols x.two) ∙ (ap (λ o. is_typed_by c (entry_hypothesis r.0 o)) (sym x.found) ∙ r.2) in
          let y = floats-is names c x.entry (name_at labels x.entry.label_count) passes in
          ap (is_hypothesis front_of own) (sym (x.same ∙ y.1)) ∙ a.passes

      back : is_mandatory front_of own (name_at names c) ≡ true → list_any (λ p. is_typed_by c (hypothesis_at es p)) d.hypotheses ≡ true
      back m =
          let f = mandatory-float front_of own (name_at names c) front-legal own-legal asserts m in
          let x = entry-at (suc (length f.front)) f.front (Float f.label f.constant (name_at names c)) f.rest f.whole refl in
          in-any (λ p. is_typed_by c (hypothesis_at es p)) d.hypotheses (suc (length f.front)) (subst (In (suc (length f.front))) (sym hyps-are) f.listed)
          (ap (λ o. is_typed_by c (entry_hypothesis (suc (length f.front)) o)) x.found ∙ (code-floats c (suc (length f.front)) x.entry.kind x.entry.symbols x.two
          ∙ is-floats names c x.entry (name_at labels x.entry.label_count) f.constant f.label distinct x.codes x.two low (sym x.same)))

  abbrev variables : List ℕ
  variables = float_variables places

  mandatory-number : (c : ℕ) → c < length names → has_number variables c ≡ is_mandatory front_of own (name_at names c)
  mandatory-number c low = floats-typed places c ∙ mandatory-is c low

  variables-low : AreBelow (length names) variables
  variables-low = below-each (length names) variables (λ c has. (
      let typed : is_typed (map (hypothesis_at es) d.hypotheses) c ≡ true = ap (λ hs. is_typed hs c) (sym is.numbered_made) ∙ (sym (floats-typed places c) ∙ has) in
      let r = any-in (λ p. is_typed_by c (hypothesis_at es p)) d.hypotheses (list_any-map (hypothesis_at es) (is_typed_by c) d.hypotheses ∙ typed) in
      let a = active-members front_of (is_hypothesis front_of own) r.0 [] front_of 1 refl refl (subst (In r.0) hyps-are r.1) in
      let x = entry-at r.0 a.front a.stmt a.rest a.whole a.at in
      second-low (length names) c x.entry.kind x.entry.symbols x.codes (sym (code-floats c r.0 x.entry.kind x.entry.symbols x.two) ∙ (ap (λ o. is_typed_by c (entry_hypothesis r.0 o)) (sym x.found) ∙ r.2))))

  -- the number of a mandatory variable
  mandatory-code : (x : Name) → is_mandatory front_of own x ≡ true → (c : ℕ) × (c < length names) × (name_at names c ≡ x)
  mandatory-code x m =
      let f = mandatory-float front_of own x front-legal own-legal asserts m in
      let g = entry-at (suc (length f.front)) f.front (Float f.label f.constant x) f.rest f.whole refl in
      second-name names (length names) g.entry.kind (name_at labels g.entry.label_count) g.entry.symbols f.label f.constant x g.codes g.two (sym g.same)

  variables-are : AreVariablesOf all names a own variables
  variables-are = record {
    below = variables-low;
    mandatory = λ x. both_ways (has_name x (decode names variables)) (is_mandatory front_of own x)
        (λ h. let r = coded names variables x h in
        ap (is_mandatory front_of own) (sym r.name) ∙ (sym (mandatory-number r.code (code-low (length names) r.code variables variables-low r.among)) ∙ in-number r.code variables r.among))
        (λ m. let c = mandatory-code x m in
        ap (λ y. has_name y (decode names variables)) (sym c.2) ∙ has-code names variables c.0 (number-in c.0 variables (mandatory-number c.0 c.1 ∙ (ap (is_mandatory front_of own) c.2 ∙ m))));
  }

  -- ---- groups

  listed-stands : (codes : List ℕ) → AreBelow (length names) codes → decode names (recorded_in variables codes) ≡ filter (is_mandatory front_of own) (decode names codes)
  listed-stands [] b = refl
  listed-stands (c ∷ codes) b = rw (mandatory-number c b.0) (by (is_mandatory front_of own (name_at names c)) (listed-stands codes b.1))
    where
      by : (t : Bool) → decode names (recorded_in variables codes) ≡ filter (is_mandatory front_of own) (decode names codes)
          → decode names (cond t (c ∷ recorded_in variables codes) (recorded_in variables codes)) ≡ cond t (name_at names c ∷ filter (is_mandatory front_of own) (decode names codes)) (filter (is_mandatory front_of own) (decode names codes))
      by true more = ap (λ r. name_at names c ∷ r) more
      by false more = more

  with-group : (L : List ℕ) (G : List (List ℕ)) → map (decode names) (cond (has_two_or_more_items L) (L ∷ G) G) ≡ cond (has_two_or_more (decode names L)) (decode names L ∷ map (decode names) G) (map (decode names) G)
  with-group (x ∷ y ∷ xs) G = refl
  with-group xs G = refl

  groups-from : (A T : Database) (n : ℕ) → front_of ≡ A ++ T → n ≡ suc (length A)
      → map (decode names) (groups_in variables (map (λ q. symbols_at es q.0) (actives_from is_disj n T))) ≡ filter has_two_or_more (map (filter (is_mandatory front_of own)) (map (λ p. disjoint_names p.1) (active_from n T)))
  groups-from A [] n whole at_n = refl
  groups-from A (t ∷ T) n whole at_n =
      let l = length-append A (t ∷ []) in
      by (groups-from (A ++ t ∷ []) T (n + 1) (whole ∙ sym (append_assoc A (t ∷ []) T)) (omega (arith, at_n, l))) (stays_open 0 T)
    where
      Rest : Type 0
      Rest = map (decode names) (groups_in variables (map (λ q. symbols_at es q.0) (actives_from is_disj (n + 1) T))) ≡ filter has_two_or_more (map (filter (is_mandatory front_of own)) (map (λ p. disjoint_names p.1) (active_from (n + 1) T)))

      Fits : Stmt → Type 0
      Fits u = map (decode names) (groups_in variables (map (λ q. symbols_at es q.0) (cond (is_disj u) ((n, u) ∷ actives_from is_disj (n + 1) T) (actives_from is_disj (n + 1) T))))
          ≡ cond (has_two_or_more (filter (is_mandatory front_of own) (disjoint_names u))) (filter (is_mandatory front_of own) (disjoint_names u) ∷ filter has_two_or_more (map (filter (is_mandatory front_of own)) (map (λ p. disjoint_names p.1) (active_from (n + 1) T)))) (filter has_two_or_more (map (filter (is_mandatory front_of own)) (map (λ p. disjoint_names p.1) (active_from (n + 1) T))))

      x : IsEntryAt n A t
      x = entry-at n A t T whole at_n

      one_group : Rest → (k : Kind) → Fits (stmt_by k (name_at labels x.entry.label_count) (decode names x.entry.symbols))
      one_group more Disj =
          rw (x.found, ← listed-stands x.entry.symbols x.codes, ← more)
          (with-group (recorded_in variables x.entry.symbols) (groups_in variables (map (λ q. symbols_at es q.0) (actives_from is_disj (n + 1) T))))
      one_group more k = more

      by : Rest → (b : Bool)
          → map (decode names) (groups_in variables (map (λ q. symbols_at es q.0) (filter (λ p. is_disj p.1) (cond b ((n, t) ∷ active_from (n + 1) T) (active_from (n + 1) T)))))
          ≡ filter has_two_or_more (map (filter (is_mandatory front_of own)) (map (λ p. disjoint_names p.1) (cond b ((n, t) ∷ active_from (n + 1) T) (active_from (n + 1) T))))
      by more false = more
      by more true = subst Fits (sym x.same) (one_group more x.entry.kind)

  symbols-low : (p : ℕ) → AreBelow (length names) (symbols_at es p)
  symbols-low p = by (slice_get es (p - 1)) refl
    where
      by : (o : Option Entry) → slice_get es (p - 1) ≡ o → AreBelow (length names) (option_symbols o)
      by None h = tt
      by (Some x) h = (numbered-at (length names) m es (p - 1) x numbered h).0

  listed-low : (codes : List ℕ) → AreBelow (length names) codes → AreBelow (length names) (recorded_in variables codes)
  listed-low [] b = tt
  listed-low (c ∷ codes) b = by (has_number variables c) (listed-low codes b.1)
    where
      by : (t : Bool) → AreBelow (length names) (recorded_in variables codes) → AreBelow (length names) (cond t (c ∷ recorded_in variables codes) (recorded_in variables codes))
      by true more = (b.0, more)
      by false more = more

  groups-low : (qs : List (ℕ × Stmt)) → AllBelow (length names) (groups_in variables (map (λ q. symbols_at es q.0) qs))
  groups-low [] = tt
  groups-low (q ∷ qs) = by (has_two_or_more_items (recorded_in variables (symbols_at es q.0))) (groups-low qs)
    where
      by : (t : Bool) → AllBelow (length names) (groups_in variables (map (λ r. symbols_at es r.0) qs))
          → AllBelow (length names) (cond t (recorded_in variables (symbols_at es q.0) ∷ groups_in variables (map (λ r. symbols_at es r.0) qs)) (groups_in variables (map (λ r. symbols_at es r.0) qs)))
      by true more = (listed-low (symbols_at es q.0) (symbols-low q.0), more)
      by false more = more

  -- ---- the lists read of the assertion

  pub kept-lists : AreListsOf all names a d own
  kept-lists = record { numbered_hypotheses = kept-required; variables = variables-are }

  pub kept-groups : AreGroupsOf all names a own (groups_in variables (disjoint_symbols es front_of))
  kept-groups = record { named = groups-from [] front_of 1 refl refl; below = groups-low (actives is_disj front_of) }

-- a view with these lists and the expression is a view of the assertion
pub lists-cited : (S : Database) (names : List Name) (a : ℕ) (s : Stmt) (d : Assertion) (codes : List ℕ) → AreListsOf S names a d s → decode names codes ≡ expr_of s → AreBelow (length names) codes
    → (c : AssertionView) → c.typecodes.now ≡ d.typecodes → c.hypotheses ≡ d.numbered_hypotheses → c.conclusion.now ≡ codes
    → (c.pairs_listed ≡ true → AreMandatoryPairs (record { statements = before S a; names = names }) d.numbered_hypotheses c.pairs) → AllBelow (length names) c.pairs → IsViewOf S names a s c
lists-cited S names a s d codes l stand low c p q k pairs pairs_low = record {
  numbered_hypotheses = subst (λ hs. AreNumberedHypotheses S names (hypotheses (before S a) s) hs c.hypotheses) (sym p) (subst (AreNumberedHypotheses S names (hypotheses (before S a) s) d.typecodes) (sym q) l.numbered_hypotheses);
  conclusion = ap (decode names) k ∙ stand;
  conclusion_below = subst (AreBelow (length names)) (sym k) low;
  variables = subst (λ hs. AreVariablesOf S names a s (float_variables hs)) (sym q) l.variables;
  pairs = λ listed. subst (λ hs. AreMandatoryPairs (record { statements = before S a; names = names }) hs c.pairs) (sym q) (pairs listed);
  pairs_below = pairs_low;
}
