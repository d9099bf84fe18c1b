-- A statement is kept with the parts that were found, also after entries are appended or removed.
use Rattle.frame.proofs.Words.{Result, Ok, Err, OnOk, sym, ◌∙◌, ap, subst, arith, inl, inr, ◌≡◌, ℕ, ◌-◌, ◌≤◌, Bool, true, false, false≢true, List, [], ◌∷◌, length, map, filter, take, slice_get, Some, refl, take-map, take_all, Name, Stmt, Database, active, name_at, decode, hypotheses, is_hypothesis, actives, is_disj, is_hypothesis_kind, typecode_of, Kind, Float, Ess, Entry, Assertion, take-get, stmt_by, stmt_of, In, AreHypotheses, ArePartsOf, IsFilledFrom, is_hypothesis_entry, IsKeptAs, length-map, hypothesis_at, entry_hypothesis, typecode_at, symbols_at, option_symbols, are_together, float_variables, pairs_by, AreReordered, map-map, take-take}
use Rattle.entries.specs.Entries.{no_parts}
use Rattle.mm_read.specs.declared.stmt.Stmt.TheVariants as stmt
use Rattle.frame.proofs.ActivePositions.{active-members}
use Rattle.frame.proofs.LegalAfter.{stands-at}
use Rattle.frame.proofs.FoundByNumber.{map-back}

-- at the position of an active statement that passes the test there is the entry of a statement
-- that passes
active-entry : (names labels : List Name) (es : List Entry) (i : ℕ) (q : Stmt → Bool) (p : ℕ) → In p (map (λ r. r.0) (filter (λ r. q r.1) (active (take i (map (stmt_of names labels) es)))))
    → (e : Entry) × (1 ≤ p) × (slice_get (take i es) (p - 1) ≡ Some e) × (q (stmt_of names labels e) ≡ true)
active-entry names labels es i q p j =
    let S = take i (map (stmt_of names labels) es) in
    let h = active-members S q p [] S 1 refl refl j in
    let at = h.at in
    let back : p - 1 ≡ length h.front = omega (arith, at) in
    let there = ap (λ w. slice_get w (length h.front)) (sym (take-map (stmt_of names labels) i es) ∙ h.whole) ∙ stands-at h.front h.stmt h.rest in
    let e = map-back (stmt_of names labels) (take i es) (length h.front) h.stmt there in
    (e.0, omega (arith, at), ap (slice_get (take i es)) back ∙ e.1, ap q (sym e.2) ∙ h.passes)

hypothesis-entry : (names labels : List Name) (e : Entry) → is_hypothesis_kind (stmt_of names labels e) ≡ true → is_hypothesis_entry e.kind ≡ true
hypothesis-entry names labels e = by e.kind
  where
    by : (kind : Kind) → is_hypothesis_kind (stmt_by kind (name_at labels e.label_count) (decode names e.symbols)) ≡ true → is_hypothesis_entry kind ≡ true
    by Float h = refl
    by Ess h = refl
    by kind h = cc

-- if only hypotheses pass the test, there is a hypothesis at the position of each active statement
-- that passes
pub hypotheses-of : (names labels : List Name) (es : List Entry) (i : ℕ) (q : Stmt → Bool) → ((t : Stmt) → q t ≡ true → is_hypothesis_kind t ≡ true)
    → AreHypotheses es (map (λ p. p.0) (filter (λ p. q p.1) (active (take i (map (stmt_of names labels) es)))))
hypotheses-of names labels es i q kinds = all (map (λ p. p.0) (filter (λ p. q p.1) (active (take i (map (stmt_of names labels) es))))) (λ p j. active-entry names labels es i q p j)
  where
    all : (ps : List ℕ) → ((p : ℕ) → In p ps → (e : Entry) × (1 ≤ p) × (slice_get (take i es) (p - 1) ≡ Some e) × (q (stmt_of names labels e) ≡ true)) → AreHypotheses es ps
    all [] h = tt
    all (p ∷ ps) h =
        let e = h p (inl refl) in
        ((e.0, e.1, (take-get i (p - 1) es e.0 e.2).1, hypothesis-entry names labels e.0 (kinds (stmt_of names labels e.0) e.3)), all ps (λ r j. h r (inr j)))

pub hypothesis-kinds : (S : Database) (s t : Stmt) → is_hypothesis S s t ≡ true → is_hypothesis_kind t ≡ true
hypothesis-kinds S s (stmt.Float l c x) h = refl
hypothesis-kinds S s (stmt.Ess l e) h = refl
hypothesis-kinds S s t h = cc

-- the first statements, as many as there are entries, are all
all-stand : (names labels : List Name) (es : List Entry) → take (length es) (map (stmt_of names labels) es) ≡ map (stmt_of names labels) es
all-stand names labels es = take-map (stmt_of names labels) (length es) es ∙ ap (map (stmt_of names labels)) (take_all (length es) es (omega arith))

pub hypotheses-are : (names labels : List Name) (es : List Entry) (s : Stmt) → AreHypotheses es (hypotheses (map (stmt_of names labels) es) s)
hypotheses-are names labels es s =
    let S = take (length es) (map (stmt_of names labels) es) in
    subst (λ D. AreHypotheses es (hypotheses D s)) (all-stand names labels es) (hypotheses-of names labels es (length es) (is_hypothesis S s) (hypothesis-kinds S s))

-- ---- entries appended or removed

alike : {A : Type 0} (f g : ℕ → A) (ps : List ℕ) → ((p : ℕ) → In p ps → f p ≡ g p) → map f ps ≡ map g ps
alike f g [] h = refl
alike f g (p ∷ ps) h = ap (λ x. x ∷ map f ps) (h p (inl refl)) ∙ ap (λ r. g p ∷ r) (alike f g ps (λ q i. h q (inr i)))

-- a statement that is kept after the first i entries is kept so after any entries that begin with
-- these
kept-moved : (names labels : List Name) (es fs : List Entry) (i : ℕ) (s : Stmt) (d : Assertion) → take i es ≡ take i fs
    → IsKeptAs es (take i (map (stmt_of names labels) es)) s d → IsKeptAs fs (take i (map (stmt_of names labels) es)) s d
kept-moved names labels es fs i s d same k = λ w.
    let f = k w in
    let a = f.described in record {
      described = record {
        same = a.same;
        numbered_made = a.numbered_made ∙ alike (hypothesis_at es) (hypothesis_at fs) d.hypotheses (λ p j. ap (entry_hypothesis p) (agree a.same p j));
        typecodes_made = a.typecodes_made ∙ alike (typecode_at es) (typecode_at fs) d.hypotheses (λ p j. ap (λ o. typecode_of (option_symbols o)) (agree a.same p j));
      };
      pairs_made = subst (λ lists. AreReordered (pairs_by (are_together lists) (float_variables d.numbered_hypotheses)) d.groups) symbols f.pairs_made;
    }
  where
    T : Database
    T = take i (map (stmt_of names labels) es)

    -- the entries of the statements that are active there are among the first i
    stays : (q : Stmt → Bool) (p : ℕ) → In p (map (λ r. r.0) (filter (λ r. q r.1) (active T))) → slice_get es (p - 1) ≡ slice_get fs (p - 1)
    stays q p j =
        let e = active-entry names labels es i q p j in
        (take-get i (p - 1) es e.0 e.2).1 ∙ sym (take-get i (p - 1) fs e.0 (ap (λ l. slice_get l (p - 1)) (sym same) ∙ e.2)).1

    agree : d.hypotheses ≡ hypotheses T s → (p : ℕ) → In p d.hypotheses → slice_get es (p - 1) ≡ slice_get fs (p - 1)
    agree all p j = stays (is_hypothesis T s) p (subst (In p) all j)

    symbols : map (λ q. symbols_at es q.0) (actives is_disj T) ≡ map (λ q. symbols_at fs q.0) (actives is_disj T)
    symbols =
        let qs = actives is_disj T in
        sym (map-map (symbols_at es) (λ q. q.0) qs) ∙ (alike (symbols_at es) (symbols_at fs) (map (λ q. q.0) qs) (λ p j. ap option_symbols (stays is_disj p j)) ∙ map-map (symbols_at fs) (λ q. q.0) qs)

-- a statement that is kept after the first i entries alone is kept so after all entries
pub kept-more : (names labels : List Name) (es : List Entry) (i : ℕ) (s : Stmt) (d : Assertion) → IsKeptAs (take i es) (take i (map (stmt_of names labels) es)) s d → IsKeptAs es (take i (map (stmt_of names labels) es)) s d
kept-more names labels es i s d k =
    let same : take i (map (stmt_of names labels) (take i es)) ≡ take i (map (stmt_of names labels) es) =
    ap (take i) (sym (take-map (stmt_of names labels) i es)) ∙ take-take i i (map (stmt_of names labels) es) (omega arith) in
    subst (λ T. IsKeptAs es T s d) same (kept-moved names labels (take i es) es i s d (take-take i i es (omega arith)) (subst (λ T. IsKeptAs (take i es) T s d) (sym same) k))

-- ---- the parts that were found

pub filled-parts : (es : List Entry) (S : Database) (ps : List ℕ) (d : Assertion) → IsFilledFrom es S ps d → ArePartsOf es S ps d
filled-parts es S ps d f = record {
  paired = ap length f.described.numbered_made ∙ length-map d.hypotheses (hypothesis_at es);
  typecodes_counted = ap length f.described.typecodes_made ∙ length-map d.hypotheses (typecode_at es);
  kept = λ w. f;
}

pub no-parts : (es : List Entry) (S : Database) (ps : List ℕ) (d : Assertion) → d ≡ no_parts false → ArePartsOf es S ps d
no-parts es S ps d is = subst (ArePartsOf es S ps) (sym is) (record { paired = refl; typecodes_counted = refl; kept = λ w. absurd (false≢true w) })

pub ok-both : {T E : Type 0} (r : Result T E) {P Q R : Type 0} → (P → Q → R) → OnOk r P → OnOk r Q → OnOk r R
ok-both (Ok x) f p q = f p q
ok-both (Err e) f p q = tt
