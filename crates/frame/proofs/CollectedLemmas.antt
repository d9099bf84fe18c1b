-- The positions collected are those of the mandatory hypotheses, in order.
use Rattle.frame.proofs.Words.{take-map, sym, ◌∙◌, ap, subst, arith, inl, inr, ⊎_elim, ◌≡◌, ℕ, zero, suc, ◌+◌, ◌-◌, ◌<◌, true, ◌⊎◌, List, [], ◌∷◌, ◌++◌, length, map, take, drop, slice_get, Some, refl, or_left, and_parts, and_from, false_from_ne_true, slice_get_within, Name, has_name, Stmt, Database, Expr, stays_open, is_active, expr_of, is_essential, is_variable, name_at, decode, AreDistinct, is_used, is_hypothesis, hypotheses, actives, AreBelow, Entry, Kind, Ess, Storage, AreStored, names_in, labels_in, statements_of, stmt_by, stmt_of, symbols_at, option_symbols, is_float_with, IsLastFloat, AreNumbered, In, ListsExactly, HoldsForSome, IsFloatOf, IsFloatOfSome, IsWithEssential, is_float_in, floats_in, take-get, AreAllLegal}
use Rattle.frame.proofs.LastActiveLemmas.{cut-here, length-cut}
use Rattle.mm_read.specs.declared.stmt.Stmt.TheVariants as stmt
use Rattle.frame.proofs.VariablePlaceLemmas.{float-kinds}
use Rattle.frame.proofs.BlockWalkLemmas.{active-end}
use Rattle.frame.proofs.FoundByNumber.{map-back, map-at, numbered-at, kept-front}
use Rattle.frame.proofs.AscendingLists.{same-lists}
use Rattle.frame.proofs.ActivePositions.{IsActiveAt, active-members, ascends-active}
use Rattle.frame.proofs.PlacedHypotheses.{members, used-in, used-cases}
use Rattle.frame.proofs.NamedCodes.{coded, has-code, code-low, floats-is, is-floats}
use Rattle.frame.proofs.ActiveFloats.{rest-active, one-float, hyp-kind, ess-hyp, float-in-kind}
use Rattle.frame.proofs.DeclaredSymbolLemmas.{stored-distinct}
use Rattle.frame.proofs.LegalAfter.{stands-at}

-- ---- the mandatory hypotheses after the statements S

module _ (S : Database) (s : Stmt) (legal : AreAllLegal S) where
  -- the active `$f` of a used symbol is a mandatory hypothesis
  float-hyp : (p : ℕ) (A : Database) (u l x : Name) (B : Database) → S ≡ A ++ stmt.Float u l x ∷ B → p ≡ suc (length A) → stays_open 0 B ≡ true → is_used S s x ≡ true → In p (hypotheses S s)
  float-hyp p A u l x B cut at_p stays used =
      members S (is_hypothesis S s) p A (stmt.Float u l x) B cut at_p stays (and_from (is_variable S x) (is_used S s x) (float-kinds S A u l x B legal cut stays).1 used)

  -- so is that of each symbol of an expression whose symbols are used
  of-floats : (e : Expr) → ((x : Name) → has_name x e ≡ true → is_used S s x ≡ true) → (p : ℕ) → In p (floats_in S e) → In p (hypotheses S s)
  of-floats e used p j =
      let g = active-members S (is_float_in e) p [] S 1 refl refl j in
      let f = float-in-kind e g.stmt g.passes in
      float-hyp p g.front f.0 f.1 f.2 g.rest (g.whole ∙ ap (λ t. g.front ++ t ∷ g.rest) f.3) g.at g.stays (used f.2 f.4)

-- ---- the `$f` of the symbols of an expression, by their numbers

module _ (es : List Entry) (names labels : List Name) (m : ℕ) (S : Database)
    (whole : S ≡ map (stmt_of names labels) es) (distinct : AreDistinct names) (numbered : AreNumbered (length names) m es) (all : AreAllLegal S) where
  -- an active `$f` of a number is the last `$f` of that number
  is-float : (p c : ℕ) (A B : Database) (u l x : Name) → S ≡ A ++ stmt.Float u l x ∷ B → p ≡ suc (length A) → stays_open 0 B ≡ true → c < length names → name_at names c ≡ x → IsFloatOf es S c p
  is-float p c A B u l x named at_p stays small e =
      record { last = last; stands = ap (λ n. is_active S n (length S + 1)) at_p ∙ rest-active S A (stmt.Float u l x) B named stays }
    where
      t : Stmt
      t = stmt.Float u l (name_at names c)

      cut : S ≡ A ++ t ∷ B
      cut = named ∙ ap (λ y. A ++ stmt.Float u l y ∷ B) (sym e)

      own : (d : Entry) × (slice_get es (length A) ≡ Some d) × (t ≡ stmt_of names labels d)
      own = map-back (stmt_of names labels) es (length A) t (ap (λ w. slice_get w (length A)) (sym whole ∙ cut) ∙ stands-at A t B)

      passes : is_float_with c own.0 ≡ true
      passes = let n = numbered-at (length names) m es (length A) own.0 numbered own.1 in is-floats names c own.0 (name_at labels own.0.label_count) l u distinct n.0 n.1 small (sym own.2)

      last : IsLastFloat c 1 es p
      last = record {
        place = length A;
        entry = own.0;
        found = own.1;
        passes = passes;
        is = omega (arith, at_p);
        last = λ j y lt got. false_from_ne_true (is_float_with c y) (λ is.
            let f = floats-is names c y (name_at labels y.label_count) is in
            one-float S A u l (name_at names c) B j (name_at labels y.label_count) f.0 all cut stays (ap (λ w. slice_get w j) whole ∙ (map-at (stmt_of names labels) es j y got ∙ ap Some f.1)) lt);
      }

  module _ (codes : List ℕ) (low : AreBelow (length names) codes) where
    found-float : (p : ℕ) → HoldsForSome (IsFloatOf es S) codes p → In p (floats_in S (decode names codes))
    found-float p f =
        let r = f.is.last in
        let place : p ≡ suc r.place = (let is = r.is in omega (arith, is)) in
        let x = r.entry in
        let k = floats-is names f.one x (name_at labels x.label_count) r.passes in
        let t = stmt.Float (name_at labels x.label_count) k.0 (name_at names f.one) in
        let there : slice_get S r.place ≡ Some t = ap (λ w. slice_get w r.place) whole ∙ (map-at (stmt_of names labels) es r.place x r.found ∙ ap Some k.1) in
        let stays = sym (active-end S r.place (slice_get_within S r.place t there)) ∙ (ap (λ n. is_active S n (length S + 1)) (sym place) ∙ f.is.stands) in
        members S (is_float_in (decode names codes)) p (take r.place S) t (drop (suc r.place) S) (cut-here S r.place t there) (omega (arith, length-cut S r.place t there, place)) stays (has-code names codes f.one f.among)

    float-found : (p : ℕ) → In p (floats_in S (decode names codes)) → HoldsForSome (IsFloatOf es S) codes p
    float-found p i =
        let h = active-members S (is_float_in (decode names codes)) p [] S 1 refl refl i in
        let f = float-in-kind (decode names codes) h.stmt h.passes in
        let c = coded names codes f.2 f.4 in
        record { one = c.code; among = c.among; is = is-float p c.code h.front h.rest f.0 f.1 f.2 (h.whole ∙ ap (λ t. h.front ++ t ∷ h.rest) f.3) h.at h.stays (code-low (length names) c.code codes low c.among) c.name }

-- ---- the mandatory hypotheses of an assertion after the first i statements

essential-expr : (kind : Kind) (label : Name) (names : Expr) → is_essential (stmt_by kind label names) ≡ true → expr_of (stmt_by kind label names) ≡ names
essential-expr Ess label names h = refl
essential-expr kind label names h = cc

numbered-front : (n m i : ℕ) (es : List Entry) → AreNumbered n m es → AreNumbered n m (take i es)
numbered-front n m zero es a = tt
numbered-front n m (suc i) [] a = tt
numbered-front n m (suc i) (e ∷ es) a = (a.0, a.1, numbered-front n m i es a.2, a.3)

module _ (k : Storage) (stored : AreStored k) (i : ℕ) where
  abbrev N : List Name
  N = names_in k

  abbrev L : List Name
  L = labels_in k

  abbrev T : Database
  T = take i (statements_of k)

  first-legal : AreAllLegal T
  first-legal = kept-front (statements_of k) i stored.kept.legal

  -- the symbols of an active `$e`
  essential-codes : (q : ℕ) (h : IsActiveAt T is_essential q) → AreBelow (length N) (symbols_at k.entries q) × (decode N (symbols_at k.entries q) ≡ expr_of h.stmt)
  essential-codes q h =
      let n = length h.front in let at = h.at in
      let there = take-get i n (statements_of k) h.stmt (ap (λ w. slice_get w n) h.whole ∙ stands-at h.front h.stmt h.rest) in
      let x = map-back (stmt_of N L) k.entries n h.stmt there.1 in
      let back : q - 1 ≡ n = omega (arith, at) in
      let same : symbols_at k.entries q ≡ x.0.symbols = ap (λ m. option_symbols (slice_get k.entries m)) back ∙ ap option_symbols x.1 in
      let low = (numbered-at (length N) (length L) k.entries n x.0 stored.kept.coded x.1).0 in (
        subst (AreBelow (length N)) (sym same) low,
        ap (decode N) same ∙ (sym (essential-expr x.0.kind (name_at L x.0.label_count) (decode N x.0.symbols) (ap is_essential (sym x.2) ∙ h.passes)) ∙ ap expr_of (sym x.2)),
      )

  found : (e : Expr) (codes : List ℕ) → AreBelow (length N) codes → decode N codes ≡ e → (p : ℕ) → IsFloatOfSome k i codes p → In p (floats_in T e)
  found e codes low is p f =
      subst (λ x. In p (floats_in T x)) is
      (found-float (take i k.entries) N L (length L) T (take-map (stmt_of N L) i k.entries) (stored-distinct k stored) (numbered-front (length N) (length L) i k.entries stored.kept.coded) first-legal codes low p f)

  back : (e : Expr) (codes : List ℕ) → AreBelow (length N) codes → decode N codes ≡ e → (p : ℕ) → In p (floats_in T e) → IsFloatOfSome k i codes p
  back e codes low is p j =
      float-found (take i k.entries) N L (length L) T (take-map (stmt_of N L) i k.entries) (stored-distinct k stored) (numbered-front (length N) (length L) i k.entries stored.kept.coded) first-legal codes low p
      (subst (λ x. In p (floats_in T x)) (sym is) j)

  module _ (s : Stmt) (codes : List ℕ) (low : AreBelow (length N) codes) (is : decode N codes ≡ expr_of s) where
    -- p is the position of the `$f` of one of the symbols, or comes with an active `$e`
    abbrev IsGiven : ℕ → Type 0
    IsGiven p = IsFloatOfSome k i codes p ⊎ HoldsForSome (IsWithEssential k i) (map (λ q. q.0) (actives is_essential T)) p

    given : (p : ℕ) → IsGiven p → In p (hypotheses T s)
    given p (inl f) = of-floats T s first-legal (expr_of s) (λ x has. or_left (has_name x (expr_of s)) _ has) p (found (expr_of s) codes low is p f)
    given p (inr e) =
        let h = active-members T is_essential e.one [] T 1 refl refl e.among in
        let c = essential-codes e.one h in
        ⊎_elim (λ same. members T (is_hypothesis T s) p h.front h.stmt h.rest h.whole (same ∙ h.at) h.stays (ess-hyp T s h.stmt h.passes))
        (λ f. of-floats T s first-legal (expr_of h.stmt) (λ x has. used-in T s x h.front h.stmt h.rest h.whole h.stays h.passes has) p (found (expr_of h.stmt) (symbols_at k.entries e.one) c.0 c.1 p f)) e.is

    needed : (p : ℕ) → In p (hypotheses T s) → IsGiven p
    needed p j =
        let h = active-members T (is_hypothesis T s) p [] T 1 refl refl j in
        elim (hyp-kind T s h.stmt h.passes) [
          | inl e ↦ inr (record { one = p; among = members T is_essential p h.front h.stmt h.rest h.whole h.at h.stays e; is = inl refl })
          | inr f ↦
              let m = and_parts (is_variable T f.2) (is_used T s f.2) f.4 in
              let cut : T ≡ h.front ++ stmt.Float f.0 f.1 f.2 ∷ h.rest = h.whole ∙ ap (λ t. h.front ++ t ∷ h.rest) f.3 in
              elim (used-cases T s f.2 m.1) [
                | inl e ↦ inl (back (expr_of s) codes low is p (members T (is_float_in (expr_of s)) p h.front (stmt.Float f.0 f.1 f.2) h.rest cut h.at h.stays e))
                | inr r ↦
                    let two = and_parts (is_essential r.stmt) (has_name f.2 (expr_of r.stmt)) r.passes in
                    let q = suc (length r.front) in
                    let a : IsActiveAt T is_essential q = record { front = r.front; stmt = r.stmt; rest = r.rest; whole = r.whole; at = refl; stays = r.stays; passes = two.0 } in
                    let c = essential-codes q a in
                    let float = back (expr_of r.stmt) (symbols_at k.entries q) c.0 c.1 p (members T (is_float_in (expr_of r.stmt)) p h.front (stmt.Float f.0 f.1 f.2) h.rest cut h.at h.stays two.1) in
                    inr (record { one = q; among = members T is_essential q r.front r.stmt r.rest r.whole refl r.stays two.0; is = inr float })
              ]
        ]

    pub found-hypotheses : (list : List ℕ) → ListsExactly IsGiven list → list ≡ hypotheses T s
    found-hypotheses list w = same-lists list (hypotheses T s) w.ascends (ascends-active (is_hypothesis T s) 1 T).1 (λ p j. given p (w.only p j)) (λ p j. w.all p (needed p j))
