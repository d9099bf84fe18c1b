-- One step of the pass over the statements.
use Rattle.sites.proofs.ReferenceWords.{◌≡◌, ◌⊎◌, ◌↔◌, ℕ, zero, suc, ◌+◌, ◌-◌, ◌<◌, ◌≤◌, Bool, true, false, IsTrue, List, [], ◌∷◌, ◌++◌, length, map, take, drop, get_or, replicate, slice_set, Some, sym, ◌∙◌, ap, subst, refl, arith, inl, inr, take_all, length-append, append-nil, cases_eq, cases_lt, Vec, drop_all, get_or-map, map-append, map-set, get_or-set_other, get_or-set_same, get_or_append_left, get_or_past, length-map, length-set, length-replicate, Ascends, In, ListsExactly, HasMore, HoldsForSome, last-in, last-out, those-by, Good, Cites, RestsOn, directly, through, Uses, IsAxiomAt, IsUser, is_axiom, cites-below, Database, Stmt, stmt_at, stands-within, ArePositionsWhere, AreListsOf, AreReferences, lists_of, AddsAxiom, AreWithin, AreExtendedAt, AreListsOfFirst}
use Rattle.sites.proofs.ListLemmas.{has-in, in-has, has-as, has-both, in-more, more-in, next-apart, those-where, ascends-last}
use Rattle.frame.proofs.Words.{list_any, ◌==◌}

-- a statement that is cited is an earlier one
pub cites-within : (S : Database) (n a : ℕ) → Good S → Cites S (suc n) a → (0 < a) × (a ≤ n)
cites-within S n a good c =
    let one = c.one in
    let w = stands-within S a one.cited one.carries.stands in
    let less = cites-below S (suc n) a good c in
    (omega (arith, w.0), omega (arith, less))

pub cited-within : (S : Database) (n : ℕ) (cited : List ℕ) → Good S → ListsExactly (Cites S (suc n)) cited → AreWithin n cited
cited-within S n cited good those p i = cites-within S n p good (those.only p i)

-- ---- the `$a` that the next statement rests on

module _ (S : Database) (good : Good S) (n : ℕ) (axioms : List (List ℕ)) (cited : List ℕ) (those : ListsExactly (Cites S (suc n)) cited)
    (are : (k : ℕ) → k < n → ListsExactly (Uses S (suc k)) (get_or axioms k [])) where
  list-of : (c : ℕ) → Cites S (suc n) c → ListsExactly (Uses S c) (get_or axioms (c - 1) [])
  list-of c cites = by c (cites-within S n c good cites)
    where
      by : (p : ℕ) → (0 < p) × (p ≤ n) → ListsExactly (Uses S p) (get_or axioms (p - 1) [])
      by zero w = absurd (let h = w.0 in omega (arith, h))
      by (suc k) w =
          let e : suc k - 1 ≡ k = omega arith in
          subst (λ i. ListsExactly (Uses S (suc k)) (get_or axioms i [])) (sym e) (are k (let h = w.1 in omega (arith, h)))

  uses-added : (a : ℕ) → RestsOn S (suc n) a → IsAxiomAt S a → HoldsForSome (AddsAxiom S axioms) cited a
  uses-added a (directly c) ax = record { one = a; among = those.all a c; is = inl (ax, refl) }
  uses-added a (through {b = b} c r) ax = record { one = b; among = those.all b c; is = inr ((list-of b c).all a (r, ax)) }

  added-uses : (a : ℕ) → HoldsForSome (AddsAxiom S axioms) cited a → Uses S (suc n) a
  added-uses a g =
      let c = those.only g.one g.among in
      elim g.is [
        | inl h ↦ (directly (subst (Cites S (suc n)) (sym h.1) c), subst (IsAxiomAt S) (sym h.1) h.0)
        | inr i ↦ (let u = (list-of g.one c).only a i in (through c u.0, u.1))
      ]

  pub uses-those : (list : List ℕ) → ListsExactly (HoldsForSome (AddsAxiom S axioms) cited) list → ListsExactly (Uses S (suc n)) list
  uses-those list given = those-by given added-uses (λ a u. uses-added a u.0 u.1)

-- ---- the statements that cite

-- a statement up to n that cites the statement at index k
abbrev pub CiteUpto : Database → ℕ → ℕ → ℕ → Type 0
CiteUpto S n k j = (j ≤ n) × Cites S j (suc k)

module _ (S : Database) (n k : ℕ) (old new : List ℕ) (are : ListsExactly (CiteUpto S n k) old) where
  citing-more : new ≡ old ++ suc n ∷ [] → Cites S (suc n) (suc k) → ListsExactly (CiteUpto S (suc n) k) new
  citing-more is c =
      subst (ListsExactly (CiteUpto S (suc n) k)) (sym is) (record {
        ascends = ascends-last old (suc n) are.ascends (λ p i. let u = are.only p i in let h = u.0 in omega (arith, h));
        all = λ p u. last-in p (suc n) old (elim (cases_eq p (suc n)) [
          | inl e ↦ inl e
          | inr apart ↦ inr (are.all p (let h = u.0 in omega (arith, h, apart), u.1))
        ]);
        only = λ p i. elim (last-out p (suc n) old i) [
          | inl e ↦ (omega (arith, e), subst (λ j. Cites S j (suc k)) (sym e) c)
          | inr o ↦ (let u = are.only p o in let h = u.0 in (omega (arith, h), u.1))
        ];
      })

  citing-same : new ≡ old → (Cites S (suc n) (suc k) → ⊥) → ListsExactly (CiteUpto S (suc n) k) new
  citing-same is none =
      subst (ListsExactly (CiteUpto S (suc n) k)) (sym is) (those-by are
      (λ p u. let h = u.0 in (omega (arith, h), u.1))
      (λ p u. elim (cases_eq p (suc n)) [
        | inl e ↦ absurd (none (subst (λ j. Cites S j (suc k)) e u.1))
        | inr apart ↦ (let h = u.0 in omega (arith, h, apart), u.1)
      ]))

citing-next : (S : Database) (n k : ℕ) (cited : List ℕ) (old new : List (List ℕ)) → ListsExactly (Cites S (suc n)) cited → AreExtendedAt (suc n) cited old new
    → ListsExactly (CiteUpto S n k) (get_or old k []) → ListsExactly (CiteUpto S (suc n) k) (get_or new k [])
citing-next S n k cited old new those have are = by (list_any (λ q. q == suc k) cited) refl
  where
    by : (b : Bool) → list_any (λ q. q == suc k) cited ≡ b → ListsExactly (CiteUpto S (suc n) k) (get_or new k [])
    by true e =
        let i = has-in (suc k) cited e in
        citing-more S n k (get_or old k []) (get_or new k []) are (have.those k i) (those.only (suc k) i)
    by false e =
        citing-same S n k (get_or old k []) (get_or new k []) are
        (have.others k (λ i. let f : true ≡ false = sym (in-has (suc k) cited i) ∙ e in cc))
        (λ c. let f : true ≡ false = sym (in-has (suc k) cited (those.all (suc k) c)) ∙ e in cc)

-- the citing statement is added to the list of one more position
pub citing-pushed : (at : ℕ) (positions : List ℕ) (i p : ℕ) (first old new : List (List ℕ)) → Ascends positions → i < length positions → p ≡ get_or positions i 0 → 0 < p → p ≤ length first
    → new ≡ slice_set old (p - 1) (get_or old (p - 1) [] ++ at ∷ []) → AreExtendedAt at (take i positions) first old → AreExtendedAt at (take (i + 1) positions) first new
citing-pushed at positions i zero first old new asc h is some within set have = absurd (omega (arith, some))
citing-pushed at positions i (suc m) first old new asc h is some within set have = record {
  count = ap length made ∙ (length-set old m (get_or old m [] ++ at ∷ []) ∙ have.count);
  those = λ k j. elim (in-more positions i (suc k) h j) [ inl before ↦ earlier k before | inr e ↦ here k (let f : suc k ≡ suc m = e ∙ sym is in omega (arith, f)) ];
  others = λ k none. other k none;
}
  where
    made : new ≡ slice_set old m (get_or old m [] ++ at ∷ [])
    made = set ∙ ap (λ j. slice_set old j (get_or old j [] ++ at ∷ [])) (let e : suc m - 1 ≡ m = omega arith in e)

    fresh : In (suc m) (take i positions) → ⊥
    fresh j = next-apart positions i asc h (subst (λ q. In q (take i positions)) is j)

    at_m : get_or new m [] ≡ get_or first m [] ++ at ∷ []
    at_m =
        ap (λ l. get_or l m []) made
        ∙ (get_or-set_same old m (get_or old m [] ++ at ∷ []) [] (let c = have.count in omega (arith, c, within))
        ∙ ap (λ l. l ++ at ∷ []) (have.others m fresh))

    elsewhere : (k : ℕ) → (k ≡ m → ⊥) → get_or new k [] ≡ get_or old k []
    elsewhere k apart = ap (λ l. get_or l k []) made ∙ get_or-set_other old m k (get_or old m [] ++ at ∷ []) [] apart

    earlier : (k : ℕ) → In (suc k) (take i positions) → get_or new k [] ≡ get_or first k [] ++ at ∷ []
    earlier k before = elsewhere k (λ e. fresh (subst (λ q. In (suc q) (take i positions)) e before)) ∙ have.those k before

    here : (k : ℕ) → k ≡ m → get_or new k [] ≡ get_or first k [] ++ at ∷ []
    here k e = subst (λ q. get_or new q [] ≡ get_or first q [] ++ at ∷ []) (sym e) at_m

    other : (k : ℕ) → (In (suc k) (take (i + 1) positions) → ⊥) → get_or new k [] ≡ get_or first k []
    other k none =
        elsewhere k (λ e. none (more-in positions i (suc k) h (inr (ap suc e ∙ is))))
        ∙ have.others k (λ before. none (more-in positions i (suc k) h (inl before)))

pub citing-none : (at : ℕ) (lists : List (List ℕ)) → AreExtendedAt at [] lists lists
citing-none at lists = record { count = refl; those = λ k i. absurd i; others = λ k none. refl }

pub citing-all : (at : ℕ) (positions : List ℕ) (i : ℕ) (old new : List (List ℕ)) → length positions ≤ i → AreExtendedAt at (take i positions) old new → AreExtendedAt at positions old new
citing-all at positions i old new h have = subst (λ ps. AreExtendedAt at ps old new) (take_all i positions h) have

-- ---- all statements

-- a list of empty lists
abbrev pub empties : ℕ → List (List ℕ)
empties count = replicate count []

no-list : (count k : ℕ) → get_or (empties count) k [] ≡ []
no-list zero k = refl
no-list (suc count) zero = refl
no-list (suc count) (suc k) = no-list count k

pub empties-more : (count n : ℕ) (old new : List (List ℕ)) → n ≡ suc count → old ≡ replicate count [] → new ≡ old ++ [] ∷ [] → new ≡ replicate n []
empties-more count n old new is before after = after ∙ (ap (λ l. l ++ [] ∷ []) before ∙ (last count ∙ ap empties (sym is)))
  where
    last : (m : ℕ) → empties m ++ [] ∷ [] ≡ empties (suc m)
    last zero = refl
    last (suc m) = ap (λ l. [] ∷ l) (last m)

module _ (S : Database) where
  cites-some : (j a : ℕ) → Cites S j a → (1 ≤ j) × (j ≤ length S)
  cites-some j a c = stands-within S j c.has.stmt c.has.provable.stands

  pub done-start : (axioms cited_by : List (List ℕ)) → axioms ≡ [] → cited_by ≡ replicate (length S) [] → AreListsOfFirst S 0 axioms cited_by
  done-start axioms cited_by none empty = record {
    within = omega arith;
    axioms_count = ap length none;
    cited_by_count = ap length empty ∙ length-replicate (length S) [];
    axioms_are = λ k h. absurd (omega (arith, h));
    cited_by_are = λ k h. subst (ListsExactly (CiteUpto S 0 k)) (sym (ap (λ l. get_or l k []) empty ∙ no-list (length S) k)) (record {
      ascends = tt;
      all = λ p u. absurd (let c = cites-some p (suc k) u.1 in let h = u.0 in let w = c.0 in omega (arith, h, w));
      only = λ p i. absurd i;
    });
  }

  pub done-next : (n m : ℕ) (axioms cited_by new news : List (List ℕ)) (cited list : List ℕ) → Good S → m ≡ suc n → n < length S → ListsExactly (Cites S (suc n)) cited
      → AreExtendedAt (suc n) cited cited_by news → ListsExactly (HoldsForSome (AddsAxiom S axioms) cited) list → new ≡ axioms ++ list ∷ [] → AreListsOfFirst S n axioms cited_by → AreListsOfFirst S m new news
  done-next n m axioms cited_by new news cited list good is h those have given more done =
      subst (λ q. AreListsOfFirst S q new news) (sym is) (subst (λ l. AreListsOfFirst S (suc n) l news) (sym more) (record {
        within = omega (arith, h);
        axioms_count = let c = done.axioms_count in let l = length-append axioms (list ∷ []) in omega (arith, c, l);
        cited_by_count = have.count ∙ done.cited_by_count;
        axioms_are = axioms_next;
        cited_by_are = λ k w. citing-next S n k cited cited_by news those have (done.cited_by_are k w);
      }))
    where
      own : ListsExactly (Uses S (suc n)) list
      own = uses-those S good n axioms cited those done.axioms_are list given

      last : (xs : List (List ℕ)) → get_or (xs ++ list ∷ []) (length xs) [] ≡ list
      last [] = refl
      last (x ∷ xs) = last xs

      axioms_next : (k : ℕ) → k < suc n → ListsExactly (Uses S (suc k)) (get_or (axioms ++ list ∷ []) k [])
      axioms_next k w = elim (cases_lt k n) [
        | inl less ↦ subst (ListsExactly (Uses S (suc k))) (sym (get_or_append_left axioms (list ∷ []) [] k (let c = done.axioms_count in omega (arith, less, c)))) (done.axioms_are k less)
        | inr least ↦ (
            let e : k ≡ n = omega (arith, w, least) in
            subst (λ q. ListsExactly (Uses S (suc q)) (get_or (axioms ++ list ∷ []) q [])) (sym e)
            (subst (ListsExactly (Uses S (suc n))) (sym (ap (λ q. get_or (axioms ++ list ∷ []) q []) (sym done.axioms_count) ∙ last axioms)) own))
      ]

  pub done-all : (n : ℕ) (axioms cited_by : List (List ℕ)) → length S ≤ n → AreListsOfFirst S n axioms cited_by → AreReferences S axioms cited_by
  done-all n axioms cited_by h done = record {
    axioms_listed = record {
      count = let c = done.axioms_count in let w = done.within in omega (arith, c, w, h);
      each = λ k w. those-where (Uses S (suc k)) (get_or axioms k []) (done.axioms_are k (omega (arith, w, h)))
          (λ p u. let ax = u.1 in let l = stands-within S p ax.stmt ax.stands in let f = l.0 in omega (arith, f));
    };
    cited_by_listed = record {
      count = done.cited_by_count;
      each = λ k w. those-where (IsUser S false (suc k)) (get_or cited_by k [])
          (those-by (done.cited_by_are k w) (λ j u. u.1) (λ j c. (let l = cites-some j (suc k) c in let f = l.1 in omega (arith, f, h), c)))
          (λ j c. let l = cites-some j (suc k) c in let f = l.0 in omega (arith, f));
    };
  }

-- ---- lists in vectors

pub list-set : (us : List (Vec ℕ)) (k : ℕ) (d new : Vec ℕ) (at : ℕ) → k < length us → new.items ≡ (get_or us k d).items ++ at ∷ []
    → lists_of (slice_set us k new) ≡ slice_set (lists_of us) k (get_or (lists_of us) k [] ++ at ∷ [])
list-set us k d new at h more =
    map-set (λ (v : Vec ℕ). v.items) us k new
    ∙ ap (λ l. slice_set (lists_of us) k l) (more ∙ ap (λ l. l ++ at ∷ []) (sym (get_or-map (λ (v : Vec ℕ). v.items) us k d [] h)))

pub list-at : (us : List (Vec ℕ)) (k : ℕ) (old : Vec ℕ) → k < length us → old ≡ get_or us k old → get_or (lists_of us) k [] ≡ old.items
list-at us k old h is = get_or-map (λ (v : Vec ℕ). v.items) us k old [] h ∙ ap (λ (v : Vec ℕ). v.items) (sym is)

pub lists-count : (us : List (Vec ℕ)) → length (lists_of us) ≡ length us
lists-count us = length-map us (λ (v : Vec ℕ). v.items)

pub lists-push : (us vs : List (Vec ℕ)) (v : Vec ℕ) → vs ≡ us ++ v ∷ [] → lists_of vs ≡ lists_of us ++ v.items ∷ []
lists-push us vs v is = ap lists_of is ∙ map-append (λ (w : Vec ℕ). w.items) us (v ∷ [])

-- ---- one position is added

pub added-more : (S : Database) (axioms : List (List ℕ)) (p : ℕ) (old mid new : List ℕ) (s : Stmt) (list : List ℕ) → stmt_at S p ≡ Some s
    → HasMore (λ q. IsTrue (is_axiom s) × (q ≡ p)) old mid → list ≡ get_or axioms (p - 1) [] → HasMore (λ q. In q list) mid new → HasMore (AddsAxiom S axioms p) old new
added-more S axioms p old mid new s list stands first is more =
    has-as (λ q. (IsTrue (is_axiom s) × (q ≡ p)) ⊎ In q list) (AddsAxiom S axioms p) old new to from (has-both (λ q. IsTrue (is_axiom s) × (q ≡ p)) (λ q. In q list) old mid new first more)
  where
    to : (q : ℕ) → (IsTrue (is_axiom s) × (q ≡ p)) ⊎ In q list → AddsAxiom S axioms p q
    to q (inl h) = inl (record { stmt = s; stands = stands; kind = h.0 }, h.1)
    to q (inr i) = inr (subst (In q) is i)

    from : (q : ℕ) → AddsAxiom S axioms p q → (IsTrue (is_axiom s) × (q ≡ p)) ⊎ In q list
    from q (inl h) =
        let there = h.0 in
        let e : Some there.stmt ≡ Some s = sym there.stands ∙ stands in
        let same : there.stmt ≡ s = cc in
        inl (subst (λ t. IsTrue (is_axiom t)) same there.kind, h.1)
    from q (inr i) = inr (subst (In q) (sym is) i)

-- if a list of lists is lent whole and comes back with the same length, it is replaced by the one
-- that came back
pub lent-lists : (n : ℕ) (s old : List (Vec ℕ)) → length s ≡ length old → n ≡ length old → take n (s ++ drop (length s) old) ≡ s
lent-lists n s old same all =
    ap (λ r. take n (s ++ r)) (drop_all (length s) old (omega (arith, same))) ∙ (ap (take n) (append-nil s) ∙ take_all n s (omega (arith, same, all)))

-- ---- the results of the calls in the form of the pass

pub have-as : (at m : ℕ) (ps qs : List ℕ) (lent old new : List (Vec ℕ)) → m ≡ at → ps ≡ qs → lent ≡ old → AreExtendedAt m ps (lists_of lent) (lists_of new) → AreExtendedAt at qs (lists_of old) (lists_of new)
have-as at m ps qs lent old new same is all have =
    subst (λ a. AreExtendedAt a qs (lists_of old) (lists_of new)) same
    (subst (λ (l : List ℕ). AreExtendedAt m l (lists_of old) (lists_of new)) is
    (subst (λ (us : List (Vec ℕ)). AreExtendedAt m ps (lists_of us) (lists_of new)) all have))

pub added-as : (S T : Database) (ps qs list : List ℕ) (lent axioms : List (Vec ℕ)) → T ≡ S → ps ≡ qs → lent ≡ axioms → ListsExactly (HoldsForSome (AddsAxiom T (lists_of lent)) ps) list → ListsExactly (HoldsForSome (AddsAxiom S (lists_of axioms)) qs) list
added-as S T ps qs list lent axioms same is all given =
    subst (λ (U : Database). ListsExactly (HoldsForSome (AddsAxiom U (lists_of axioms)) qs) list) same
    (subst (λ (l : List ℕ). ListsExactly (HoldsForSome (AddsAxiom T (lists_of axioms)) l) list) is
    (subst (λ (us : List (Vec ℕ)). ListsExactly (HoldsForSome (AddsAxiom T (lists_of us)) ps) list) all given))
