-- The users of a statement, and the `$a` that a proof uses: the labels of the positions that a walk
-- has marked.
use Rattle.library.proofs.Words.{◌≡◌, ◌↔◌, ◌⊎◌, ℕ, zero, suc, ◌+◌, ◌-◌, ◌<◌, ◌≤◌, Bool, true, false, cond, ◌&&◌, List, [], ◌∷◌, ◌++◌, length, replicate, get_or, false_from_ne_true, Some, None, Option, slice_get, slice_set, refl, sym, ◌∙◌, ap, subst, arith, inl, inr, append-nil, cases_eq, map-append, Name, Stmt, Prove, Database, bares, stmt_at, is_provable, stands-within, Item, label_or_empty, Good, HasItems, Cites, RestsOn, directly, through, IsUser, Rises, IsIn, AreLabelsOf, IsMarked, mark, ItemsCiteMarked, ProofCitesMarked, Axiom, IsProvable, Uses, is_axiom, IsAxiomAt, IsMarkedAxiom, get-last, get-more, set-get_or}
use Rattle.library.proofs.ProvingLemmas.{not-there}
use Rattle.library.proofs.UseMarkLemmas.{mark-count, mark-kept, mark-sound, mark-whole, one-marked, get-either, marked-within}
use Rattle.library.proofs.CitationWalkLemmas.{cites-below, cites-of, cited-of}

-- ---- one more label

rises-last : (above n : ℕ) (ns : List ℕ) → ((k : ℕ) → IsIn k ns → k < n) → above < n → Rises above ns → Rises above (ns ++ n ∷ [])
rises-last above n [] below h r = (h, tt)
rises-last above n (m ∷ ns) below h r = (r.0, rises-last m n ns (λ k i. below k (suc i.0, i.1)) (below m (0, refl)) r.1)

in-front : (k : ℕ) (ns ms : List ℕ) → IsIn k ns → IsIn k (ns ++ ms)
in-front k ns ms i = (i.0, get-more ns ms i.0 k i.1)

in-either : (k n : ℕ) (ns : List ℕ) → IsIn k (ns ++ n ∷ []) → IsIn k ns ⊎ (k ≡ n)
in-either k n ns i = elim (get-either ns (n ∷ []) i.0 k i.1) [ inl there ↦ inl there | inr last ↦ inr (only last.0 last.1) ]
  where
    only : (p : ℕ) → slice_get (n ∷ []) p ≡ Some k → k ≡ n
    only zero e = let f = e in let same : n ≡ k = cc in sym same
    only (suc p) e = absurd (let f = e in cc)

-- the positions up to p that have the property
abbrev pub Upto : (ℕ → Type 0) → ℕ → ℕ → Type 0
Upto P p j = (j ≤ p) × P j

module _ (S : Database) (P : ℕ → Type 0) (p : ℕ) (labels : List Name) (are : AreLabelsOf S (Upto P p) labels) where
  -- each position that is listed so far is below the next one
  below : (k : ℕ) → IsIn k are.positions → k < suc p
  below k i = let h = ((are.passing k).0 i).0 in omega (arith, h)

  labels-take : P (suc p) → AreLabelsOf S (Upto P (suc p)) (labels ++ label_or_empty (stmt_at S (suc p)) ∷ [])
  labels-take passes =
      record {
        positions = are.positions ++ suc p ∷ [];
        rising = rises-last 0 (suc p) are.positions below (omega arith) are.rising;
        passing = λ k. (forth k, back k);
        labelled = ap (λ ls. ls ++ label_or_empty (stmt_at S (suc p)) ∷ []) are.labelled ∙ sym (map-append (λ a. label_or_empty (stmt_at S a)) are.positions (suc p ∷ []));
      }
    where
      forth : (k : ℕ) → IsIn k (are.positions ++ suc p ∷ []) → Upto P (suc p) k
      forth k i = elim (in-either k (suc p) are.positions i) [
        | inl there ↦ (let u = (are.passing k).0 there in let h = u.0 in (omega (arith, h), u.1))
        | inr same ↦ (omega (arith, same), subst P (sym same) passes)
      ]

      back : (k : ℕ) → Upto P (suc p) k → IsIn k (are.positions ++ suc p ∷ [])
      back k u = elim (cases_eq k (suc p)) [
        | inl same ↦ subst (λ n. IsIn n (are.positions ++ suc p ∷ [])) (sym same) (length are.positions, get-last are.positions (suc p))
        | inr apart ↦ in-front k are.positions (suc p ∷ []) ((are.passing k).1 (let h = u.0 in omega (arith, h, apart), u.1))
      ]

  labels-pass : (P (suc p) → ⊥) → AreLabelsOf S (Upto P (suc p)) labels
  labels-pass fails = record { positions = are.positions; rising = are.rising; passing = λ k. (forth k, back k); labelled = are.labelled }
    where
      forth : (k : ℕ) → IsIn k are.positions → Upto P (suc p) k
      forth k i = let u = (are.passing k).0 i in let h = u.0 in (omega (arith, h), u.1)

      back : (k : ℕ) → Upto P (suc p) k → IsIn k are.positions
      back k u = elim (cases_eq k (suc p)) [
        | inl same ↦ absurd (fails (subst P same u.1))
        | inr apart ↦ (are.passing k).1 (let h = u.0 in omega (arith, h, apart), u.1)
      ]

  -- the label of the next position is added if it has the property
  pub labels-next : (b : Bool) → (b ≡ true → P (suc p)) → (P (suc p) → b ≡ true) → AreLabelsOf S (Upto P (suc p)) (labels ++ cond b (label_or_empty (stmt_at S (suc p)) ∷ []) [])
  labels-next true passes shown = labels-take (passes refl)
  labels-next false passes shown = subst (AreLabelsOf S (Upto P (suc p))) (sym (append-nil labels)) (labels-pass (λ h. let f = shown h in let e : false ≡ true = f in cc))

-- if no position up to p has the property, there are no labels
pub labels-none : (S : Database) (P : ℕ → Type 0) (p : ℕ) → ((j : ℕ) → j ≤ p → P j → ⊥) → AreLabelsOf S (Upto P p) []
labels-none S P p none = record { positions = []; rising = tt; passing = λ j. ((λ i. absurd (let e = i.1 in cc)), λ u. absurd (none j u.0 u.1)); labelled = refl }

-- the labels for a property are those for an equivalent property
pub labels-same : (S : Database) (P Q : ℕ → Type 0) (labels : List Name) → AreLabelsOf S P labels → ((a : ℕ) → P a ↔ Q a) → AreLabelsOf S Q labels
labels-same S P Q labels are same =
    record { positions = are.positions; rising = are.rising; passing = λ a. ((λ i. (same a).0 ((are.passing a).0 i)), λ q. (are.passing a).1 ((same a).1 q)); labelled = are.labelled }

-- ---- the walk towards the last position

-- a position that has to be marked: that of the query, or that of a user up to p if all users are
-- meant
abbrev IsSought : Database → Bool → ℕ → ℕ → ℕ → Type 0
IsSought S all a p b = (b ≡ a) ⊎ ((b ≤ p) × (all ≡ true) × RestsOn S b a)

-- the positions up to p are done
pub record IsSearched (S : Database) (all : Bool) (a p : ℕ) (marks : List Bool) (labels : List Name) : Type 0 where
  pub count : length marks ≡ length S
  pub marked : (b : ℕ) → IsMarked marks b ↔ IsSought S all a p b
  pub listed : AreLabelsOf S (Upto (IsUser S all a) p) labels

-- the next statement is a user if and only if its proof cites a marked statement
user-meets : (S : Database) (all : Bool) (a p : ℕ) (marks : List Bool) (labels : List Name) → Good S → IsSearched S all a p marks labels → IsUser S all a (suc p) → ProofCitesMarked S (suc p) marks
user-meets S true a p marks labels good w (directly c) = (a, (w.marked a).1 (inl refl), c)
user-meets S true a p marks labels good w (through {b = b} c r) = (b, (w.marked b).1 (inr (let less = cites-below S (suc p) b good c in omega (arith, less), refl, r)), c)
user-meets S false a p marks labels good w c = (a, (w.marked a).1 (inl refl), c)

meets-user : (S : Database) (all : Bool) (a p : ℕ) (marks : List Bool) (labels : List Name) → IsSearched S all a p marks labels → ProofCitesMarked S (suc p) marks → IsUser S all a (suc p)
meets-user S all a p marks labels w (b, m, c) = by all ((w.marked b).0 m)
  where
    by : (all : Bool) → IsSought S all a p b → IsUser S all a (suc p)
    by true (inl same) = directly (subst (Cites S (suc p)) same c)
    by true (inr q) = through c q.2
    by false (inl same) = subst (Cites S (suc p)) same c
    by false (inr q) = absurd (let e = q.1 in cc)

-- a position is marked only if its proof was found to cite a marked statement and all users are
-- meant
when-some : (found all : Bool) (at b : ℕ) → cond (found && all) (Some at) None ≡ Some b → (found ≡ true) × (all ≡ true) × (at ≡ b)
when-some true true at b e = (refl, refl, let f = e in cc)
when-some found all at b e = absurd (let f = e in cc)

-- if the proof cites a marked statement, its label is added, and it is marked too if all users are
-- meant
module _ (S : Database) (all : Bool) (a p : ℕ) (marks marks' : List Bool) (labels labels' : List Name) (good : Good S) (within : suc p ≤ length S) (w : IsSearched S all a p marks labels) (found : Bool)
    (meets : found ≡ true ↔ ProofCitesMarked S (suc p) marks) (set : marks' ≡ mark (cond (found && all) (Some (suc p)) None) marks) (added : labels' ≡ labels ++ cond found (label_or_empty (stmt_at S (suc p)) ∷ []) []) where
  abbrev Here : Option ℕ
  Here = cond (found && all) (Some (suc p)) None

  uses : found ≡ true → IsUser S all a (suc p)
  uses e = meets-user S all a p marks labels w (meets.0 e)

  met : IsUser S all a (suc p) → found ≡ true
  met u = meets.1 (user-meets S all a p marks labels good w u)

  later : (b : ℕ) → IsSought S all a p b → IsSought S all a (suc p) b
  later b (inl same) = inl same
  later b (inr q) = inr (let h = q.0 in omega (arith, h), q.1, q.2)

  sought : (b : ℕ) → IsMarked marks' b → IsSought S all a (suc p) b
  sought b m = elim (mark-sound Here marks b (subst (λ ms. IsMarked ms b) set m)) [
    | inl before ↦ later b ((w.marked b).0 before)
    | inr is ↦ (let q = when-some found all (suc p) b is in let same = q.2 in inr (omega (arith, same), q.1, subst (λ k. RestsOn S k a) same (subst (λ b. IsUser S b a (suc p)) q.1 (uses q.0))))
  ]

  kept : (b : ℕ) → IsMarked marks b → IsMarked marks' b
  kept b m = subst (λ ms. IsMarked ms b) (sym set) (mark-kept Here marks b m)

  marked : (b : ℕ) → IsSought S all a (suc p) b → IsMarked marks' b
  marked b (inl same) = kept b ((w.marked b).1 (inl same))
  marked b (inr q) = elim (cases_eq b (suc p)) [
    | inl same ↦ (
        let f = met (subst (λ b. IsUser S b a (suc p)) (sym q.1) (subst (λ k. RestsOn S k a) same q.2)) in
        let which : Here ≡ Some (suc p) = ap (λ x. cond (x && all) (Some (suc p)) None) f ∙ ap (λ x. cond x (Some (suc p)) None) q.1 in
        subst (IsMarked marks') (sym same) (subst (λ ms. IsMarked ms (suc p)) (sym (set ∙ ap (λ o. mark o marks) which)) (mark-whole marks (suc p) (omega arith) (let c = w.count in omega (arith, within, c)))))
    | inr apart ↦ kept b ((w.marked b).1 (inr (let h = q.0 in omega (arith, h, apart), q.1, q.2)))
  ]

  searched-next : IsSearched S all a (suc p) marks' labels'
  searched-next =
      record {
        count = ap length set ∙ (mark-count Here marks ∙ w.count);
        marked = λ b. (sought b, marked b);
        listed = subst (AreLabelsOf S (Upto (IsUser S all a) (suc p))) (sym added) (labels-next S (IsUser S all a) p labels w.listed found uses met);
      }

-- ---- the beginning and the end of the walk

rests-above : (S : Database) (a j : ℕ) → Good S → RestsOn S j a → a < j
rests-above S a j good (directly c) = cites-below S j a good c
rests-above S a j good (through {b = b} c r) = let less = cites-below S j b good c in let rest = rests-above S a b good r in omega (arith, less, rest)

user-above : (S : Database) (all : Bool) (a j : ℕ) → Good S → IsUser S all a j → a < j
user-above S false a j good c = cites-below S j a good c
user-above S true a j good r = rests-above S a j good r

user-within : (S : Database) (all : Bool) (a j : ℕ) → IsUser S all a j → (i : List Item) × HasItems S j i
user-within S false a j c = (c.items, c.has)
user-within S true a j (directly c) = (c.items, c.has)
user-within S true a j (through c r) = (c.items, c.has)

pub search-start : (S : Database) (all : Bool) (a : ℕ) (marks : List Bool) → Good S → 1 ≤ a → a ≤ length S → marks ≡ slice_set (replicate (length S) false) (a - 1) true → IsSearched S all a a marks []
search-start S all a marks good h w is =
    let o = one-marked (length S) a marks h w is in
    record {
      count = o.0;
      marked = λ b. ((λ m. inl ((o.1 b).0 m)), λ q. elim q [ inl e ↦ (o.1 b).1 e | inr r ↦ absurd (let above = user-above S true a b good r.2 in let upto = r.0 in omega (arith, above, upto)) ]);
      listed = labels-none S (IsUser S all a) a (λ j upto u. let above = user-above S all a j good u in omega (arith, above, upto));
    }

pub search-end : (S : Database) (all : Bool) (a p : ℕ) (marks : List Bool) (labels : List Name) → length S ≤ p → IsSearched S all a p marks labels → AreLabelsOf S (IsUser S all a) labels
search-end S all a p marks labels done w = labels-same S (Upto (IsUser S all a) p) (IsUser S all a) labels w.listed (λ j. ((λ u. u.1), λ u. (within j u, u)))
  where
    within : (j : ℕ) → IsUser S all a j → j ≤ p
    within j u = let i = user-within S all a j u in let s = stands-within S j i.1.stmt i.1.provable.stands in omega (arith, s.1, done)

-- ---- one position

module _ (S F : Database) (same : F ≡ bares S) (at : ℕ) (marks : List Bool) where
  pub proof-meets : (items : List Item) → HasItems S at items → ItemsCiteMarked F items marks ↔ ProofCitesMarked S at marks
  proof-meets items has = ((λ m. (m.0, m.1, cites-of S F same at items m.0 has m.2)), λ m. (m.0, m.1, cited-of S F same at items m.0 has m.2))

pub not-provable : (s : Stmt) → ((label : Name) (expr proof : List Name) → s ≡ Prove label expr proof → ⊥) → is_provable s ≡ true → ⊥
not-provable (Prove label expr proof) other h = other label expr proof refl
not-provable s other h = let e = h in cc

-- setting the bit of an unmarked position marks it if all users are meant
set-all : (all : Bool) (ms : List Bool) (k : ℕ) → get_or ms k false ≡ false → slice_set ms k all ≡ mark (cond all (Some (suc k)) None) ms
set-all true ms k h = refl
set-all false ms k h = ap (slice_set ms k) (sym h) ∙ set-get_or ms k false

-- the next statement is no `$p`, or its proof cites no marked statement, or its proof cites one
module _ (S : Database) (all : Bool) (a p : ℕ) (marks : List Bool) (labels : List Name) (good : Good S) (within : p < length S) (w : IsSearched S all a p marks labels) where
  next : p + 1 ≡ suc p
  next = omega arith

  noted : (marks' : List Bool) (labels' : List Name) (found : Bool) → (found ≡ true ↔ ProofCitesMarked S (suc p) marks) → marks' ≡ mark (cond (found && all) (Some (suc p)) None) marks
      → labels' ≡ labels ++ cond found (label_or_empty (stmt_at S (suc p)) ∷ []) [] → IsSearched S all a (p + 1) marks' labels'
  noted marks' labels' found meets set added = subst (λ k. IsSearched S all a k marks' labels') (sym next) (searched-next S all a p marks marks' labels labels' good (omega (arith, within)) w found meets set added)

  misses : (false ≡ true ↔ ProofCitesMarked S (suc p) marks) → IsSearched S all a (p + 1) marks labels
  misses meets = noted marks labels false meets refl (sym (append-nil labels))

  pub search-past : (s : Stmt) → stmt_at S (p + 1) ≡ Some s → ((label : Name) (expr proof : List Name) → s ≡ Prove label expr proof → ⊥) → IsSearched S all a (p + 1) marks labels
  search-past s stands other = misses ((λ e. absurd (let f = e in cc)), λ m. absurd (none m.0 m.2))
    where
      none : (b : ℕ) → Cites S (suc p) b → ⊥
      none b c = not-there S (suc p) s (subst (λ n. stmt_at S n ≡ Some s) next stands) (not-provable s other) c.has.stmt c.has.provable

  module _ (found : Bool) (lent : List Bool) (same : lent ≡ marks) (meets : found ≡ true ↔ ProofCitesMarked S (p + 1) lent) where
    told : (b : Bool) → found ≡ b → b ≡ true ↔ ProofCitesMarked S (suc p) marks
    told b e = subst (λ b. b ≡ true ↔ ProofCitesMarked S (suc p) marks) e (subst (λ ms. found ≡ true ↔ ProofCitesMarked S (suc p) ms) same (subst (λ n. found ≡ true ↔ ProofCitesMarked S n lent) next meets))

    pub search-miss : found ≡ false → IsSearched S all a (p + 1) marks labels
    search-miss e = misses (told false e)

    pub search-user : (s : Stmt) (label : Name) → stmt_at S (p + 1) ≡ Some s → label_or_empty (Some s) ≡ label → a ≤ p → found ≡ true → IsSearched S all a (p + 1) (slice_set marks p all) (labels ++ label ∷ [])
    search-user s label stands is above e =
        noted (slice_set marks p all) (labels ++ label ∷ []) true (told true e) (set-all all marks p unmarked) (ap (λ l. labels ++ l ∷ []) (sym (ap label_or_empty (subst (λ n. stmt_at S n ≡ Some s) next stands) ∙ is)))
      where
        unmarked : get_or marks p false ≡ false
        unmarked = false_from_ne_true (get_or marks p false) (λ m. elim ((w.marked (suc p)).0 m) [ inl is ↦ absurd (omega (arith, above, is)) | inr q ↦ absurd (let h = q.0 in omega (arith, h)) ])

-- ---- the `$a` that are marked

kind-of : (S : Database) (a : ℕ) (s : Stmt) → stmt_at S a ≡ Some s → IsAxiomAt S a → is_axiom s ≡ true
kind-of S a s stands h = ap is_axiom (let e : Some s ≡ Some h.stmt = sym stands ∙ h.stands in let same : s ≡ h.stmt = cc in same) ∙ h.kind

-- a statement that is no `$a` adds no label
pub no-axiom : (s : Stmt) (labels : List Name) → ((label : Name) (expr : List Name) → s ≡ Axiom label expr → ⊥) → labels ++ cond (is_axiom s) (label_or_empty (Some s) ∷ []) [] ≡ labels
no-axiom (Axiom label expr) labels other = absurd (other label expr refl)
no-axiom s labels other = append-nil labels

module _ (S : Database) (ms : List Bool) where
  -- the labels of the marked `$a` up to a position
  abbrev pub AreListed : ℕ → List Name → Type 0
  AreListed p labels = AreLabelsOf S (Upto (IsMarkedAxiom S ms) p) labels

  pub listed-none : AreListed 0 []
  listed-none = labels-none S (IsMarkedAxiom S ms) 0 (λ j upto h. let w = marked-within ms j h.0 in omega (arith, upto, w.0))

  pub listed-more : (p : ℕ) (labels labels' : List Name) (s : Stmt) → slice_get S p ≡ Some s → get_or ms p false ≡ true
      → labels' ≡ labels ++ cond (is_axiom s) (label_or_empty (Some s) ∷ []) [] → AreListed p labels → AreListed (p + 1) labels'
  listed-more p labels labels' s stands marked added are =
      subst (λ n. AreListed n labels') (let e : suc p ≡ p + 1 = omega arith in e)
      (subst (AreListed (suc p)) (sym (added ∙ ap (λ o. labels ++ cond (is_axiom s) (label_or_empty o ∷ []) []) (sym stands)))
      (labels-next S (IsMarkedAxiom S ms) p labels are (is_axiom s) (λ kind. (marked, record { stmt = s; stands = stands; kind = kind })) (λ h. kind-of S (suc p) s stands h.1)))

  pub listed-skip : (p : ℕ) (labels : List Name) → get_or ms p false ≡ false → AreListed p labels → AreListed (p + 1) labels
  listed-skip p labels unset are =
      subst (λ n. AreListed n labels) (let e : suc p ≡ p + 1 = omega arith in e)
      (subst (AreListed (suc p)) (append-nil labels)
      (labels-next S (IsMarkedAxiom S ms) p labels are false (λ e. absurd (let f = e in cc)) (λ h. sym unset ∙ h.0)))

  pub listed-all : (p : ℕ) (labels : List Name) → length ms ≤ p → AreListed p labels → AreLabelsOf S (IsMarkedAxiom S ms) labels
  listed-all p labels over are =
      labels-same S (Upto (IsMarkedAxiom S ms) p) (IsMarkedAxiom S ms) labels are (λ a. ((λ u. u.1), λ h. (let w = marked-within ms a h.0 in omega (arith, w.1, over), h)))

-- ---- the statements that are used

not-both : (s : Stmt) → is_provable s ≡ true → is_axiom s ≡ true → ⊥
not-both (Axiom label expr) h k = let e = h in cc
not-both s h k = let e = k in cc

pub are-used : (S : Database) (j : ℕ) (s : Stmt) (ms : List Bool) (labels : List Name) → IsProvable S j s → ((a : ℕ) → IsMarked ms a ↔ ((a ≡ j) ⊎ RestsOn S j a)) → AreLabelsOf S (IsMarkedAxiom S ms) labels
    → AreLabelsOf S (Uses S j) labels
are-used S j s ms labels provable reached are = labels-same S (IsMarkedAxiom S ms) (Uses S j) labels are (λ a. (forth a, λ u. ((reached a).1 (inr u.0), u.1)))
  where
    forth : (a : ℕ) → IsMarkedAxiom S ms a → Uses S j a
    forth a h = elim ((reached a).0 h.0) [
      | inl same ↦ absurd (not-both s provable.provable (kind-of S j s provable.stands (subst (IsAxiomAt S) same h.1)))
      | inr rests ↦ (rests, h.1)
    ]
