-- A proof cites earlier statements only; a walk towards the first position marks the statements
-- that citations lead to.
use Rattle.library.proofs.Words.{◌≡◌, ◌↔◌, ◌⊎◌, ℕ, zero, suc, ◌-◌, ◌<◌, ◌≤◌, Bool, true, false, List, [], ◌∷◌, ◌++◌, length, get_or, Some, option_map, slice_get, slice_set, replicate, refl, sym, ◌∙◌, ap, subst, arith, inl, inr, cases_eq, get_or_default, Name, Stmt, Database, bare, bares, stmt_at, label_of, proof_of, stmt_at-bares, Carries, HasLabelsOnce, Item, Cite, Recall, Mark, one_list, Derivation, Derivations, Spells, SpellsAll, cites_hypothesis, cites_assertion, recalls, marks, spells_none, spells_more, mandatory_labels, IsRight, Good, HasItems, ItemsCite, Cites, RestsOn, directly, through, IsMarked, is_marked, Marks, label_of-bare, legal-labels}
use Rattle.library.proofs.FrontLemmas.{active-below}
use Rattle.library.proofs.UseMarkLemmas.{marked-within, one-marked, get-either}
use Rattle.library.proofs.ProvingLemmas.{unbare, written-of}
use Rattle.library.proofs.JoinedRulesLemmas.{legal-each}

-- ---- labels, with proofs and without

pub carries-bare : (S : Database) (a : ℕ) (s : Stmt) (label : Name) → Carries S a s label → Carries (bares S) a (bare s) label
carries-bare S a s label c = record { stands = stmt_at-bares S a ∙ ap (option_map bare) c.stands; carried = label_of-bare s ∙ c.carried }

pub carries-whole : (S : Database) (a : ℕ) (s : Stmt) (label : Name) → Carries (bares S) a s label → (t : Stmt) × Carries S a t label
carries-whole S a s label c =
    let u = unbare (stmt_at S a) s (sym (stmt_at-bares S a) ∙ c.stands) in
    (u.0, record { stands = u.1; carried = sym (label_of-bare u.0) ∙ (ap label_of u.2 ∙ c.carried) })

-- no two statements of a good list carry the same label
pub labels-once : (S : Database) → Good S → HasLabelsOnce (bares S)
labels-once S good i j s r label p q =
    let one = carries-whole S i s label p in
    let other = carries-whole S j r label q in
    legal-labels S (legal-each S good.legal) i j one.0 other.0 label one.1 other.1

-- ---- a proof has one list of items

pub one-items : (S : Database) (at : ℕ) (items other : List Item) → HasItems S at items → HasItems S at other → items ≡ other
one-items S at items other p q =
    one_list (proof_of p.stmt) (mandatory_labels (bares S) at p.stmt) items other p.written (written-of S at p.stmt (proof_of p.stmt) p.provable refl other q)

-- ---- a proof cites earlier statements

module _ (S : Database) (at : ℕ) where
  -- each label that the items cite is that of an earlier statement
  abbrev AllEarlier : List Item → Type 0
  AllEarlier items = (k : ℕ) (label : Name) → slice_get items k ≡ Some (Cite label) → (i : ℕ) × (s : Stmt) × Carries S i s label × (i < at)

  earlier-append : (front rest : List Item) → AllEarlier front → AllEarlier rest → AllEarlier (front ++ rest)
  earlier-append front rest p q k label e = elim (get-either front rest k (Cite label) e) [ inl there ↦ p there.0 label there.1 | inr later ↦ q later.0 label later.1 ]

  earlier-one : (item : Item) → ((label : Name) → item ≡ Cite label → (i : ℕ) × (s : Stmt) × Carries S i s label × (i < at)) → AllEarlier (item ∷ [])
  earlier-one item known zero label e = known label (let f = e in cc)
  earlier-one item known (suc k) label e = absurd (let f = e in cc)

  earlier-cite : (label : Name) (i : ℕ) (s : Stmt) → Carries S i s label → i < at → AllEarlier (Cite label ∷ [])
  earlier-cite label i s c less = earlier-one (Cite label) (λ other e. (i, s, subst (Carries S i s) (let same : label ≡ other = cc in same) c, less))

  mutual
    spells-earlier : {marked after : List Derivation} {items : List Item} {t : Derivation} {weight : ℕ} → Spells S at marked items t after weight → AllEarlier items
    spells-earlier (cites_hypothesis {i = i} {label = label} s e carries active ends) = earlier-cite label i s carries (active-below S i at active.active)
    spells-earlier (cites_assertion {a = a} s e label front front_weight carries citable ends all whole weighs) =
        subst AllEarlier (sym whole) (earlier-append front (Cite label ∷ []) (spells-all-earlier all) (earlier-cite label a s carries citable.earlier))
    spells-earlier (recalls {k = k} e found ends) = earlier-one (Recall (suc k)) (λ label e. absurd (let f = e in cc))
    spells-earlier (marks front between one whole added) = subst AllEarlier (sym whole) (earlier-append front (Mark ∷ []) (spells-earlier one) (earlier-one Mark (λ label e. absurd (let f = e in cc))))

    spells-all-earlier : {marked after : List Derivation} {items : List Item} {kids : Derivations} {weight : ℕ} → SpellsAll S at marked items kids after weight → AllEarlier items
    spells-all-earlier spells_none = λ k label e. absurd (let f = e in cc)
    spells-all-earlier (spells_more first rest between first_weight rest_weight one all whole weighs) =
        subst AllEarlier (sym whole) (earlier-append first rest (spells-earlier one) (spells-all-earlier all))

  pub right-earlier : (items : List Item) → IsRight S at items → AllEarlier items
  right-earlier items (t, d) = spells-earlier d.spelled

pub cites-below : (S : Database) (at a : ℕ) → Good S → Cites S at a → a < at
cites-below S at a good c =
    let p = good.proved at c.has.stmt c.has.provable in
    let same = one-items S at p.items c.items (record { stmt = p.stmt; provable = p.provable; written = p.written }) c.has in
    let one = c.one in
    let e = right-earlier (bares S) at p.items p.right one.index one.label (ap (λ is. slice_get is one.index) same ∙ one.cites) in
    let here : a ≡ e.0 = labels-once S good a e.0 (bare one.cited) e.1 one.label (carries-bare S a one.cited one.label one.carries) e.2 in
    omega (arith, here, e.3)

-- ---- the marks of one proof

module _ (S F : Database) (same : F ≡ bares S) (at : ℕ) where
  pub cites-of : (items : List Item) (a : ℕ) → HasItems S at items → ItemsCite F items a → Cites S at a
  cites-of items a has c =
      let w = carries-whole S a c.cited c.label (subst (λ U. Carries U a c.cited c.label) same c.carries) in
      record { items = items; has = has; one = record { index = c.index; label = c.label; cited = w.0; cites = c.cites; carries = w.1 } }

  pub cited-of : (items : List Item) (a : ℕ) → HasItems S at items → Cites S at a → ItemsCite F items a
  cited-of items a has c =
      let one = c.one in
      record {
        index = one.index;
        label = one.label;
        cited = bare one.cited;
        cites = ap (λ is. slice_get is one.index) (one-items S at items c.items has c.has) ∙ one.cites;
        carries = subst (λ U. Carries U a (bare one.cited) one.label) (sym same) (carries-bare S a one.cited one.label one.carries);
      }

  pub marks-proof : (items : List Item) (old new : List Bool) → HasItems S at items → Marks (ItemsCite F items) old new → Marks (Cites S at) old new
  marks-proof items old new has m =
      record {
        count = m.count;
        kept = m.kept;
        sound = λ a h. elim (m.sound a h) [ inl before ↦ inl before | inr c ↦ inr (cites-of items a has c) ];
        whole = λ a within c. m.whole a within (cited-of items a has c);
      }

-- if no statement has the property, the marks stay the same
pub marks-nothing : (P : ℕ → Type 0) (ms : List Bool) → ((a : ℕ) → P a → ⊥) → Marks P ms ms
marks-nothing P ms none = record { count = refl; kept = λ a h. h; sound = λ a h. inl h; whole = λ a within p. absurd (none a p) }

-- ---- the walk

rests-more : (S : Database) (j b a : ℕ) → RestsOn S j b → Cites S b a → RestsOn S j a
rests-more S j b a (directly d) c = through d (directly c)
rests-more S j b a (through {b = m} d r) c = through d (rests-more S m b a r c)

-- the positions above p are done: j is marked, and otherwise only statements that j rests on; those
-- that marked ones cite are
pub record IsWalked (S : Database) (j p : ℕ) (ms : List Bool) : Type 0 where
  pub count : length ms ≡ j
  pub below : p ≤ j
  pub start : IsMarked ms j
  pub sound : (a : ℕ) → IsMarked ms a → (a ≡ j) ⊎ RestsOn S j a
  pub closed : (b a : ℕ) → p < b → IsMarked ms b → Cites S b a → IsMarked ms a

pub walk-start : (S : Database) (j : ℕ) (ms : List Bool) → 1 ≤ j → ms ≡ slice_set (replicate j false) (j - 1) true → IsWalked S j j ms
walk-start S j ms h is =
    let o = one-marked j j ms h (omega arith) is in
    record {
      count = o.0;
      below = omega arith;
      start = (o.1 j).1 refl;
      sound = λ a m. inl ((o.1 a).0 m);
      closed = λ b a above m c. absurd (let e = (o.1 b).0 m in omega (arith, above, e));
    }

-- one step of the walk: if position p is marked, the statements that it cites are marked
pub walk-step : (S : Database) (j p : ℕ) (ms ms' : List Bool) → Good S → 0 < p → Marks (λ a. IsMarked ms p × Cites S p a) ms ms' → IsWalked S j p ms → IsWalked S j (p - 1) ms'
walk-step S j p ms ms' good positive m w =
    record {
      count = m.count ∙ w.count;
      below = let l = w.below in omega (arith, l);
      start = m.kept j w.start;
      sound = λ a h. elim (m.sound a h) [ inl before ↦ w.sound a before | inr c ↦ inr (rests a c.1 (w.sound p c.0)) ];
      closed = λ b a above h c. elim (m.sound b h) [
        | inl before ↦ elim (cases_eq b p) [ inl e ↦ here b a e before c | inr apart ↦ m.kept a (w.closed b a (omega (arith, above, apart, positive)) before c) ]
        | inr d ↦ absurd (let less = cites-below S p b good d.1 in omega (arith, less, above, positive))
      ];
    }
  where
    rests : (a : ℕ) → Cites S p a → (p ≡ j) ⊎ RestsOn S j p → RestsOn S j a
    rests a c (inl same) = directly (subst (λ k. Cites S k a) same c)
    rests a c (inr r) = rests-more S j p a r c

    here : (b a : ℕ) → b ≡ p → IsMarked ms b → Cites S b a → IsMarked ms' a
    here b a e marked c =
        let d = subst (λ n. Cites S n a) e c in
        let less = cites-below S p a good d in
        m.whole a (omega (arith, less, w.below, w.count)) (subst (IsMarked ms) e marked, d)

pub walk-end : (S : Database) (j p : ℕ) (ms : List Bool) → p ≡ 0 → IsWalked S j p ms → (a : ℕ) → IsMarked ms a ↔ ((a ≡ j) ⊎ RestsOn S j a)
walk-end S j p ms done w a = (w.sound a, reached)
  where
    cited : (b c : ℕ) → IsMarked ms b → Cites S b c → IsMarked ms c
    cited b c m one = w.closed b c (let l = marked-within ms b m in omega (arith, done, l.0)) m one

    from : (b : ℕ) → IsMarked ms b → RestsOn S b a → IsMarked ms a
    from b m (directly c) = cited b a m c
    from b m (through {b = d} c r) = from d (cited b d m c) r

    reached : (a ≡ j) ⊎ RestsOn S j a → IsMarked ms a
    reached (inl same) = subst (IsMarked ms) (sym same) w.start
    reached (inr r) = from j w.start r

-- ---- one position of the walk

-- the bit at the index of a position is its mark
bit-marked : (ms : List Bool) (p : ℕ) (bit : Bool) → 0 < p → p ≤ length ms → bit ≡ get_or ms (p - 1) bit → is_marked ms (Some p) ≡ bit
bit-marked ms zero bit h within is = absurd (omega (arith, h))
bit-marked ms (suc n) bit h within is =
    let less : suc n - 1 ≡ n = omega arith in
    get_or_default ms n false bit (omega (arith, within)) ∙ sym (is ∙ ap (λ k. get_or ms k bit) less)

pub step-pass : (S : Database) (j p : ℕ) (ms ms' : List Bool) (bit : Bool) → Good S → 0 < p → ms' ≡ ms → bit ≡ get_or ms (p - 1) bit → bit ≡ false → IsWalked S j p ms → IsWalked S j (p - 1) ms'
step-pass S j p ms ms' bit good h e is unset w =
    let bit = bit-marked ms p bit h (omega (arith, w.count, w.below)) is in
    subst (IsWalked S j (p - 1)) (sym e)
    (walk-step S j p ms ms good h (marks-nothing (λ a. IsMarked ms p × Cites S p a) ms (λ a c. absurd (let f : true ≡ false = sym c.0 ∙ (bit ∙ unset) in cc))) w)

pub step-proof : (S : Database) (j p : ℕ) (ms lent ms' ms'' : List Bool) (bit : Bool) → Good S → 0 < p → lent ≡ ms → ms'' ≡ ms' → bit ≡ get_or ms (p - 1) bit → bit ≡ true
    → Marks (Cites S p) lent ms' → IsWalked S j p ms → IsWalked S j (p - 1) ms''
step-proof S j p ms lent ms' ms'' bit good h lending e is set done w =
    let count = w.count in
    let marked : IsMarked ms p = bit-marked ms p bit h (omega (arith, count, w.below)) is ∙ set in
    let m = subst (λ l. Marks (Cites S p) l ms') lending done in
    subst (IsWalked S j (p - 1)) (sym e)
    (walk-step S j p ms ms' good h (record {
      count = m.count;
      kept = m.kept;
      sound = λ a b. elim (m.sound a b) [ inl before ↦ inl before | inr c ↦ inr (marked, c) ];
      whole = λ a within c. m.whole a within c.1;
    }) w)
