-- The positions of labels, and the marks of the statements that items cite.
use Rattle.library.proofs.Words.{◌≡◌, ◌↔◌, ◌⊎◌, ℕ, zero, suc, ◌-◌, ◌<◌, ◌≤◌, Bool, true, false, List, [], ◌∷◌, ◌++◌, length, replicate, get_or, slice_set, Option, Some, None, option_map, slice_get, refl, list_any, sym, ◌∙◌, ap, subst, arith, inl, inr, cases_eq, cases_lt, any_passes_from_place, slice_get-map, slice_get_read, length-set, length-replicate, get_or-set_same, get_or-set_other, get_or_past, Name, Stmt, Database, Carries, IsPosition, ArePositions, HasLabelsOnce, Item, Cite, Recall, item_of, items_of, IsMarked, is_marked, mark, cited_position, mark_items, ItemsCiteMarked, Marks, ItemsCite, stands-within, no-mark, map-back, item-cite, item-recall, Any-from_list_any}

-- ---- one mark

mark-within : (ms : List Bool) (k : ℕ) → get_or ms k false ≡ true → k < length ms
mark-within [] k h = absurd (let e = h in cc)
mark-within (m ∷ ms) zero h = omega arith
mark-within (m ∷ ms) (suc k) h = let w = mark-within ms k h in omega (arith, w)

pub marked-within : (ms : List Bool) (a : ℕ) → IsMarked ms a → (1 ≤ a) × (a ≤ length ms)
marked-within ms zero h = absurd (let e = h in cc)
marked-within ms (suc k) h = let w = mark-within ms k h in (omega arith, omega (arith, w))

pub mark-count : (o : Option ℕ) (ms : List Bool) → length (mark o ms) ≡ length ms
mark-count (Some (suc k)) ms = length-set ms k true
mark-count o ms = refl

set-true : (ms : List Bool) (n k : ℕ) → n ≡ k → k < length ms → get_or (slice_set ms k true) n false ≡ true
set-true ms n k e h = ap (λ i. get_or (slice_set ms k true) i false) e ∙ get_or-set_same ms k true false h

pub mark-kept : (o : Option ℕ) (ms : List Bool) (a : ℕ) → IsMarked ms a → IsMarked (mark o ms) a
mark-kept (Some (suc k)) ms (suc n) h = elim (cases_eq n k) [ inl e ↦ set-true ms n k e (subst (λ i. i < length ms) e (mark-within ms n h)) | inr apart ↦ get_or-set_other ms k n true false apart ∙ h ]
mark-kept o ms a h = h

pub mark-sound : (o : Option ℕ) (ms : List Bool) (a : ℕ) → IsMarked (mark o ms) a → IsMarked ms a ⊎ (o ≡ Some a)
mark-sound (Some (suc k)) ms (suc n) h = elim (cases_eq n k) [ inl e ↦ inr (ap (λ i. Some (suc i)) (sym e)) | inr apart ↦ inl (sym (get_or-set_other ms k n true false apart) ∙ h) ]
mark-sound o ms a h = inl h

pub mark-whole : (ms : List Bool) (a : ℕ) → 1 ≤ a → a ≤ length ms → IsMarked (mark (Some a) ms) a
mark-whole ms zero h w = absurd (omega (arith, h))
mark-whole ms (suc k) h w = get_or-set_same ms k true false (omega (arith, w))

-- a list with a mark at one position only
pub one-marked : (n a : ℕ) (ms : List Bool) → 1 ≤ a → a ≤ n → ms ≡ slice_set (replicate n false) (a - 1) true → (length ms ≡ n) × ((b : ℕ) → IsMarked ms b ↔ (b ≡ a))
one-marked n zero ms h w is = absurd (omega (arith, h))
one-marked n (suc k) ms h w is = (ap length same ∙ (mark-count (Some (suc k)) none ∙ length-replicate n false), λ b. (to b, from b))
  where
    none : List Bool
    none = replicate n false

    same : ms ≡ mark (Some (suc k)) none
    same = is ∙ ap (λ i. slice_set none i true) (let e : suc k - 1 ≡ k = omega arith in e)

    unmarked : (b : ℕ) → IsMarked none b → ⊥
    unmarked zero m = let f = m in cc
    unmarked (suc i) m = let f : false ≡ true = sym (no-mark n i) ∙ m in absurd (cc)

    to : (b : ℕ) → IsMarked ms b → b ≡ suc k
    to b m = elim (mark-sound (Some (suc k)) none b (subst (λ marks. IsMarked marks b) same m)) [
      | inl before ↦ absurd (unmarked b before)
      | inr here ↦ (let e : suc k ≡ b = (let f = here in cc) in sym e)
    ]

    from : (b : ℕ) → b ≡ suc k → IsMarked ms b
    from b e = subst (IsMarked ms) (sym e) (subst (λ marks. IsMarked marks (suc k)) (sym same) (mark-whole none (suc k) h (let l = length-replicate n false in omega (arith, l, w))))

-- ---- the items of numbers

-- an element of two joined lists is one of the first or of the second
pub get-either : {A : Type 0} (xs ys : List A) (k : ℕ) (x : A) → slice_get (xs ++ ys) k ≡ Some x → ((i : ℕ) × (slice_get xs i ≡ Some x)) ⊎ ((i : ℕ) × (slice_get ys i ≡ Some x))
get-either [] ys k x e = inr (k, e)
get-either (y ∷ xs) ys zero x e = inl (0, e)
get-either (y ∷ xs) ys (suc k) x e = elim (get-either xs ys k x e) [ inl there ↦ inl (suc there.0, there.1) | inr later ↦ inr later ]

pub position-is : (S : Database) (label : Name) (o : Option ℕ) (a : ℕ) (s : Stmt) → HasLabelsOnce S → IsPosition S label o → Carries S a s label → o ≡ Some a
position-is S label None a s once p c = absurd (p a s c)
position-is S label (Some i) a s once p c = ap Some (once i a p.0 s label p.1 c)

module _ (S : Database) (labels : List Name) (label_positions : List (Option ℕ)) (are : ArePositions S labels label_positions) (once : HasLabelsOnce S) where
  -- an item that cites a statement
  record CitesOne (item : Item) (a : ℕ) : Type 0 where
    pub label : Name
    pub cited : Stmt
    pub cites : item ≡ Cite label
    pub carries : Carries S a cited label

  place-sound : (number a : ℕ) → cited_position label_positions number ≡ Some a → CitesOne (item_of labels number) a
  place-sound zero a e = absurd (let f = e in cc)
  place-sound (suc n) a e = elim (cases_lt n (length labels)) [
    | inl less ↦ (
        let p = subst (IsPosition S (get_or labels n [])) e (are.each n less) in
        record { label = get_or labels n []; cited = p.0; cites = item-cite labels (suc n) n refl less; carries = p.1 })
    | inr more ↦ absurd (let c = are.count in let f : None ≡ Some a = sym (get_or_past label_positions n None (omega (arith, more, c))) ∙ e in cc)
  ]

  place-whole : (number a : ℕ) → CitesOne (item_of labels number) a → cited_position label_positions number ≡ Some a
  place-whole zero a c = absurd (let e = c.cites in cc)
  place-whole (suc n) a c = elim (cases_lt n (length labels)) [
    | inl less ↦ (
        let e : Cite (get_or labels n []) ≡ Cite c.label = sym (item-cite labels (suc n) n refl less) ∙ c.cites in
        let same : get_or labels n [] ≡ c.label = cc in
        position-is S (get_or labels n []) (get_or label_positions n None) a c.cited once (are.each n less) (subst (Carries S a c.cited) (sym same) c.carries))
    | inr more ↦ absurd (let e : Recall (suc (n - length labels)) ≡ Cite c.label = sym (item-recall labels (suc n) n refl more) ∙ c.cites in cc)
  ]

  items-count : (numbers : List ℕ) (old : List Bool) → length (mark_items label_positions numbers old) ≡ length old
  items-count [] old = refl
  items-count (n ∷ ns) old = items-count ns (mark (cited_position label_positions n) old) ∙ mark-count (cited_position label_positions n) old

  items-kept : (numbers : List ℕ) (old : List Bool) (a : ℕ) → IsMarked old a → IsMarked (mark_items label_positions numbers old) a
  items-kept [] old a h = h
  items-kept (n ∷ ns) old a h = items-kept ns (mark (cited_position label_positions n) old) a (mark-kept (cited_position label_positions n) old a h)

  -- one of the numbers cites the statement at the position
  abbrev HasNumber : List ℕ → ℕ → Type 0
  HasNumber numbers a = (k : ℕ) × (n : ℕ) × (slice_get numbers k ≡ Some n) × (cited_position label_positions n ≡ Some a)

  cites-number : (numbers : List ℕ) (a : ℕ) → ItemsCite S (items_of labels numbers) a → HasNumber numbers a
  cites-number numbers a c =
      let m = map-back (item_of labels) numbers c.index (Cite c.label) c.cites in
      (c.index, m.0, m.1, place-whole m.0 a (record { label = c.label; cited = c.cited; cites = sym m.2; carries = c.carries }))

  number-cites : (numbers : List ℕ) (a : ℕ) → HasNumber numbers a → ItemsCite S (items_of labels numbers) a
  number-cites numbers a h =
      let c = place-sound h.1 a h.3 in
      record { index = h.0; label = c.label; cited = c.cited; cites = slice_get-map (item_of labels) numbers h.0 ∙ (ap (option_map (item_of labels)) h.2 ∙ ap Some c.cites); carries = c.carries }

  items-sound : (numbers : List ℕ) (old : List Bool) (a : ℕ) → IsMarked (mark_items label_positions numbers old) a → IsMarked old a ⊎ HasNumber numbers a
  items-sound [] old a h = inl h
  items-sound (n ∷ ns) old a h = elim (items-sound ns (mark (cited_position label_positions n) old) a h) [
    | inl m ↦ elim (mark-sound (cited_position label_positions n) old a m) [ inl before ↦ inl before | inr e ↦ inr (0, n, refl, e) ]
    | inr c ↦ inr (suc c.0, c.1, c.2, c.3)
  ]

  items-whole : (numbers : List ℕ) (old : List Bool) (a k n : ℕ) → 1 ≤ a → a ≤ length old → slice_get numbers k ≡ Some n → cited_position label_positions n ≡ Some a → IsMarked (mark_items label_positions numbers old) a
  items-whole [] old a k n h w e at = absurd (let f = e in cc)
  items-whole (m ∷ ns) old a zero n h w e at =
      let same : m ≡ n = (let f = e in cc) in
      items-kept ns (mark (cited_position label_positions m) old) a (subst (λ o. IsMarked (mark o old) a) (sym (ap (cited_position label_positions) same ∙ at)) (mark-whole old a h w))
  items-whole (m ∷ ns) old a (suc k) n h w e at = items-whole ns (mark (cited_position label_positions m) old) a k n h (subst (λ l. a ≤ l) (sym (mark-count (cited_position label_positions m) old)) w) e at

  pub marks-items : (numbers : List ℕ) (items : List Item) (old new : List Bool) → items_of labels numbers ≡ items → mark_items label_positions [] new ≡ mark_items label_positions numbers old → Marks (ItemsCite S items) old new
  marks-items numbers items old new same after =
      subst (λ is. Marks (ItemsCite S is) old new) same
      (subst (Marks (ItemsCite S (items_of labels numbers)) old) (sym after)
      (record {
        count = items-count numbers old;
        kept = items-kept numbers old;
        sound = λ a h. elim (items-sound numbers old a h) [ inl m ↦ inl m | inr n ↦ inr (number-cites numbers a n) ];
        whole = λ a w c. let n = cites-number numbers a c in items-whole numbers old a n.0 n.1 (stands-within S a c.cited c.carries.stands).0 w n.2 n.3;
      }))

  -- ---- whether the items cite a marked statement

  marked-some : (marks : List Bool) (o : Option ℕ) → is_marked marks o ≡ true → (a : ℕ) × (o ≡ Some a) × IsMarked marks a
  marked-some marks None h = absurd (let e = h in cc)
  marked-some marks (Some a) h = (a, refl, h)

  abbrev Hits : List Bool → ℕ → Bool
  Hits marks number = is_marked marks (cited_position label_positions number)

  pub meets-items : (numbers : List ℕ) (items : List Item) (marks : List Bool) (found : Bool) → items_of labels numbers ≡ items → found ≡ list_any (Hits marks) numbers → found ≡ true ↔ ItemsCiteMarked S items marks
  meets-items numbers items marks found same is =
      subst (λ is. found ≡ true ↔ ItemsCiteMarked S is marks) same
      (forth, back)
    where
      forth : found ≡ true → ItemsCiteMarked S (items_of labels numbers) marks
      forth e =
          let h = Any-from_list_any (Hits marks) numbers (sym is ∙ e) in
          let m = marked-some marks (cited_position label_positions h.1) h.4 in
          (m.0, m.2, number-cites numbers m.0 (h.0, h.1, slice_get_read numbers _ h.0 h.1 refl h.2 (sym h.3), m.1))

      back : ItemsCiteMarked S (items_of labels numbers) marks → found ≡ true
      back m =
          let h = cites-number numbers m.0 m.2 in
          is ∙ any_passes_from_place (Hits marks) numbers h.0 h.1 h.2 (ap (is_marked marks) h.3 ∙ m.1)
