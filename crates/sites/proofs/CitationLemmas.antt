-- The statements that items cite, as a list of positions.
use Rattle.sites.proofs.ReferenceWords.{◌≡◌, ◌⊎◌, ℕ, zero, suc, ◌+◌, ◌-◌, ◌<◌, ◌≤◌, true, List, [], ◌∷◌, ◌++◌, length, take, get_or, filter_map, Option, Some, None, option_map, slice_get, cons_option, sym, ◌∙◌, ap, subst, refl, arith, inl, inr, append_assoc, cases_lt, get_or_past, take_more, filter_map-append, slice_get-map, ArePositions, HasLabelsOnce, IsPosition, Carries, In, ListsExactly, those-by, map-back, legal-labels, Good, IsProofOf, cited_position, HasItems, ItemsCite, Cites, position-is, legal-each, not-there, cites-of, cited-of, Name, Database, Stmt, Prove, item_of, items_of, Item, Cite, Recall, item-cite, item-recall, position_list, bares, is_provable, label_of, stmt_at}

-- ---- the positions of the statements that numbers cite

module _ (S : Database) (labels : List Name) (positions : List (Option ℕ)) (are : ArePositions S labels positions) (once : HasLabelsOnce S) where
  -- an item that cites a statement
  record CitesOne (item : Item) (a : ℕ) : Type 0 where
    pub label : Name
    pub cited : Stmt
    pub cites : item ≡ Cite label
    pub carries : Carries S a cited label

  position-sound : (number a : ℕ) → cited_position positions number ≡ Some a → CitesOne (item_of labels number) a
  position-sound zero a e = absurd (let f = e in cc)
  position-sound (suc n) a e = elim (cases_lt n (length labels)) [
    | inl less ↦ (
        let p = subst (IsPosition S (get_or labels n [])) e (are.each n less) in
        record { label = get_or labels n []; cited = p.0; cites = item-cite labels (suc n) n refl less; carries = p.1 })
    | inr more ↦ absurd (let c = are.count in let f : None ≡ Some a = sym (get_or_past positions n None (omega (arith, more, c))) ∙ e in cc)
  ]

  position-whole : (number a : ℕ) → CitesOne (item_of labels number) a → cited_position positions number ≡ Some a
  position-whole zero a c = absurd (let e = c.cites in cc)
  position-whole (suc n) a c = elim (cases_lt n (length labels)) [
    | inl less ↦ (
        let e : Cite (get_or labels n []) ≡ Cite c.label = sym (item-cite labels (suc n) n refl less) ∙ c.cites in
        let same : get_or labels n [] ≡ c.label = cc in
        position-is S (get_or labels n []) (get_or positions n None) a c.cited once (are.each n less) (subst (Carries S a c.cited) (sym same) c.carries))
    | inr more ↦ absurd (let e : Recall (suc (n - length labels)) ≡ Cite c.label = sym (item-recall labels (suc n) n refl more) ∙ c.cites in cc)
  ]

  -- one of the numbers stands for this position
  record HasNumber (numbers : List ℕ) (a : ℕ) : Type 0 where
    pub place : ℕ
    pub number : ℕ
    pub there : slice_get numbers place ≡ Some number
    pub stands : cited_position positions number ≡ Some a

  later : (n : ℕ) (ns : List ℕ) (a : ℕ) → HasNumber ns a → HasNumber (n ∷ ns) a
  later n ns a h = record { place = suc h.place; number = h.number; there = h.there; stands = h.stands }

  in-number : (numbers : List ℕ) (a : ℕ) → In a (filter_map (cited_position positions) numbers) → HasNumber numbers a
  in-number [] a i = absurd i
  in-number (n ∷ ns) a i = by (cited_position positions n) refl (λ j. later n ns a (in-number ns a j)) i
    where
      by : (o : Option ℕ) → cited_position positions n ≡ o → (In a (filter_map (cited_position positions) ns) → HasNumber (n ∷ ns) a) → In a (cons_option o (filter_map (cited_position positions) ns)) → HasNumber (n ∷ ns) a
      by None e go j = go j
      by (Some p) e go (inl same) = record { place = 0; number = n; there = refl; stands = e ∙ ap Some (sym same) }
      by (Some p) e go (inr j) = go j

  number-in : (numbers : List ℕ) (a k n : ℕ) → slice_get numbers k ≡ Some n → cited_position positions n ≡ Some a → In a (filter_map (cited_position positions) numbers)
  number-in [] a k n e at = absurd (let f = e in cc)
  number-in (m ∷ ns) a zero n e at =
      let same : m ≡ n = (let f = e in cc) in
      subst (λ o. In a (cons_option o (filter_map (cited_position positions) ns))) (sym (ap (cited_position positions) same ∙ at)) (inl refl)
  number-in (m ∷ ns) a (suc k) n e at = kept (cited_position positions m) (number-in ns a k n e at)
    where
      kept : (o : Option ℕ) → In a (filter_map (cited_position positions) ns) → In a (cons_option o (filter_map (cited_position positions) ns))
      kept None i = i
      kept (Some p) i = inr i

  pub those-cited : (numbers : List ℕ) (items : List Item) (list : List ℕ) → items_of labels numbers ≡ items
      → ListsExactly (λ p. In p (filter_map (cited_position positions) numbers)) list → ListsExactly (ItemsCite S items) list
  those-cited numbers items list same those =
      subst (λ is. ListsExactly (ItemsCite S is) list) same (those-by those cites back)
    where
      cites : (a : ℕ) → In a (filter_map (cited_position positions) numbers) → ItemsCite S (items_of labels numbers) a
      cites a i =
          let h = in-number numbers a i in
          let c = position-sound h.number a h.stands in
          record { index = h.place; label = c.label; cited = c.cited; cites = slice_get-map (item_of labels) numbers h.place ∙ (ap (option_map (item_of labels)) h.there ∙ ap Some c.cites); carries = c.carries }

      back : (a : ℕ) → ItemsCite S (items_of labels numbers) a → In a (filter_map (cited_position positions) numbers)
      back a c =
          let m = map-back (item_of labels) numbers c.index (Cite c.label) c.cites in
          number-in numbers a c.index m.0 m.1 (position-whole m.0 a (record { label = c.label; cited = c.cited; cites = sym m.2; carries = c.carries }))

-- ---- the proof at an index

pub proof-items : (S : Database) (at position : ℕ) (s : Stmt) (label : Name) (items : List Item) → Good S → stmt_at S at ≡ Some s → label_of s ≡ Some label → IsProofOf S label position items → HasItems S at items
proof-items S at position s label items good stands named p =
    let same : position ≡ at = legal-labels S (legal-each S good.legal) position at p.named.stmt s label p.named.carries (record { stands = stands; carried = named }) in
    subst (λ j. HasItems S j items) same p.written

pub cited-those : (S F : Database) (same : F ≡ bares S) (at : ℕ) (items : List Item) (list : List ℕ) → HasItems S at items → ListsExactly (ItemsCite F items) list → ListsExactly (Cites S at) list
cited-those S F same at items list has those = those-by those (λ a c. cites-of S F same at items a has c) (λ a c. cited-of S F same at items a has c)

not-prove : (s : Stmt) → ((label : Name) (expr proof : List Name) → s ≡ Prove label expr proof → ⊥) → is_provable s ≡ true → ⊥
not-prove (Prove label expr proof) h t = h label expr proof refl
not-prove s h t = cc

pub cites-nothing : (S : Database) (at : ℕ) (s : Stmt) → stmt_at S at ≡ Some s → ((label : Name) (expr proof : List Name) → s ≡ Prove label expr proof → ⊥) → ListsExactly (Cites S at) []
cites-nothing S at s stands other = record {
  ascends = tt;
  all = λ p c. absurd (not-there S at s stands (not-prove s other) c.has.stmt c.has.provable);
  only = λ p i. absurd i;
}

-- the positions of one more number
pub positions-more : (positions : List (Option ℕ)) (numbers : List ℕ) (i : ℕ) → i < length numbers
    → filter_map (cited_position positions) (take (i + 1) numbers) ≡ filter_map (cited_position positions) (take i numbers) ++ position_list (cited_position positions (get_or numbers i 0))
positions-more positions numbers i h =
    ap (filter_map (cited_position positions)) (take_more numbers i 0 h)
    ∙ (filter_map-append (cited_position positions) (take i numbers) (get_or numbers i 0 ∷ [])
    ∙ ap (λ l. filter_map (cited_position positions) (take i numbers) ++ l) (one (cited_position positions (get_or numbers i 0))))
  where
    one : (o : Option ℕ) → cons_option o [] ≡ position_list o
    one None = refl
    one (Some p) = refl

pub positions-pushed : (positions : List (Option ℕ)) (numbers : List ℕ) (i : ℕ) (start old new : List ℕ) (o : Option ℕ) → i < length numbers
    → old ≡ start ++ filter_map (cited_position positions) (take i numbers) → o ≡ cited_position positions (get_or numbers i 0) → new ≡ old ++ position_list o → new ≡ start ++ filter_map (cited_position positions) (take (i + 1) numbers)
positions-pushed positions numbers i start old new o h before is after =
    let front = filter_map (cited_position positions) (take i numbers) in
    let last = cited_position positions (get_or numbers i 0) in
    after
    ∙ (ap (λ l. l ++ position_list o) before
    ∙ (ap (λ q. (start ++ front) ++ position_list q) is
    ∙ (append_assoc start front (position_list last) ∙ ap (λ l. start ++ l) (sym (positions-more positions numbers i h)))))
