-- The highest report of a slot, computed from the first report to the last, and the slot after the
-- greatest reported one.
use Rattle.synod.proofs.Words.{◌≡◌, ◌≢◌, ℕ, zero, suc, ◌+◌, ◌-◌, ◌<◌, ◌≤◌, max, min, Bool, true, false, ◌==◌, List, [], ◌∷◌, ◌++◌, length, take, drop, drop-cons, add-one, Option, Some, None, refl, ap, sym, ◌∙◌, subst, arith, if◌then◌else◌, append_assoc, append-nil, get_or, set, length-set, slice_index_or, eqb-true, le_of_suc-le-suc, ◌⊎◌, inl, inr, drop_of_length-le, length-take-le, get_or-set_same, get_or-set_other, get_or_default, take_all, nat_tests, AllByRecursion, Bor, option_copied, Ballot, SlotReport, is_below, Packet, Accept, to_all, accept_posts, higher, highest_at, reported_value, top_or_zero, top_or_first, proposed_values, entry_at, joined_pages, SLOTS, reports_of_pages, IsHighestTable, as_entries, IsLead}

-- The order of ballots, as a test.

under-under : (a b c : Ballot) → is_below a b ≡ true → is_below b c ≡ true → is_below a c ≡ true
under-under a b c h k = grind (arith, nat_tests)

not-under : (a b c : Ballot) → is_below a b ≡ false → is_below b c ≡ false → is_below a c ≡ false
not-under a b c h k = grind (arith, nat_tests)

-- the highest report once r is read: r if its ballot is higher or there was none, else the old one
abbrev pub joined_with : {V : Type 0} → Option (SlotReport V) → SlotReport V → Option (SlotReport V)
joined_with None r = Some r
joined_with (Some q) r = if is_below q.ballot r.ballot then Some r else Some q

-- with x put in front and r at the end, the highest report is the same in either order
higher-joined_if : {V : Type 0} (x q r : SlotReport V) (a b d : Bool) → (a ≡ true → b ≡ true → d ≡ true) → (a ≡ false → b ≡ false → d ≡ false) → is_below q.ballot r.ballot ≡ a → is_below x.ballot q.ballot ≡ b → is_below x.ballot r.ballot ≡ d
    → higher x (if a then Some r else Some q) ≡ joined_with (if b then Some q else Some x) r
higher-joined_if {V} x q r true true d both none ea eb ed =
    let under : is_below x.ballot r.ballot ≡ true = ed ∙ both refl refl in
    ap (λ (t : Bool). let o : Option (SlotReport V) = if t then Some r else Some x in o) under ∙ ap (λ (t : Bool). let o : Option (SlotReport V) = if t then Some r else Some q in o) (sym ea)
higher-joined_if x q r true false d both none ea eb ed = refl
higher-joined_if {V} x q r false true d both none ea eb ed =
    ap (λ (t : Bool). let o : Option (SlotReport V) = if t then Some q else Some x in o) eb ∙ ap (λ (t : Bool). let o : Option (SlotReport V) = if t then Some r else Some q in o) (sym ea)
higher-joined_if {V} x q r false false d both none ea eb ed =
    let over : is_below x.ballot r.ballot ≡ false = ed ∙ none refl refl in
    ap (λ (t : Bool). let o : Option (SlotReport V) = if t then Some q else Some x in o) eb ∙ ap (λ (t : Bool). let o : Option (SlotReport V) = if t then Some r else Some x in o) (sym over)

higher-joined : {V : Type 0} (x : SlotReport V) (o : Option (SlotReport V)) (r : SlotReport V) → higher x (joined_with o r) ≡ joined_with (higher x o) r
higher-joined x None r = refl
higher-joined x (Some q) r = higher-joined_if x q r (is_below q.ballot r.ballot) (is_below x.ballot q.ballot) (is_below x.ballot r.ballot)
    (λ a b. under-under x.ballot q.ballot r.ballot b a) (λ a b. not-under x.ballot q.ballot r.ballot b a) refl refl refl

-- the same, with x put in front only if it is of the slot
at_slot : {V : Type 0} (x : SlotReport V) (t : Bool) (o p : Option (SlotReport V)) (r : SlotReport V) → p ≡ joined_with o r → (if t then higher x p else p) ≡ joined_with (if t then higher x o else o) r
at_slot {V} x true o p r e = ap (λ (q : Option (SlotReport V)). higher x q) e ∙ higher-joined x o r
at_slot x false o p r e = e

-- a report of the slot at the end of the list is read last
pub highest_at-push : {V : Type 0} (s : ℕ) (rs : List (SlotReport V)) (r : SlotReport V) → r.slot ≡ s → highest_at s (rs ++ r ∷ []) ≡ joined_with (highest_at s rs) r
highest_at-push {V} s [] r same = one (r.slot == s) (grind (arith, nat_tests)) where
  one : (t : Bool) → t ≡ true → (if t then Some r else None) ≡ Some r
  one true e = refl
  one false e = cc
highest_at-push s (x ∷ rs) r same = at_slot x (x.slot == s) (highest_at s rs) (highest_at s (rs ++ r ∷ [])) r (highest_at-push s rs r same)

-- a report of another slot at the end of the list leaves the highest report
pub highest_at-push_other : {V : Type 0} (s : ℕ) (rs : List (SlotReport V)) (r : SlotReport V) → r.slot ≢ s → highest_at s (rs ++ r ∷ []) ≡ highest_at s rs
highest_at-push_other {V} s [] r other = none (r.slot == s) (grind (arith, nat_tests)) where
  none : (t : Bool) → t ≡ false → (if t then Some r else None) ≡ None
  none true e = cc
  none false e = refl
highest_at-push_other {V} s (x ∷ rs) r other = ap (λ (o : Option (SlotReport V)). if x.slot == s then higher x o else o) (highest_at-push_other s rs r other)

-- The table.

module _ {V : Type 0} (first : ℕ) (table : List (Option (Bor (SlotReport V)))) (reports : List (SlotReport V)) (r : SlotReport V) (h : IsHighestTable first table reports) where
  -- at index k the table still has the highest report, whether or not the new report is of that
  -- slot
  kept_at : (k : ℕ) → k < length table → (t : Bool) → (r.slot == (first + k)) ≡ t → (r.slot ≡ first + k → joined_with (option_copied (slice_index_or table k None)) r ≡ option_copied (slice_index_or table k None))
      → option_copied (slice_index_or table k None) ≡ highest_at (first + k) (reports ++ r ∷ [])
  kept_at k low true e preserves =
      let same : r.slot ≡ first + k = eqb-true _ _ e in
      sym (preserves same) ∙ ap (λ (o : Option (SlotReport V)). joined_with o r) (h k low) ∙ sym (highest_at-push (first + k) reports r same)
  kept_at k low false e preserves = h k low ∙ sym (highest_at-push_other (first + k) reports r (λ d. grind (arith, nat_tests)))

  -- if the new report is of no slot of the table, or no higher, the table still has the highest
  -- reports
  pub highest_kept : ((k : ℕ) → k < length table → r.slot ≡ first + k → joined_with (option_copied (slice_index_or table k None)) r ≡ option_copied (slice_index_or table k None)) → IsHighestTable first table (reports ++ r ∷ [])
  highest_kept preserves k low = kept_at k low (r.slot == (first + k)) refl (preserves k low)

  module _ (place : ℕ) (b : Bor (SlotReport V)) (is : b.now ≡ r) (in_table : place < length table) (at : r.slot ≡ first + place) (takes : joined_with (option_copied (slice_index_or table place None)) r ≡ Some r) where
    -- at index k the table with the new report has the highest report, whether or not k is the
    -- index of the report
    set_at : (k : ℕ) → k < length table → (t : Bool) → (k == place) ≡ t → option_copied (slice_index_or (set table place (Some b)) k None) ≡ highest_at (first + k) (reports ++ r ∷ [])
    set_at k low true e =
        let same : k ≡ place = eqb-true _ _ e in
        subst (λ (k : ℕ). option_copied (slice_index_or (set table place (Some b)) k None) ≡ highest_at (first + k) (reports ++ r ∷ [])) (sym same)
        (ap (λ (o : Option (Bor (SlotReport V))). option_copied o) (get_or-set_same table place (Some b) None in_table)
        ∙ ap (λ (x : SlotReport V). let o : Option (SlotReport V) = Some x in o) is ∙ sym takes ∙ ap (λ (o : Option (SlotReport V)). joined_with o r) (h place in_table) ∙ sym (highest_at-push (first + place) reports r at))
    set_at k low false e =
        let other : k ≢ place = λ d. grind (arith, nat_tests) in
        ap (λ (o : Option (Bor (SlotReport V))). option_copied o) (get_or-set_other table place k (Some b) None other) ∙ h k low
        ∙ sym (highest_at-push_other (first + k) reports r (λ d. other (omega (arith, at, d))))

    -- if the new report is higher, the table with it at its index has the highest reports
    pub highest_set : IsHighestTable first (set table place (Some b)) (reports ++ r ∷ [])
    highest_set k low = set_at k (omega (arith, low, length-set table place (Some b))) (k == place) refl

-- The entry of the table at an index.

-- an item that was read at an index is the one that the table has there
pub table_at : {V : Type 0} (table : List (Option (Bor (SlotReport V)))) (place : ℕ) (item : Option (Bor (SlotReport V))) → place < length table → item ≡ get_or table place item → slice_index_or table place None ≡ item
table_at table place item low is = get_or_default table place None item low ∙ sym is

pub joined-under : {V : Type 0} (q r : SlotReport V) → is_below q.ballot r.ballot ≡ true → joined_with (Some q) r ≡ Some r
joined-under {V} q r e = ap (λ (t : Bool). let o : Option (SlotReport V) = if t then Some r else Some q in o) e

pub joined-upto : {V : Type 0} (q r : SlotReport V) → is_below q.ballot r.ballot ≡ false → joined_with (Some q) r ≡ Some q
joined-upto {V} q r e = ap (λ (t : Bool). let o : Option (SlotReport V) = if t then Some r else Some q in o) e

-- The slot after the greatest.

pub top_or_zero-append : {V : Type 0} (rs qs : List (SlotReport V)) → top_or_zero (rs ++ qs) ≡ max (top_or_zero rs) (top_or_zero qs)
top_or_zero-append [] qs = omega arith
top_or_zero-append (r ∷ rs) qs = let e = top_or_zero-append rs qs in omega (arith, e)

-- The pages and reports already read, and those to come.

-- the first i + 1 elements are the first i and the one at index i
pub take_next : {A : Type 0} (xs : List A) (i : ℕ) (x : A) → x ≡ get_or xs i x → i < length xs → take (i + 1) xs ≡ take i xs ++ x ∷ []
take_next xs i x is low = ap (λ (j : ℕ). take j xs) (add-one i) ∙ take-suc_get xs i x is low where
  take-suc_get : {A : Type 0} (xs : List A) (i : ℕ) (x : A) → x ≡ get_or xs i x → i < length xs → take (suc i) xs ≡ take i xs ++ x ∷ []
  take-suc_get [] i x is low = absurd (omega arith)
  take-suc_get (y ∷ xs) zero x is low = ap (λ z. z ∷ []) (sym is)
  take-suc_get (y ∷ xs) (suc i) x is low = ap (λ zs. y ∷ zs) (take-suc_get xs i x is (le_of_suc-le-suc low))

-- the elements from index i on are the one at index i and those after it
pub drop_next : {A : Type 0} (xs : List A) (i : ℕ) (x : A) → x ≡ get_or xs i x → i < length xs → drop i xs ≡ x ∷ drop (i + 1) xs
drop_next {A} xs i x is low = drop-cons xs i x low ∙ ap (λ (z : A). z ∷ drop (suc i) xs) (sym is) ∙ ap (λ (j : ℕ). x ∷ drop j xs) (sym (add-one i))

reports_of_pages-append : {V : Type 0} (pages more : List (Bor (List (SlotReport V)))) → reports_of_pages (pages ++ more) ≡ reports_of_pages pages ++ reports_of_pages more
reports_of_pages-append [] more = refl
reports_of_pages-append (page ∷ pages) more = ap (λ rs. page.now ++ rs) (reports_of_pages-append pages more) ∙ sym (append_assoc page.now (reports_of_pages pages) (reports_of_pages more))

pub reports_of_pages-push : {V : Type 0} (pages : List (Bor (List (SlotReport V)))) (page : Bor (List (SlotReport V))) → reports_of_pages (pages ++ page ∷ []) ≡ reports_of_pages pages ++ page.now
reports_of_pages-push pages page = reports_of_pages-append pages (page ∷ []) ∙ ap (λ rs. reports_of_pages pages ++ rs) (append-nil page.now)

-- if P holds of each element of xs followed by ys, it holds of each element of xs
pub all_left : {A : Type 0} (P : A → Type 0) (xs ys : List A) → AllByRecursion P (xs ++ ys) → AllByRecursion P xs
all_left P [] ys h = tt
all_left P (x ∷ xs) ys h = (h.0, all_left P xs ys h.1)

-- if P holds of each element of xs followed by ys, it holds of each element of ys
pub all_right : {A : Type 0} (P : A → Type 0) (xs ys : List A) → AllByRecursion P (xs ++ ys) → AllByRecursion P ys
all_right P [] ys h = h
all_right P (x ∷ xs) ys h = all_right P xs ys h.1

-- the reports of the pages from index i on are those of the page at index i and of the pages after
-- it
pub pages_next : {V : Type 0} (pages : List (Bor (List (SlotReport V)))) (i : ℕ) (page : Bor (List (SlotReport V))) → page ≡ get_or pages i page → i < length pages → reports_of_pages (drop i pages) ≡ page.now ++ reports_of_pages (drop (i + 1) pages)
pages_next {V} pages i page is low = ap (λ (ps : List (Bor (List (SlotReport V)))). reports_of_pages ps) (drop_next pages i page is low)

-- an empty table has the highest reports of no reports
pub highest_of_none : {V : Type 0} (first : ℕ) (table : List (Option (Bor (SlotReport V)))) → ((k : ℕ) → slice_index_or table k None ≡ None) → IsHighestTable first table []
highest_of_none {V} first table none k low = ap (λ (o : Option (Bor (SlotReport V))). option_copied o) (none k)

-- if Accepts for slot s are posted, the posts for the slots from s on are these and those from s +
-- 1 on
pub fill_next : {V : Type 0} (me : ℕ) (weights : List ℕ) (b : Ballot) (s n m : ℕ) (reports : List (SlotReport V)) (v : Option V) (posts more : List (Packet V)) → more ≡ posts ++ to_all me weights (Accept b s v) → v ≡ reported_value (highest_at s reports) → n ≡ suc m
    → more ++ accept_posts me weights b (s + 1) (proposed_values reports (s + 1) m) ≡ posts ++ accept_posts me weights b s (proposed_values reports s n)
fill_next {V} me weights b s n m reports v posts more posted is count =
    let rest : List (Packet V) = accept_posts me weights b (suc s) (proposed_values reports (suc s) m) in
    ap (λ (j : ℕ). more ++ accept_posts me weights b j (proposed_values reports j m)) (add-one s)
    ∙ ap (λ (ps : List (Packet V)). ps ++ rest) posted ∙ append_assoc posts (to_all me weights (Accept b s v)) rest
    ∙ ap (λ (u : Option V). posts ++ (to_all me weights (Accept b s u) ++ rest)) is
    ∙ ap (λ (k : ℕ). posts ++ accept_posts me weights b s (proposed_values reports s k)) (sym count)

-- the value of a report in the table is the one reported highest at its slot
pub value_at : {V : Type 0} (first : ℕ) (table : List (Option (Bor (SlotReport V)))) (reports : List (SlotReport V)) → IsHighestTable first table reports → (i s : ℕ) (item : Option (Bor (SlotReport V))) → i < length table → item ≡ get_or table i item → s ≡ first + i
    → reported_value (option_copied item) ≡ reported_value (highest_at s reports)
value_at {V} first table reports h i s item low is at =
    ap (λ (o : Option (SlotReport V)). reported_value o)
    (ap (λ (o : Option (Bor (SlotReport V))). option_copied o) (sym (table_at table i item low is)) ∙ h i low ∙ ap (λ (j : ℕ). highest_at j reports) (sym at))

-- The pages of a node from an index on.

joined-none : {V : Type 0} (count : ℕ) → joined_pages {T = SlotReport V} [] count ≡ []
joined-none zero = refl
joined-none (suc count) = refl

pub joined-gap : {V : Type 0} (pages : List (Option (List (SlotReport V)))) (i count : ℕ) → entry_at pages i ≡ None → joined_pages (drop i pages) (suc count) ≡ joined_pages (drop (i + 1) pages) count
joined-gap {V} pages i count e = gap pages i count e ∙ ap (λ (j : ℕ). joined_pages (drop j pages) count) (sym (add-one i)) where
  gap : {V : Type 0} (pages : List (Option (List (SlotReport V)))) (i count : ℕ) → entry_at pages i ≡ None → joined_pages (drop i pages) (suc count) ≡ joined_pages (drop (suc i) pages) count
  gap [] zero count e = sym (joined-none count)
  gap [] (suc i) count e = sym (joined-none count)
  gap (None ∷ pages) zero count e = refl
  gap (Some page ∷ pages) zero count e = cc
  gap (x ∷ pages) (suc i) count e = gap pages i count e

pub joined-page : {V : Type 0} (pages : List (Option (List (SlotReport V)))) (i count : ℕ) (page : List (SlotReport V)) → entry_at pages i ≡ Some page → joined_pages (drop i pages) (suc count) ≡ page ++ joined_pages (drop (i + 1) pages) count
joined-page {V} pages i count page e = here pages i count page e ∙ ap (λ (j : ℕ). page ++ joined_pages (drop j pages) count) (sym (add-one i)) where
  here : {V : Type 0} (pages : List (Option (List (SlotReport V)))) (i count : ℕ) (page : List (SlotReport V)) → entry_at pages i ≡ Some page → joined_pages (drop i pages) (suc count) ≡ page ++ joined_pages (drop (suc i) pages) count
  here [] i count page e = cc
  here (None ∷ pages) zero count page e = cc
  here {V} (Some x ∷ pages) zero count page e = let same : x ≡ page = cc in ap (λ (p : List (SlotReport V)). p ++ joined_pages pages count) same
  here (x ∷ pages) (suc i) count page e = here pages i count page e

-- if the page at index i is added, the reports of the added pages and of those to come stay the
-- same
pub add_next : {V : Type 0} (had : List (Option (List (SlotReport V)))) (i n : ℕ) (all more : List (Bor (List (SlotReport V)))) (page : Bor (List (SlotReport V))) → entry_at had i ≡ Some page.now → more ≡ all ++ page ∷ []
    → reports_of_pages more ++ joined_pages (drop (i + 1) had) n ≡ reports_of_pages all ++ joined_pages (drop i had) (suc n)
add_next {V} had i n all more page is added =
    ap (λ (ps : List (Bor (List (SlotReport V)))). reports_of_pages ps ++ joined_pages (drop (i + 1) had) n) added
    ∙ ap (λ (rs : List (SlotReport V)). rs ++ joined_pages (drop (i + 1) had) n) (reports_of_pages-push all page)
    ∙ append_assoc (reports_of_pages all) page.now (joined_pages (drop (i + 1) had) n)
    ∙ ap (λ (rs : List (SlotReport V)). reports_of_pages all ++ rs) (sym (joined-page had i n page.now is))

-- As many waiting values as there are slots left.

-- taking n elements is taking the lesser of n and their count, and the rest is the same
pub take_min : {A : Type 0} (xs : List A) (n proposed : ℕ) → proposed ≡ min (length xs) n → (take proposed xs ≡ take n xs) × (drop proposed xs ≡ drop n xs) × (length (take n xs) ≡ proposed)
take_min {A} xs n proposed e = elim (le_or_lt (length xs) n) [
  | inl all ↦
      let whole : proposed ≡ length xs = omega (arith, e, all) in (
        take_all proposed xs (omega (arith, whole)) ∙ sym (take_all n xs all),
        drop_of_length-le xs (omega (arith, whole)) ∙ sym (drop_of_length-le xs all),
        ap (λ (ys : List A). length ys) (take_all n xs all) ∙ sym whole,
      )
  | inr some ↦
      let part : proposed ≡ n = omega (arith, e, some) in
      (ap (λ (i : ℕ). take i xs) part, ap (λ (i : ℕ). drop i xs) part, length-take-le n xs (omega (arith, some)) ∙ sym part)
] where
  le_or_lt : (a b : ℕ) → (a ≤ b) ⊎ (b < a)
  le_or_lt a b = grind arith

-- the posts, the next slot and the count of proposed values of a node that leads
pub is_lead : {V : Type 0} (me : ℕ) (weights : List ℕ) (b : Ballot) (first : ℕ) (reports : List (SlotReport V)) (waiting : List V) (top proposed : ℕ) (all : List (SlotReport V)) (none filled posts : List (Packet V))
    → top ≡ top_or_first first reports → proposed ≡ min (length waiting) (SLOTS - top) → all ≡ reports → none ≡ [] → filled ≡ none ++ accept_posts me weights b first (proposed_values all first (top - first))
    → posts ≡ filled ++ accept_posts me weights b top (as_entries (take proposed waiting)) → IsLead me weights b first reports waiting posts (top + proposed) proposed
is_lead {V} me weights b first reports waiting top proposed all none filled posts is_top is_taken is_all is_none is_filled is_posts =
    let part = take_min waiting (SLOTS - top) proposed is_taken in
    let room : SLOTS - top ≡ SLOTS - top_or_first first reports = ap (λ (t : ℕ). SLOTS - t) is_top in
    record {
      posted = is_posts
          ∙ ap (λ (ps : List (Packet V)). ps ++ accept_posts me weights b top (as_entries (take proposed waiting))) (is_filled
          ∙ ap (λ (ps : List (Packet V)). ps ++ accept_posts me weights b first (proposed_values all first (top - first))) is_none
          ∙ ap (λ (rs : List (SlotReport V)). accept_posts me weights b first (proposed_values rs first (top - first))) is_all
          ∙ ap (λ (t : ℕ). accept_posts me weights b first (proposed_values reports first (t - first))) is_top)
          ∙ ap (λ (vs : List V). accept_posts me weights b first (proposed_values reports first (top_or_first first reports - first)) ++ accept_posts me weights b top (as_entries vs)) (part.0 ∙ ap (λ (i : ℕ). take i waiting) room)
          ∙ ap (λ (t : ℕ). accept_posts me weights b first (proposed_values reports first (top_or_first first reports - first)) ++ accept_posts me weights b t (as_entries (take (SLOTS - top_or_first first reports) waiting))) is_top;
      next_is = let count = sym part.2 ∙ ap (λ (i : ℕ). length (take i waiting)) room in omega (arith, is_top, count);
      still_waiting = part.1 ∙ ap (λ (i : ℕ). drop i waiting) room;
      within = omega (arith, is_taken);
    }
