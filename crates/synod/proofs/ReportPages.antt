-- The reports of a promise, gathered slot by slot and cut into pages on the way.
use Rattle.synod.proofs.Words.{◌≡◌, ℕ, zero, suc, ◌+◌, ◌-◌, ◌<◌, ◌≤◌, ◌≢◌, Bool, true, false, nat_lt, List, [], ◌∷◌, ◌++◌, length, drop, Option, Some, None, refl, ap, sym, ◌∙◌, subst, arith, if◌then◌else◌, append_assoc, append-nil, add-one, le_of_suc-le-suc, length-append, drop_of_length-le, nat_tests, SLOTS, entry_at, MAX_PAGES, Ballot, SlotReport, Packet, Promise, AcceptedEntry, packet, onto_first, cut_after, pages_of, reports_from, promise_posts_from}
use Rattle.synod.proofs.PageInvariant.{reports_few, pages_few}

-- the pages after the first one was begun with `page`
abbrev pub onto_front : {T : Type 0} → List T → List (List T) → List (List T)
onto_front page [] = page ∷ []
onto_front page (next ∷ pages) = (page ++ next) ∷ pages

-- all pages, given the full ones, the one begun and the reports that are left
abbrev pub pages_with : {T : Type 0} → List (List T) → List T → List T → List (List T)
pages_with full page rest = full ++ onto_front page (cut_after (256 - length page) rest)

onto_front-onto_first : {T : Type 0} (page : List T) (x : T) (pages : List (List T)) → onto_front page (onto_first x pages) ≡ onto_front (page ++ x ∷ []) pages
onto_front-onto_first page x [] = refl
onto_front-onto_first page x (next ∷ pages) = ap (λ p. p ∷ pages) (sym (append_assoc page (x ∷ []) next))

onto_front-none : {T : Type 0} (x : T) (pages : List (List T)) → onto_front [] (onto_first x pages) ≡ onto_first x pages
onto_front-none x [] = refl
onto_front-none x (next ∷ pages) = refl

onto_front-one : {T : Type 0} (x : T) (pages : List (List T)) → onto_front (x ∷ []) pages ≡ onto_first x pages
onto_front-one x [] = refl
onto_front-one x (next ∷ pages) = refl

-- at the start there are no full pages, and all reports are left
pub pages_with-none : {T : Type 0} (rest : List T) → pages_with [] [] rest ≡ pages_of rest
pages_with-none [] = refl
pages_with-none (x ∷ rest) = onto_front-none x (cut_after 255 rest)

-- the next report goes onto the page begun, if that has room
pub pages_with-add : {T : Type 0} (full : List (List T)) (page : List T) (x : T) (rest : List T) → length page < 256 → pages_with full page (x ∷ rest) ≡ pages_with full (page ++ x ∷ []) rest
pages_with-add {T} full page x rest low =
    let count : length (page ++ x ∷ []) ≡ length page + 1 = length-append page (x ∷ []) in
    let room : 256 - length page ≡ suc (256 - length (page ++ x ∷ [])) = omega (arith, count) in
    ap (λ (pages : List (List T)). full ++ pages)
    (ap (λ (r : ℕ). onto_front page (cut_after r (x ∷ rest))) room ∙ onto_front-onto_first page x (cut_after (256 - length (page ++ x ∷ [])) rest))

-- the next report begins a new page, if the page begun is full
pub pages_with-new : {T : Type 0} (full : List (List T)) (page : List T) (x : T) (rest : List T) → length page ≡ 256 → pages_with full page (x ∷ rest) ≡ pages_with (full ++ page ∷ []) (x ∷ []) rest
pages_with-new {T} full page x rest whole =
    let room : 256 - length page ≡ 0 = omega (arith, whole) in
    ap (λ (pages : List (List T)). full ++ pages)
    (ap (λ (r : ℕ). onto_front page (cut_after r (x ∷ rest))) room ∙ ap (λ (p : List T). p ∷ onto_first x (cut_after 255 rest)) (append-nil page)
    ∙ ap (λ (pages : List (List T)). page ∷ pages) (sym (onto_front-one x (cut_after 255 rest))))
    ∙ sym (append_assoc full (page ∷ []) (onto_front (x ∷ []) (cut_after 255 rest)))

cut_after-none : {T : Type 0} (room : ℕ) → cut_after {T = T} room [] ≡ [] ∷ []
cut_after-none zero = refl
cut_after-none (suc room) = refl

-- without reports left, the pages are the full ones and the one begun
pub pages_with-last : {T : Type 0} (full : List (List T)) (page : List T) → pages_with full page [] ≡ full ++ page ∷ []
pages_with-last {T} full page = ap (λ (pages : List (List T)). full ++ pages) (ap (λ (pages : List (List T)). onto_front page pages) (cut_after-none (256 - length page)) ∙ ap (λ (p : List T). p ∷ []) (append-nil page))

-- The reports, slot by slot.

-- a slot below the first is passed over
below_if : {V : Type 0} (r : SlotReport V) (rs : List (SlotReport V)) (t : Bool) → t ≡ true → (if t then rs else (r ∷ rs)) ≡ rs
below_if r rs true e = refl
below_if r rs false e = cc

-- a slot not below the first is reported
above_if : {V : Type 0} (r : SlotReport V) (rs : List (SlotReport V)) (t : Bool) → t ≡ false → (if t then rs else (r ∷ rs)) ≡ r ∷ rs
above_if r rs true e = cc
above_if r rs false e = refl

-- slots below the first are passed over
pub reports-skip : {V : Type 0} (first s i : ℕ) (hs : List (Option (AcceptedEntry V))) → s + i ≤ first → reports_from first (s + i) (drop i hs) ≡ reports_from first s hs
reports-skip {V} first s zero hs le = let e : s + 0 ≡ s = omega arith in ap (λ (j : ℕ). reports_from first j hs) e
reports-skip first s (suc i) [] le = refl
reports-skip {V} first s (suc i) (None ∷ hs) le = let e : s + suc i ≡ suc s + i = omega arith in ap (λ (j : ℕ). reports_from first j (drop i hs)) e ∙ reports-skip first (suc s) i hs (omega arith)
reports-skip {V} first s (suc i) (Some h ∷ hs) le =
    let e : s + suc i ≡ suc s + i = omega arith in
    ap (λ (j : ℕ). reports_from first j (drop i hs)) e ∙ reports-skip first (suc s) i hs (omega arith)
    ∙ sym (below_if (record { slot = s; ballot = h.ballot; value = h.value }) (reports_from first (suc s) hs) (nat_lt s first) (grind (arith, nat_tests)))

pub reports-none : {V : Type 0} (first s i : ℕ) (hs : List (Option (AcceptedEntry V))) → i < length hs → entry_at hs i ≡ None → reports_from first s (drop i hs) ≡ reports_from first (suc s) (drop (suc i) hs)
reports-none first s i [] low e = absurd (omega arith)
reports-none first s zero (None ∷ hs) low e = refl
reports-none first s zero (Some h ∷ hs) low e = cc
reports-none first s (suc i) (x ∷ hs) low e = reports-none first s i hs (le_of_suc-le-suc low) e

pub reports-some : {V : Type 0} (first s i : ℕ) (hs : List (Option (AcceptedEntry V))) (h : AcceptedEntry V) → first ≤ s → entry_at hs i ≡ Some h
    → reports_from first s (drop i hs) ≡ record { slot = s; ballot = h.ballot; value = h.value } ∷ reports_from first (suc s) (drop (suc i) hs)
reports-some first s i [] h from e = cc
reports-some first s zero (None ∷ hs) h from e = cc
reports-some {V} first s zero (Some x ∷ hs) h from e =
    let same : x ≡ h = cc in
    above_if (record { slot = s; ballot = x.ballot; value = x.value }) (reports_from first (suc s) hs) (nat_lt s first) (grind (arith, nat_tests))
    ∙ ap (λ (y : AcceptedEntry V). record { slot = s; ballot = y.ballot; value = y.value } ∷ reports_from first (suc s) hs) same
reports-some first s (suc i) (x ∷ hs) h from e = reports-some first s i hs h from e

pub reports-end : {V : Type 0} (first s i : ℕ) (hs : List (Option (AcceptedEntry V))) → length hs ≤ i → reports_from first s (drop i hs) ≡ []
reports-end {V} first s i hs le = ap (λ (rest : List (Option (AcceptedEntry V))). reports_from first s rest) (drop_of_length-le hs le)

-- The packets, page by page.

pub promise_posts_from-push : {V : Type 0} (me to : ℕ) (b : Ballot) (count i : ℕ) (pages : List (List (SlotReport V))) (page : List (SlotReport V))
    → promise_posts_from me to b count i (pages ++ page ∷ []) ≡ promise_posts_from me to b count i pages ++ packet me to (Promise b (i + length pages) count page) ∷ []
promise_posts_from-push {V} me to b count i [] page = let e : i ≡ i + 0 = omega arith in ap (λ (j : ℕ). let ps : List (Packet V) = packet me to (Promise b j count page) ∷ [] in ps) e
promise_posts_from-push {V} me to b count i (next ∷ pages) page =
    let e : suc i + length pages ≡ i + suc (length pages) = omega arith in
    ap (λ (ps : List (Packet V)). packet me to (Promise b i count next) ∷ ps)
    (promise_posts_from-push me to b count (suc i) pages page ∙ ap (λ (j : ℕ). promise_posts_from me to b count (suc i) pages ++ packet me to (Promise b j count page) ∷ []) e)

-- there are no more pages than may be sent
pub pages-within : {V : Type 0} (first : ℕ) (accepted : List (Option (AcceptedEntry V))) → length accepted ≤ SLOTS → length (pages_of (reports_from first 0 accepted)) ≤ MAX_PAGES
pages-within first accepted low =
    let few = reports_few first 0 accepted in
    let count = (pages_few 256 (reports_from first 0 accepted)).0 in
    omega (arith, low, few, count)

-- The invariant of the loop over the slots: the full pages, the page begun and the reports of the
-- slots to come are all pages.
pub record Gathers {V : Type 0} (first s : ℕ) (accepted : List (Option (AcceptedEntry V))) (full : List (List (SlotReport V))) (page : List (SlotReport V)) : Type 0 where
  pub from : first ≤ s
  pub low : length page ≤ 256
  pub all : pages_with full page (reports_from first s (drop s accepted)) ≡ pages_of (reports_from first 0 accepted)

pub gathers-first : {V : Type 0} (first : ℕ) (accepted : List (Option (AcceptedEntry V))) (full : List (List (SlotReport V))) (page : List (SlotReport V)) → full ≡ [] → page ≡ [] → Gathers first first accepted full page
gathers-first {V} first accepted full page no_pages no_page =
    let z : 0 + first ≡ first = omega arith in
    let skip : reports_from first first (drop first accepted) ≡ reports_from first 0 accepted = ap (λ (j : ℕ). reports_from first j (drop first accepted)) (sym z) ∙ reports-skip first 0 first accepted (omega arith) in
    subst (λ (full : List (List (SlotReport V))). Gathers first first accepted full page) (sym no_pages)
    (subst (λ (page : List (SlotReport V)). Gathers first first accepted [] page) (sym no_page) record {
      from = omega arith;
      low = omega arith;
      all = ap (λ (rs : List (SlotReport V)). pages_with [] [] rs) skip ∙ pages_with-none (reports_from first 0 accepted);
    })

module _ {V : Type 0} (first s : ℕ) (accepted : List (Option (AcceptedEntry V))) (full : List (List (SlotReport V))) (page : List (SlotReport V)) (h : Gathers first s accepted full page) (low : s < length accepted) where
  abbrev rest : List (SlotReport V)
  rest = reports_from first (suc s) (drop (suc s) accepted)

  gathers-at : (full : List (List (SlotReport V))) (page : List (SlotReport V)) → length page ≤ 256 → pages_with full page rest ≡ pages_of (reports_from first 0 accepted) → Gathers first (s + 1) accepted full page
  gathers-at full page small all =
      let from = h.from in
      record { from = omega (arith, from); low = small; all = ap (λ (j : ℕ). pages_with full page (reports_from first j (drop j accepted))) (add-one s) ∙ all }

  pub gathers-gap : entry_at accepted s ≡ None → Gathers first (s + 1) accepted full page
  gathers-gap none = gathers-at full page h.low (ap (λ (rs : List (SlotReport V)). pages_with full page rs) (sym (reports-none first s s accepted low none)) ∙ h.all)

  module _ (x : AcceptedEntry V) (is : entry_at accepted s ≡ Some x) where
    abbrev here : SlotReport V
    here = record { slot = s; ballot = x.ballot; value = x.value }

    -- the full pages, the page begun, the report of this slot and those of the slots to come are
    -- all pages
    with_here : pages_with full page (here ∷ rest) ≡ pages_of (reports_from first 0 accepted)
    with_here = ap (λ (rs : List (SlotReport V)). pages_with full page rs) (sym (reports-some first s s accepted x h.from is)) ∙ h.all

    pub gathers-add : length page ≢ 256 → (next : List (SlotReport V)) → next ≡ page ++ here ∷ [] → Gathers first (s + 1) accepted full next
    gathers-add other next more =
        let small = h.low in
        let count : length (page ++ here ∷ []) ≡ length page + 1 = length-append page (here ∷ []) in
        subst (λ (page : List (SlotReport V)). Gathers first (s + 1) accepted full page) (sym more)
        (gathers-at full (page ++ here ∷ []) (omega (arith, small, other, count)) (sym (pages_with-add full page here rest (omega (arith, small, other))) ∙ with_here))

    pub gathers-new : length page ≡ 256 → (pages : List (List (SlotReport V))) (next : List (SlotReport V)) → pages ≡ full ++ page ∷ [] → next ≡ here ∷ [] → Gathers first (s + 1) accepted pages next
    gathers-new whole pages next more one =
        subst (λ (pages : List (List (SlotReport V))). Gathers first (s + 1) accepted pages next) (sym more)
        (subst (λ (begun : List (SlotReport V)). Gathers first (s + 1) accepted (full ++ page ∷ []) begun) (sym one)
        (gathers-at (full ++ page ∷ []) (here ∷ []) (omega arith) (sym (pages_with-new full page here rest whole) ∙ with_here)))

pub gathers-last : {V : Type 0} (first s : ℕ) (accepted : List (Option (AcceptedEntry V))) (full : List (List (SlotReport V))) (page : List (SlotReport V)) → Gathers first s accepted full page → length accepted ≤ s → (pages : List (List (SlotReport V))) → pages ≡ full ++ page ∷ []
    → pages ≡ pages_of (reports_from first 0 accepted)
gathers-last {V} first s accepted full page h past pages more =
    more ∙ sym (pages_with-last full page) ∙ ap (λ (rs : List (SlotReport V)). pages_with full page rs) (sym (reports-end first s s accepted past)) ∙ h.all
