-- The pages of a promise and all proposals stay below the limit.
use Rattle.synod.proofs.Words.{◌≡◌, ℕ, zero, suc, ◌+◌, ◌*◌, ◌<◌, ◌≤◌, max, Bool, true, false, nat_lt, is_some, List, [], ◌∷◌, length, Option, Some, None, refl, ap, arith, set, if◌then◌else◌, AllByRecursion, SLOTS, put_at, MAX_PAGES, Ballot, SlotReport, Promise, AcceptedEntry, Heard, IsReport, IsPost, onto_first, cut_after, joined_pages, pages_from, page_of, with_page, reports_from, promise_posts_from, top_or_zero, top_or_first, proposed_values, all_reports, IsReceivedPage}
use Rattle.synod.proofs.NodeInvariant.{all_append, all_set, all_index, post, nodes}

-- The pages of a promise.

-- with a report below the limit in front, or passed over, all reports are below the limit
reported_either : {V : Type 0} (first s : ℕ) (r : SlotReport V) (rs : List (SlotReport V)) (t : Bool) → IsReport r → AllByRecursion IsReport rs → AllByRecursion IsReport (if t then rs else (r ∷ rs))
reported_either first s r rs true h rest = rest
reported_either first s r rs false h rest = (h, rest)

-- if accepted entries are below the limit, their reports are
pub reports_low : {V : Type 0} (first s : ℕ) (accepted : List (Option (AcceptedEntry V))) → s + length accepted ≤ SLOTS → AllByRecursion IsReport (reports_from first s accepted)
reports_low first s [] le = tt
reports_low first s (None ∷ hs) le = reports_low first (suc s) hs (omega arith)
reports_low first s (Some h ∷ hs) le =
    reported_either first s (record { slot = s; ballot = h.ballot; value = h.value }) (reports_from first (suc s) hs) (nat_lt s first) (omega arith) (reports_low first (suc s) hs (omega arith))

-- a report in front, or passed over, adds at most one
few_either : {V : Type 0} (r : SlotReport V) (rs : List (SlotReport V)) (t : Bool) → length (if t then rs else (r ∷ rs)) ≤ suc (length rs)
few_either r rs true = omega arith
few_either r rs false = omega arith

-- there are no more reports than slots
pub reports_few : {V : Type 0} (first s : ℕ) (accepted : List (Option (AcceptedEntry V))) → length (reports_from first s accepted) ≤ length accepted
reports_few first s [] = omega arith
reports_few first s (None ∷ hs) = let h = reports_few first (suc s) hs in omega arith
reports_few first s (Some x ∷ hs) =
    let h = reports_few first (suc s) hs in
    let e = few_either (record { slot = s; ballot = x.ballot; value = x.value }) (reports_from first (suc s) hs) (nat_lt s first) in
    omega arith

-- if P holds of x and of each element on the pages, it holds of each with x put onto the first page
all_onto_first : {T : Type 0} (P : T → Type 0) (x : T) (pages : List (List T)) → P x → AllByRecursion (AllByRecursion P) pages → AllByRecursion (AllByRecursion P) (onto_first x pages)
all_onto_first P x [] p h = ((p, tt), tt)
all_onto_first P x (page ∷ pages) p h = ((p, h.0), h.1)

-- if P holds of each element of a list, it holds of each on its pages
pub all_cut : {T : Type 0} (P : T → Type 0) (room : ℕ) (xs : List T) → AllByRecursion P xs → AllByRecursion (AllByRecursion P) (cut_after room xs)
all_cut P zero [] h = (tt, tt)
all_cut P (suc room) [] h = (tt, tt)
all_cut P (suc room) (x ∷ xs) h = all_onto_first P x (cut_after room xs) h.0 (all_cut P room xs h.1)
all_cut P zero (x ∷ xs) h = (tt, all_onto_first P x (cut_after 255 xs) h.0 (all_cut P 255 xs h.1))

length-onto_first : {T : Type 0} (x : T) (pages : List (List T)) → 1 ≤ length pages → length (onto_first x pages) ≡ length pages
length-onto_first x [] h = absurd (omega arith)
length-onto_first x (page ∷ pages) h = refl

-- the count of pages if the first has this much room: at least one, and no more than needed
pub pages_few : {T : Type 0} (room : ℕ) (xs : List T) → (256 * length (cut_after room xs) + room < max (length xs) room + 512) × (1 ≤ length (cut_after room xs))
pages_few zero [] = (omega arith, omega arith)
pages_few (suc room) [] = (omega arith, omega arith)
pages_few (suc room) (x ∷ xs) = let h = pages_few room xs in let e = length-onto_first x (cut_after room xs) h.1 in (omega (arith, h.0, h.1, e), omega (arith, h.1, e))
pages_few zero (x ∷ xs) = let h = pages_few 255 xs in let e = length-onto_first x (cut_after 255 xs) h.1 in (omega (arith, h.0, h.1, e), omega arith)

-- the packets of a promise are posts, if its pages are no more than may be sent
pub posts_pages : {V : Type 0} (nodes me to : ℕ) (b : Ballot) (count i : ℕ) (pages : List (List (SlotReport V))) → me < nodes → to < nodes → 1 ≤ i → i + length pages ≤ suc count → count ≤ MAX_PAGES
    → AllByRecursion (AllByRecursion IsReport) pages → AllByRecursion (IsPost nodes) (promise_posts_from me to b count i pages)
posts_pages nodes me to b count i [] from for one all few each = tt
posts_pages nodes me to b count i (page ∷ pages) from for one all few each = (
  post nodes me to (Promise b i count page) from for record { first = one; last = omega arith; few = few; each = each.0 },
  posts_pages nodes me to b count (suc i) pages from for (omega arith) (omega arith) few each.1,
)

-- Proposals are at slots below the limit.

-- the slot after the greatest reported one is at most the limit
all_low : {V : Type 0} (reports : List (SlotReport V)) → AllByRecursion IsReport reports → top_or_zero reports ≤ SLOTS
all_low [] h = omega arith
all_low (r ∷ rs) h = let rest = all_low rs h.1 in let low : r.slot < SLOTS = h.0 in omega arith

-- the slot from which waiting values are proposed is at most the limit
pub top_low : {V : Type 0} (first : ℕ) (reports : List (SlotReport V)) → first ≤ SLOTS → AllByRecursion IsReport reports → top_or_first first reports ≤ SLOTS
top_low first [] low h = low
top_low first (r ∷ rs) low h = all_low (r ∷ rs) h

-- the reports on the pages of one node are below the limit
all_joined : {V : Type 0} (pages : List (Option (List (SlotReport V)))) (count : ℕ) → AllByRecursion IsReceivedPage pages → AllByRecursion IsReport (joined_pages pages count)
all_joined pages zero h = tt
all_joined [] (suc count) h = tt
all_joined (None ∷ pages) (suc count) h = all_joined pages count h.1
all_joined (Some page ∷ pages) (suc count) h = all_append IsReport page (joined_pages pages count) h.0 (all_joined pages count h.1)

-- the reports of all nodes heard are below the limit
pub reports_heard : {V : Type 0} (pages : List (List (Option (List (SlotReport V))))) (heard : List Heard) → AllByRecursion (AllByRecursion IsReceivedPage) pages → AllByRecursion IsReport (all_reports pages heard)
reports_heard pages [] h = tt
reports_heard pages (x ∷ heard) h =
    all_append IsReport (joined_pages (pages_from pages x.node) x.count) (all_reports pages heard) (all_joined (pages_from pages x.node) x.count (all_index (AllByRecursion IsReceivedPage) pages x.node [] h tt)) (reports_heard pages heard h)

-- with a page of such reports put into the map of one node, all its pages are below the limit
all_put : {V : Type 0} (pages : List (Option (List (SlotReport V)))) (i : ℕ) (reports : List (SlotReport V)) → AllByRecursion IsReceivedPage pages → AllByRecursion IsReport reports → AllByRecursion IsReceivedPage (put_at pages i reports)
all_put [] zero reports h r = (r, tt)
all_put [] (suc i) reports h r = (tt, all_put [] i reports tt r)
all_put (x ∷ pages) zero reports h r = (r, h.1)
all_put (x ∷ pages) (suc i) reports h r = (h.0, all_put pages i reports h.1 r)

-- with a page of such reports put into the map of its node, if it is new, the pages of all nodes
-- are below the limit
pub all_with_page : {V : Type 0} (pages : List (List (Option (List (SlotReport V))))) (p i : ℕ) (reports : List (SlotReport V)) (t : Bool) → AllByRecursion (AllByRecursion IsReceivedPage) pages → AllByRecursion IsReport reports
    → AllByRecursion (AllByRecursion IsReceivedPage) (if t then pages else set pages p (put_at (pages_from pages p) i reports))
all_with_page pages p i reports true h r = h
all_with_page pages p i reports false h r = all_set (AllByRecursion IsReceivedPage) pages p (put_at (pages_from pages p) i reports) h (all_put (pages_from pages p) i reports (all_index (AllByRecursion IsReceivedPage) pages p [] h tt) r)

-- the reports of all nodes heard are below the limit, with the page just delivered
pub reports_with_page : {V : Type 0} (pages : List (List (Option (List (SlotReport V))))) (p i : ℕ) (reports : List (SlotReport V)) (heard : List Heard) → AllByRecursion (AllByRecursion IsReceivedPage) pages → AllByRecursion IsReport reports
    → AllByRecursion IsReport (all_reports (with_page pages p i reports) heard)
reports_with_page pages p i reports heard each r = reports_heard (with_page pages p i reports) heard (all_with_page pages p i reports (is_some (page_of pages p i)) each r)

pub length-proposed_values : {V : Type 0} (reports : List (SlotReport V)) (s count : ℕ) → length (proposed_values reports s count) ≡ count
length-proposed_values reports s zero = refl
length-proposed_values reports s (suc count) = ap suc (length-proposed_values reports (suc s) count)
