-- The page of an assertion is that of its contents.
use Rattle.sites.proofs.Words.{◌≡◌, ℕ, zero, suc, ◌+◌, ◌-◌, ◌<◌, ◌≤◌, true, false, Bool, List, [], ◌∷◌, ◌++◌, length, get_or, slice_get, option_map, Some, Appends, sym, ◌∙◌, ap, subst, refl, arith, length-map, Good, HasAssertion, HasItems, IsProofOf, IsRight, Item, Carries, Name, Database, Stmt, Axiom, Prove, bare, bares, is_assertion, is_axiom, is_provable, label_of, legal-each, legal-labels, provable-bare, slice_get_read, stands-within, stmt_at, stmt_at-bares, AreContents, AreEssential, AreListsOf, ArePositionsWhere, AreRows, AreSteps, IsPage, PageContents, Row, Vec, items_or_none, lists_of, page_html, steps_of}

-- ---- the statement

-- the statement that is read at an index
pub read-at : (S T : Database) (i : ℕ) (s : Stmt) → T ≡ S → i < length S → s ≡ get_or T i s → slice_get S i ≡ Some s
read-at S T i s same less is =
    subst (λ U. slice_get U i ≡ Some s) same (slice_get_read T (length T) i s refl (omega (arith, less, ap length same)) is)

-- .. stands at its position
pub stands-at : (S : Database) (i : ℕ) (s : Stmt) → slice_get S i ≡ Some s → stmt_at S (i + 1) ≡ Some s
stands-at S i s e = let at : i + 1 ≡ suc i = omega arith in ap (stmt_at S) at ∙ e

-- the position of a statement lies within the database
pub within : (S F : Database) (at : ℕ) (s : Stmt) → F ≡ bares S → stmt_at F at ≡ Some s → (1 ≤ at) × (at ≤ length S)
within S F at s same stands =
    let w = stands-within F at s stands in
    let count : length F ≡ length S = ap length same ∙ length-map S bare in
    (w.0, omega (arith, w.1, count))

bare-assertion : (s : Stmt) → is_assertion s ≡ true → is_assertion (bare s) ≡ true
bare-assertion (Axiom label expr) h = refl
bare-assertion (Prove label expr proof) h = refl
bare-assertion s h = cc

-- the assertion at an index, without its proof
pub assertion-at : (S F : Database) (i : ℕ) (s : Stmt) → F ≡ bares S → slice_get S i ≡ Some s → is_assertion s ≡ true → (r : Stmt) × HasAssertion F (i + 1) r
assertion-at S F i s same stands kind =
    let at : i + 1 ≡ suc i = omega arith in
    let there : stmt_at (bares S) (suc i) ≡ Some (bare s) = stmt_at-bares S (suc i) ∙ ap (option_map bare) stands in
    (bare s, (ap (λ D. stmt_at D (i + 1)) same ∙ (ap (stmt_at (bares S)) at ∙ there), bare-assertion s kind))

-- an assertion that is no `$p` is a `$a`
pub other-assertion : (s : Stmt) → is_assertion s ≡ true → ((label : Name) (expr proof : List Name) → s ≡ Prove label expr proof → ⊥) → is_axiom s ≡ true
other-assertion (Axiom label expr) kind other = refl
other-assertion (Prove label expr proof) kind other = absurd (other label expr proof refl)
other-assertion s kind other = cc

-- ---- the proof

-- the position of the label's statement
same-position : (S : Database) (position at : ℕ) (s : Stmt) (label : Name) (items : List Item) → Good S → Carries S at s label → IsProofOf S label position items → position ≡ at
same-position S position at s label items good carries p = legal-labels S (legal-each S good.legal) position at p.named.stmt s label p.named.carries carries

pub right-at : (S F : Database) (position at : ℕ) (s : Stmt) (label : Name) (items : List Item) → Good S → F ≡ bares S → Carries S at s label → IsProofOf S label position items → IsRight F at items
right-at S F position at s label items good same carries p =
    subst (λ D. IsRight D at items) (sym same) (subst (λ j. IsRight (bares S) j items) (same-position S position at s label items good carries p) p.right)

pub has-items-at : (S : Database) (position at : ℕ) (s : Stmt) (label : Name) (items : List Item) → Good S → Carries S at s label → IsProofOf S label position items → HasItems S at items
has-items-at S position at s label items good carries p = subst (λ j. HasItems S j items) (same-position S position at s label items good carries p) p.written

asserted : (s : Stmt) → is_provable s ≡ true → is_assertion s ≡ true
asserted (Prove label expr proof) h = refl
asserted s h = cc

pub provable-at : (S F : Database) (position at : ℕ) (s : Stmt) (label : Name) (items : List Item) → Good S → F ≡ bares S → Carries S at s label → IsProofOf S label position items → (r : Stmt) × HasAssertion F at r
provable-at S F position at s label items good same carries p =
    let provable = provable-bare S F position p.named.stmt same p.named.provable in
    let t = bare p.named.stmt in
    (t, (subst (λ j. stmt_at F j ≡ Some t) (same-position S position at s label items good carries p) provable.stands, asserted t provable.provable))

-- the steps of its items, in the form of the page
pub shown-proof : (S F : Database) (at : ℕ) (names : List Name) (items : List Item) (steps essential : List Row) → F ≡ bares S → HasItems S at items → AreSteps F at items (steps_of steps)
    → AreRows F at names steps → AreEssential F steps essential
    → (is : List Item) × HasItems S at is × AreSteps (bares S) at is (steps_of steps) × AreRows (bares S) at names steps × AreEssential (bares S) steps essential
shown-proof S F at names items steps essential same has are rows kept = (
  items,
  has,
  subst (λ D. AreSteps D at items (steps_of steps)) same are,
  subst (λ D. AreRows D at names steps) same rows,
  subst (λ D. AreEssential D steps essential) same kept,
)

-- ---- the page

-- the list at an index
items-at : (lists : List (Vec ℕ)) (k : ℕ) → items_or_none (slice_get lists k) ≡ get_or (lists_of lists) k []
items-at [] k = refl
items-at (list ∷ lists) zero = refl
items-at (list ∷ lists) (suc k) = items-at lists k

-- the positions that are listed for the statement
pub listed-at : (S : Database) (R : ℕ → ℕ → Type 0) (lists : List (Vec ℕ)) (at : ℕ) (list shown : List ℕ) → AreListsOf S R (lists_of lists) → (1 ≤ at) × (at ≤ length S)
    → list ≡ items_or_none (slice_get lists (at - 1)) → shown ≡ list → ArePositionsWhere (R at) shown
listed-at S R lists at list shown are w e f =
    let same : suc (at - 1) ≡ at = omega (arith, w.0) in
    let here : ArePositionsWhere (R (suc (at - 1))) (get_or (lists_of lists) (at - 1) []) = are.each (at - 1) (omega (arith, w.0, w.1)) in
    subst (λ n. ArePositionsWhere (R n) shown) same
    (subst (ArePositionsWhere (R (suc (at - 1)))) (sym (f ∙ (e ∙ items-at lists (at - 1)))) here)

pub page-made : (S : Database) (marks : List Bool) (text : List ℕ) (at : ℕ) (k : PageContents) (old new : List ℕ) → Appends (Some old) (Some new) (page_html true false k) → old ≡ [] → AreContents S marks text at k → IsPage S marks text at new
page-made S marks text at k old new html empty are = record { contents = k; are = are; html = html ∙ ap (λ l. l ++ page_html true false k) empty }
