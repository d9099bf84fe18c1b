-- A proof cites only mandatory hypotheses and statements that a token before `)` names.
use Rattle.library.proofs.Words.{◌≡◌, ◌↔◌, ◌⊎◌, ℕ, zero, suc, ◌+◌, Bool, true, false, ◌||◌, if◌then◌else◌, List, [], ◌∷◌, ◌++◌, Option, Some, None, slice_get, refl, list_all, list_any, sym, ◌∙◌, ap, subst, inl, inr, true≢false, append-nil, bytes_eq-Decides, or_right, and_parts, false_from_ne_true, any_passes_from_place, Name, name_eq, has_name, is_label, Stmt, Float, Ess, Database, bare, bares, before, stmt_at, label_of, proof_of, hypotheses, Carries, is_hypothesis_kind, HasLabelsOnce, IsPosition, Item, Cite, Recall, Mark, AreItems, Writes, left_parenthesis, right_parenthesis, label_or_empty, mandatory_labels, IsProvable, IsMarked, is_marked, listed_in, ListsNone, ListsSome, ProofCitesMarked, Cites, name_same, map-back}
use Rattle.library.proofs.FrontLemmas.{hypothesis-there, hypotheses-at, hypotheses-bare}
use Rattle.library.proofs.UseMarkLemmas.{get-either, position-is}
use Rattle.library.proofs.CitationWalkLemmas.{carries-bare}
use Rattle.library.proofs.ProvingLemmas.{written-of}

-- ---- the labels of items

-- the label that an item cites is one of the labels
row-label : (labels : List Name) (marks : ℕ) (row : List Name) (items : List Item) → AreItems labels marks row items → (place : ℕ) (label : Name) → slice_get items place ≡ Some (Cite label) → (k : ℕ) × (slice_get labels k ≡ Some label)
row-label labels marks (word ∷ row) (Mark ∷ items) are (suc place) label e = row-label labels (marks + 1) row items are.1 place label e
row-label labels marks (word ∷ row) (Cite cited ∷ items) are zero label e = let same : cited ≡ label = (let h = e in cc) in let m = are.2 in (m.0, m.2 ∙ ap Some same)
row-label labels marks (word ∷ row) (Cite cited ∷ items) are (suc place) label e = row-label labels marks row items are.3 place label e
row-label labels marks (word ∷ row) (Recall k ∷ items) are (suc place) label e = row-label labels marks row items are.3 place label e
row-label labels marks (word ∷ row) [] are place label e = absurd are
row-label labels marks [] (item ∷ items) are place label e = absurd are
row-label labels marks row items are place label e = absurd (let h = e in cc)

-- a label is not the `)`
no-right_parenthesis : (label : Name) → is_label label ≡ true → name_eq label right_parenthesis ≡ false
no-right_parenthesis label is = false_from_ne_true (name_eq label right_parenthesis) (λ e. true≢false (sym is ∙ ap is_label ((bytes_eq-Decides label right_parenthesis).0 e)))

listed-more : (token : Name) (tokens : List Name) → name_eq token right_parenthesis ≡ false → listed_in (token ∷ tokens) ≡ token ∷ listed_in tokens
listed-more token tokens e = ap (λ t. if t then [] else token ∷ listed_in tokens) e

-- the labels before `)` are listed
labels-listed : (labels rest : List Name) → list_all is_label labels ≡ true → (k : ℕ) (label : Name) → slice_get labels k ≡ Some label → has_name label (listed_in (labels ++ rest)) ≡ true
labels-listed [] rest are k label e = absurd (let h = e in cc)
labels-listed (token ∷ labels) rest are k label e =
    let both = and_parts (is_label token) (list_all is_label labels) are in
    subst (λ ns. has_name label ns ≡ true) (sym (listed-more token (labels ++ rest) (no-right_parenthesis token both.0))) (by k e (λ i e. labels-listed labels rest both.1 i label e))
  where
    by : (k : ℕ) → slice_get (token ∷ labels) k ≡ Some label → ((i : ℕ) → slice_get labels i ≡ Some label → has_name label (listed_in (labels ++ rest)) ≡ true) → has_name label (token ∷ listed_in (labels ++ rest)) ≡ true
    by zero e later = let same : token ≡ label = (let h = e in cc) in ap (λ b. b || has_name label (listed_in (labels ++ rest))) (ap (name_eq label) same ∙ name_same label)
    by (suc k) e later = or_right (name_eq label token) (has_name label (listed_in (labels ++ rest))) (later k e)

-- an item cites a mandatory label or one before `)`
pub cited-label : (tokens mandatory : List Name) (items : List Item) → Writes tokens mandatory items → (place : ℕ) (label : Name) → slice_get items place ≡ Some (Cite label)
    → ((k : ℕ) × (slice_get mandatory k ≡ Some label)) ⊎ (has_name label (listed_in tokens) ≡ true)
cited-label tokens mandatory items (inl packed) place label e =
    let w = packed.1.1 in
    let at = row-label (mandatory ++ w.listed) 0 w.letters.row items w.letters.means place label e in
    elim (get-either mandatory w.listed at.0 label at.1) [
      | inl there ↦ inl there
      | inr listed ↦ inr (subst (λ ts. has_name label (listed_in ts) ≡ true) (sym w.whole)
          (subst (λ ns. has_name label ns ≡ true) (sym (listed-more left_parenthesis (w.listed ++ right_parenthesis ∷ w.rest) refl))
          (or_right (name_eq label left_parenthesis) (has_name label (listed_in (w.listed ++ right_parenthesis ∷ w.rest))) (labels-listed w.listed (right_parenthesis ∷ w.rest) w.labels listed.0 label listed.1))))
    ]
cited-label tokens mandatory items (inr plain) place label e =
    let w = plain.1.1 in
    let at = map-back (λ token. Cite token) tokens place (Cite label) (ap (λ is. slice_get is place) (sym w.cites) ∙ e) in
    let token = at.0 in
    let same : token ≡ label = (let h = at.2 in cc) in
    inr (subst (λ ts. has_name label (listed_in ts) ≡ true) (append-nil tokens) (labels-listed tokens [] w.labels place label (at.1 ∙ ap Some same)))

-- ---- the tokens, one after another

module _ (F : Database) (once : HasLabelsOnce F) (marks : List Bool) where
  -- a token that names no marked statement is not the label of one
  other-label : (token : Name) (place : Option ℕ) → IsPosition F token place → is_marked marks place ≡ false → (a : ℕ) (s : Stmt) (label : Name) → IsMarked marks a → Carries F a s label → name_eq label token ≡ false
  other-label token place p none a s label m c =
      false_from_ne_true (name_eq label token) (λ e.
      let same : label ≡ token = (bytes_eq-Decides label token).0 e in
      let here : place ≡ Some a = position-is F token place a s once p (subst (Carries F a s) same c) in
      true≢false (sym m ∙ (ap (is_marked marks) (sym here) ∙ none)))

  pub lists-next : (tokens left rest : List Name) (token closing : Name) (place : Option ℕ) → left ≡ token ∷ rest → closing ≡ right_parenthesis → name_eq token closing ≡ false → IsPosition F token place → is_marked marks place ≡ false
      → ((a : ℕ) (s : Stmt) (label : Name) → IsMarked marks a → Carries F a s label → has_name label (listed_in tokens) ≡ has_name label (listed_in left))
      → (a : ℕ) (s : Stmt) (label : Name) → IsMarked marks a → Carries F a s label → has_name label (listed_in tokens) ≡ has_name label (listed_in rest)
  lists-next tokens left rest token closing place split is goes_on p none so_far a s label m c =
      so_far a s label m c
      ∙ (ap (λ ts. has_name label (listed_in ts)) split
      ∙ (ap (has_name label) (listed-more token rest (ap (name_eq token) (sym is) ∙ goes_on))
      ∙ ap (λ b. b || has_name label (listed_in rest)) (other-label token place p none a s label m c)))

  -- a token that names a marked statement
  pub lists-some : (tokens left rest : List Name) (token closing : Name) (place : Option ℕ) → left ≡ token ∷ rest → closing ≡ right_parenthesis → name_eq token closing ≡ false → IsPosition F token place → is_marked marks place ≡ true
      → ((a : ℕ) (s : Stmt) (label : Name) → IsMarked marks a → Carries F a s label → has_name label (listed_in tokens) ≡ has_name label (listed_in left))
      → ListsSome F tokens marks
  lists-some tokens left rest token closing place split is goes_on p one so_far = by place p one
    where
      by : (place : Option ℕ) → IsPosition F token place → is_marked marks place ≡ true → ListsSome F tokens marks
      by None p one = absurd (true≢false (sym one))
      by (Some a) p one =
          record {
            position = a;
            stmt = p.0;
            label = token;
            marked = one;
            carries = p.1;
            listed = so_far a p.0 token one p.1
                ∙ (ap (λ ts. has_name token (listed_in ts)) split
                ∙ (ap (has_name token) (listed-more token rest (ap (name_eq token) (sym is) ∙ goes_on))
                ∙ ap (λ b. b || has_name token (listed_in rest)) (name_same token)));
          }

pub kind-labelled : (t : Stmt) → is_hypothesis_kind t ≡ true → label_of t ≡ Some (label_or_empty (Some t))
kind-labelled (Float label constant variable) h = refl
kind-labelled (Ess label expr) h = refl
kind-labelled t h = absurd (let e = h in cc)

module _ (S F : Database) (same : F ≡ bares S) (once : HasLabelsOnce F) (at : ℕ) (s : Stmt) (provable : IsProvable S at s) (marks : List Bool) where
  -- a mandatory label is that of a mandatory hypothesis
  hypothesis-cited : (k : ℕ) (label : Name) (a : ℕ) (r : Stmt) → slice_get (mandatory_labels (bares S) at s) k ≡ Some label → Carries F a r label
      → slice_get (hypotheses (before F at) (bare s)) k ≡ Some a
  hypothesis-cited k label a r e c =
      let m = map-back (λ i. label_or_empty (stmt_at (bares S) i)) (hypotheses (before (bares S) at) s) k label e in
      let i = m.0 in
      let there : slice_get (hypotheses (before F at) (bare s)) k ≡ Some i = ap (λ ps. slice_get ps k) (hypotheses-bare (before F at) s ∙ ap (λ U. hypotheses (before U at) s) same) ∙ m.1 in
      let h = hypothesis-there F (hypotheses (before F at) (bare s)) k i there (hypotheses-at F at (bare s)) in
      let labelled : label_or_empty (Some h.stmt) ≡ label = ap label_or_empty (sym h.stands ∙ ap (λ U. stmt_at U i) same) ∙ sym m.2 in
      there ∙ ap Some (once i a h.stmt r label (record { stands = h.stands; carried = kind-labelled h.stmt h.kind ∙ ap Some labelled }) c)

  -- if no mandatory hypothesis is marked, and no token names a marked statement, the proof cites
  -- none
  pub meets-nothing : (tokens : List Name) → proof_of s ≡ tokens → list_any (λ p. is_marked marks (Some p)) (hypotheses (before F at) (bare s)) ≡ false → ListsNone F tokens marks → false ≡ true ↔ ProofCitesMarked S at marks
  meets-nothing tokens e mandatory lists = ((λ f. absurd (let g = f in cc)), λ m. absurd (nothing m.0 m.1 m.2))
    where
      nothing : (a : ℕ) → IsMarked marks a → Cites S at a → ⊥
      nothing a m c =
          let one = c.one in
          let written = written-of S at s tokens provable e c.items c.has in
          let carries : Carries F a (bare one.cited) one.label = subst (λ U. Carries U a (bare one.cited) one.label) (sym same) (carries-bare S a one.cited one.label one.carries) in
          elim (cited-label tokens (mandatory_labels (bares S) at s) c.items written one.index one.label one.cites) [
            | inl there ↦ true≢false (sym (any_passes_from_place (λ p. is_marked marks (Some p)) (hypotheses (before F at) (bare s)) there.0 a
                (hypothesis-cited there.0 one.label a (bare one.cited) there.1 carries) m) ∙ mandatory)
            | inr listed ↦ true≢false (sym listed ∙ lists a (bare one.cited) one.label m carries)
          ]
