-- Whether a compressed proof cites a marked statement, by its numbers and a test of each of its
-- labels.
use Rattle.library.proofs.Words.{◌≡◌, ◌↔◌, ℕ, zero, suc, ◌+◌, ◌-◌, ◌<◌, ◌≤◌, Bool, true, false, ◌||◌, if◌then◌else◌, List, [], ◌∷◌, ◌++◌, length, map, get_or, slice_index_or, take, drop, Option, Some, None, option_map, slice_get, refl, list_any, true≢false, length-append, sym, ◌∙◌, ap, subst, arith, append_assoc, inl, inr, slice_get-map, bytes_eq-Decides, map-append, length-map, length-drop, take_more, drop_more, get_or_append_left, both_ways, true_from_ne_false, cases_lt, Name, name_eq, has_name, Stmt, Database, bare, bares, before, stmt_at, proof_of, hypotheses, HasLabelsOnce, IsPosition, Item, Cite, Recall, item_of, items_of, right_parenthesis, Writes, WritesCompressed, WritesFinishedCompressed, WritesFinishedNormal, is_compressed, label_or_empty, mandatory_labels, IsProvable, Good, HasItems, is_marked, cited_position, AreLabelMarks, ItemsCiteMarked, ProofCitesMarked, listed_in, ListsNone, ListsSome, get_or-map, take-add, cases_Bool, map-map, IsHeadingWithNumbers, share_label, positions-end, apart-written, shared-none, item-cite, item-recall}
use Rattle.library.proofs.FrontLemmas.{AreHypothesesAt, hypotheses-at}
use Rattle.library.proofs.UseMarkLemmas.{meets-items}
use Rattle.library.proofs.MayCiteLemmas.{kind-labelled, cited-label}
use Rattle.library.proofs.ProvingLemmas.{has-items, written-of, labels-bare}
use Rattle.library.proofs.CitedByLemmas.{proof-meets}

-- ---- the tests of labels

module _ (S : Database) (marks : List Bool) where
  label_marks-end : (labels : List Name) (label_marks : List Bool) (label : Name) (o : Option ℕ) → AreLabelMarks S labels marks label_marks → IsPosition S label o → AreLabelMarks S (labels ++ label ∷ []) marks (label_marks ++ is_marked marks o ∷ [])
  label_marks-end labels label_marks label o w is =
      record {
        label_positions = w.label_positions ++ o ∷ [];
        named = positions-end S labels label w.label_positions o w.named is;
        tests = ap (λ bs. bs ++ is_marked marks o ∷ []) w.tests ∙ sym (map-append (is_marked marks) w.label_positions (o ∷ []));
      }

  named-all : (ps : List ℕ) → AreHypothesesAt S ps → (k : ℕ) → k < length (map (λ i. label_or_empty (stmt_at S i)) ps) → IsPosition S (get_or (map (λ i. label_or_empty (stmt_at S i)) ps) k []) (get_or (map (λ i. Some i) ps) k None)
  named-all [] h k less = absurd (omega (arith, less))
  named-all (p ∷ ps) h zero less =
      let one = h.0 in
      (one.stmt, record { stands = one.stands; carried = kind-labelled one.stmt one.kind ∙ ap (λ o. Some (label_or_empty o)) (sym one.stands) })
  named-all (p ∷ ps) h (suc k) less = named-all ps h.1 k (omega (arith, less))

  hypotheses-wanted : (ps : List ℕ) → AreHypothesesAt S ps → AreLabelMarks S (map (λ i. label_or_empty (stmt_at S i)) ps) marks (map (λ p. is_marked marks (Some p)) ps)
  hypotheses-wanted ps h =
      record {
        label_positions = map (λ i. Some i) ps;
        named = record { count = length-map ps (λ i. Some i) ∙ sym (length-map ps (λ i. label_or_empty (stmt_at S i))); each = named-all ps h };
        tests = sym (map-map (is_marked marks) (λ i. Some i) ps);
      }

  -- the tests of the mandatory hypotheses of the assertion s
  pub mandatory-wanted : (at : ℕ) (s : Stmt) (positions : List ℕ) (label_marks : List Bool) → positions ≡ hypotheses (before S at) s → label_marks ≡ map (λ p. is_marked marks (Some p)) positions
      → AreLabelMarks S (mandatory_labels S at s) marks label_marks
  mandatory-wanted at s positions label_marks are is =
      subst (AreLabelMarks S (mandatory_labels S at s) marks) (sym (is ∙ ap (map (λ p. is_marked marks (Some p))) are))
      (hypotheses-wanted (hypotheses (before S at) s) (hypotheses-at S at s))

  -- the first n of the words are tested
  pub record AreTested (words left : List Name) (n : ℕ) (old label_marks : List Bool) : Type 0 where
    pub rest : drop n words ≡ left
    pub tests : (front : List Name) → AreLabelMarks S front marks old → AreLabelMarks S (front ++ take n words) marks label_marks

  module _ (words left : List Name) (n : ℕ) (old label_marks : List Bool) (tested : AreTested words left n old label_marks) (within : n < length words) where
    pub word-left : left ≡ [] → ⊥
    word-left none = let l = length-drop n words in let e = ap length (tested.rest ∙ none) in omega (arith, within, l, e)

    pub one-tested : (label : Name) (rest : List Name) (o : Option ℕ) (test : Bool) (more : List Bool) → left ≡ label ∷ rest → IsPosition S label o → test ≡ is_marked marks o → more ≡ label_marks ++ test ∷ [] → AreTested words rest (n + 1) old more
    one-tested label rest o test more first is same grown =
        record {
          rest = let e = at_drop in let after : drop (n + 1) words ≡ rest = cc in after;
          tests = λ front w.
              subst (λ ls. AreLabelMarks S ls marks more) (append_assoc front (take n words) (label ∷ []) ∙ ap (λ ls. front ++ ls) (sym taken))
              (subst (AreLabelMarks S ((front ++ take n words) ++ label ∷ []) marks) (sym (grown ∙ ap (λ b. label_marks ++ b ∷ []) same)) (label_marks-end (front ++ take n words) label_marks label o (tested.tests front w) is));
        }
      where
        at_drop : slice_index_or words n [] ∷ drop (n + 1) words ≡ label ∷ rest
        at_drop = sym (drop_more words n [] within) ∙ (tested.rest ∙ first)

        taken : take (n + 1) words ≡ take n words ++ label ∷ []
        taken = take_more words n [] within ∙ ap (λ l. take n words ++ l ∷ []) (let e = at_drop in let same : slice_index_or words n [] ≡ label = cc in same)

-- ---- the statements that the numbers cite

number-tested : (marks label_marks : List Bool) (label_positions : List (Option ℕ)) → label_marks ≡ map (is_marked marks) label_positions → (n : ℕ) → is_marked label_marks (Some n) ≡ is_marked marks (cited_position label_positions n)
number-tested marks label_marks label_positions tests zero = refl
number-tested marks label_marks label_positions tests (suc n) = ap (λ bs. get_or bs n false) tests ∙ get_or-map (is_marked marks) label_positions n None

any-same : (f g : ℕ → Bool) → ((n : ℕ) → f n ≡ g n) → (ns : List ℕ) → list_any f ns ≡ list_any g ns
any-same f g same [] = refl
any-same f g same (n ∷ ns) = ap (λ b. b || list_any f ns) (same n) ∙ ap (λ b. g n || b) (any-same f g same ns)

pub tested-meets : (S : Database) (labels : List Name) (marks label_marks : List Bool) (numbers : List ℕ) (found : Bool) → HasLabelsOnce S → AreLabelMarks S labels marks label_marks → found ≡ list_any (λ n. is_marked label_marks (Some n)) numbers
    → found ≡ true ↔ ItemsCiteMarked S (items_of labels numbers) marks
tested-meets S labels marks label_marks numbers found once w is =
    meets-items S labels w.label_positions w.named once numbers (items_of labels numbers) marks found refl
    (is ∙ any-same (λ n. is_marked label_marks (Some n)) (λ n. is_marked marks (cited_position w.label_positions n)) (number-tested marks label_marks w.label_positions w.tests) numbers)

-- a number that cites a label also cites it when more labels follow
item-front : (labels rest : List Name) (n : ℕ) (label : Name) → item_of labels n ≡ Cite label → item_of (labels ++ rest) n ≡ Cite label
item-front labels rest zero label e = absurd (let f = e in cc)
item-front labels rest (suc n) label e = elim (cases_lt n (length labels)) [
  | inl less ↦ (
      let l = length-append labels rest in
      item-cite (labels ++ rest) (suc n) n refl (omega (arith, less, l)) ∙ (ap Cite (get_or_append_left labels rest [] n less) ∙ (sym (item-cite labels (suc n) n refl less) ∙ e)))
  | inr more ↦ absurd (let f : Recall (suc (n - length labels)) ≡ Cite label = sym (item-recall labels (suc n) n refl more) ∙ e in cc)
]

front-meets : (S : Database) (labels rest : List Name) (marks : List Bool) (numbers : List ℕ) → ItemsCiteMarked S (items_of labels numbers) marks → ItemsCiteMarked S (items_of (labels ++ rest) numbers) marks
front-meets S labels rest marks numbers m =
    let c = m.2 in
    (m.0, m.1, record { index = c.index; label = c.label; cited = c.cited; cites = by numbers c.index c.cites; carries = c.carries })
  where
    by : (ns : List ℕ) (k : ℕ) → slice_get (items_of labels ns) k ≡ Some (Cite m.2.label) → slice_get (items_of (labels ++ rest) ns) k ≡ Some (Cite m.2.label)
    by [] k e = e
    by (n ∷ ns) zero e = ap Some (item-front labels rest n m.2.label (let f = e in let g : item_of labels n ≡ Cite m.2.label = cc in g))
    by (n ∷ ns) (suc k) e = by ns k e

take-split : (words : List Name) (n m : ℕ) → n ≤ m → (rest : List Name) × (take m words ≡ take n words ++ rest)
take-split words n m h = (take (m - n) (drop n words), let e : m ≡ n + (m - n) = omega (arith, h) in ap (λ k. take k words) e ∙ take-add n (m - n) words)

-- if the numbers cite a marked statement by the first n labels, they do by all labels
pub early-meets : (S : Database) (marks : List Bool) (words left : List Name) (n count : ℕ) (old label_marks : List Bool) (numbers : List ℕ) → AreTested S marks words left n old label_marks → n ≤ count → HasLabelsOnce S
    → true ≡ list_any (λ n. is_marked label_marks (Some n)) numbers → (front : List Name) → AreLabelMarks S front marks old → true ≡ true ↔ ItemsCiteMarked S (items_of (front ++ take count words) numbers) marks
early-meets S marks words left n count old label_marks numbers tested less once any front w =
    let r = take-split words n count less in
    let m = (tested-meets S (front ++ take n words) marks label_marks numbers true once (tested.tests front w) any).0 refl in
    let all : ItemsCiteMarked S (items_of (front ++ take count words) numbers) marks =
    subst (λ ls. ItemsCiteMarked S (items_of ls numbers) marks) (append_assoc front (take n words) r.0 ∙ ap (λ ls. front ++ ls) (sym r.1))
    (front-meets S (front ++ take n words) r.0 marks numbers m) in
    ((λ e. all), λ m. refl)

pub late-meets : (S : Database) (marks : List Bool) (words left : List Name) (n count : ℕ) (old label_marks : List Bool) (numbers : List ℕ) (found : Bool) → AreTested S marks words left n old label_marks → n ≡ count → HasLabelsOnce S
    → found ≡ list_any (λ n. is_marked label_marks (Some n)) numbers → (front : List Name) → AreLabelMarks S front marks old → found ≡ true ↔ ItemsCiteMarked S (items_of (front ++ take count words) numbers) marks
late-meets S marks words left n count old label_marks numbers found tested same once any front w =
    subst (λ k. found ≡ true ↔ ItemsCiteMarked S (items_of (front ++ take k words) numbers) marks) same
    (tested-meets S (front ++ take n words) marks label_marks numbers found once (tested.tests front w) any)

-- ---- the labels that a heading lists

-- if the tokens of a compressed proof write items under these labels, the flag says whether these
-- cite a marked statement
abbrev pub TellsMeeting : Database → List Name → List Name → List Bool → Bool → Type 0
TellsMeeting S mandatory tokens marks found =
    (other : List Item) → WritesCompressed tokens mandatory other → (items : List Item) × WritesCompressed tokens mandatory items × (found ≡ true ↔ ItemsCiteMarked S items marks)

module _ (tokens words : List Name) (mandatory count : ℕ) (numbers : List ℕ) (h : IsHeadingWithNumbers tokens mandatory words count numbers) where
  pub tells-heading : (S : Database) (labels : List Name) (marks : List Bool) (found : Bool) → length labels ≡ mandatory
      → (found ≡ true ↔ ItemsCiteMarked S (items_of (labels ++ take count words) numbers) marks) → TellsMeeting S labels tokens marks found
  tells-heading S labels marks found long meets = λ other written. elim (cases_Bool (share_label labels (take count words))) [
    | inl q ↦ absurd (shared-none tokens labels words mandatory count numbers (sym long) h q other written)
    | inr q ↦ (items_of (labels ++ take count words) numbers, apart-written tokens labels words mandatory count numbers (sym long) h q, meets)
  ]

pub tells-nothing : (S : Database) (tokens labels : List Name) (mandatory : ℕ) (marks : List Bool) (found : Bool) → length labels ≡ mandatory
    → ((labels : List Name) → length labels ≡ mandatory → (items : List Item) → WritesCompressed tokens labels items → ⊥) → TellsMeeting S labels tokens marks found
tells-nothing S tokens labels mandatory marks found long none = λ other written. absurd (none labels long other written)

pub labels-long : (S : Database) (at : ℕ) (s : Stmt) (positions : List ℕ) → positions ≡ hypotheses (before S at) s → length (mandatory_labels S at s) ≡ length positions
labels-long S at s positions are = length-map (hypotheses (before S at) s) (λ i. label_or_empty (stmt_at S i)) ∙ ap length (sym are)

-- ---- normal proofs

listed-there : (label : Name) (tokens : List Name) → has_name label (listed_in tokens) ≡ true → (k : ℕ) × (slice_get tokens k ≡ Some label)
listed-there label [] h = absurd (true≢false (sym h))
listed-there label (token ∷ tokens) h = closes (name_eq token right_parenthesis) refl (listed-there label tokens)
  where
    closes : (b : Bool) → name_eq token right_parenthesis ≡ b → (has_name label (listed_in tokens) ≡ true → (k : ℕ) × (slice_get tokens k ≡ Some label)) → (k : ℕ) × (slice_get (token ∷ tokens) k ≡ Some label)
    closes true q later = absurd (true≢false (sym h ∙ ap (λ b. has_name label (if b then [] else token ∷ listed_in tokens)) q))
    closes false q later = names (name_eq label token) refl (sym (ap (λ b. has_name label (if b then [] else token ∷ listed_in tokens)) q) ∙ h)
      where
        names : (b : Bool) → name_eq label token ≡ b → (name_eq label token || has_name label (listed_in tokens)) ≡ true → (k : ℕ) × (slice_get (token ∷ tokens) k ≡ Some label)
        names true r any = (0, ap Some (sym ((bytes_eq-Decides label token).0 r)))
        names false r any = let there = later (sym (ap (λ b. b || has_name label (listed_in tokens)) r) ∙ any) in (suc there.0, there.1)

module _ (F : Database) (tokens : List Name) (items : List Item) (marks : List Bool) where
  some-cited : WritesFinishedNormal tokens items → ListsSome F tokens marks → ItemsCiteMarked F items marks
  some-cited w one =
      let there = listed-there one.label tokens one.listed in (
        one.position,
        one.marked,
        record {
          index = there.0;
          label = one.label;
          cited = one.stmt;
          cites = ap (λ is. slice_get is there.0) w.1.cites ∙ (slice_get-map (λ token. Cite token) tokens there.0 ∙ ap (option_map (λ token. Cite token)) there.1);
          carries = one.carries;
        },
      )

  none-cited : is_compressed tokens ≡ false → WritesFinishedNormal tokens items → ItemsCiteMarked F items marks → ListsNone F tokens marks → ⊥
  none-cited plain w m none =
      let c = m.2 in
      elim (cited-label tokens [] items (inr (plain, w)) c.index c.label c.cites) [
        | inl there ↦ (let h = there.1 in cc)
        | inr listed ↦ true≢false (sym listed ∙ none m.0 c.cited c.label m.1 c.carries)
      ]

-- ---- the `$p` of good statements

module _ (S F : Database) (same : F ≡ bares S) (good : Good S) (at : ℕ) (s : Stmt) (tokens : List Name) (provable : IsProvable S at s) (e : proof_of s ≡ tokens) (marks : List Bool) where
  -- the proof of the `$p` has items
  good-items : (items : List Item) × HasItems S at items
  good-items = let p = good.proved at s provable in (p.items, record { stmt = p.stmt; provable = p.provable; written = p.written })

  pub told-meets : is_compressed tokens ≡ true → (found : Bool) → TellsMeeting F (mandatory_labels F at (bare s)) tokens marks found → found ≡ true ↔ ProofCitesMarked S at marks
  told-meets compressed found told =
      let one = good-items in
      let labels = mandatory_labels (bares S) at s in
      let tells : TellsMeeting F labels tokens marks found = subst (λ ls. TellsMeeting F ls tokens marks found) (labels-bare S F at s same provable (bare s) refl) told in
      let packed = packed-of labels one.0 (written-of S at s tokens provable e one.0 one.1) in
      let m = tells one.0 packed.1 in
      let meets = proof-meets S F same at marks m.0 (has-items S at s tokens provable e m.0 (inl (compressed, (packed.0, m.1)))) in
      ((λ f. meets.0 (m.2.0 f)), λ q. m.2.1 (meets.1 q))
    where
      packed-of : (labels : List Name) (items : List Item) → Writes tokens labels items → WritesFinishedCompressed tokens labels items
      packed-of labels items written = elim written [ inl packed ↦ packed.1 | inr plain ↦ absurd (both_ways (is_compressed tokens) plain.0 compressed) ]

  -- for a normal proof, the search among its tokens decides whether it cites a marked statement
  pub listed-meets : is_compressed tokens ≡ false → (found : Bool) → (found ≡ false → ListsNone F tokens marks) → (found ≡ true → ListsSome F tokens marks) → found ≡ true ↔ ProofCitesMarked S at marks
  listed-meets plain found none some =
      let one = good-items in
      let meets = proof-meets S F same at marks one.0 one.1 in
      let w = plain-of (mandatory_labels (bares S) at s) one.0 (written-of S at s tokens provable e one.0 one.1) in (
        (λ f. meets.0 (some-cited F tokens one.0 marks w (some f))),
        λ q. true_from_ne_false found (λ f. none-cited F tokens one.0 marks plain w (meets.1 q) (none f)),
      )
    where
      plain-of : (labels : List Name) (items : List Item) → Writes tokens labels items → WritesFinishedNormal tokens items
      plain-of labels items written = elim written [ inl packed ↦ absurd (both_ways (is_compressed tokens) plain packed.0) | inr w ↦ w.1 ]
