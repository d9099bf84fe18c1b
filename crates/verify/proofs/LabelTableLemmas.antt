-- The table of the meanings of labels, and the search for a listed label among the mandatory
-- hypotheses, whose positions rise.
use Rattle.verify.proofs.Words.{◌≡◌, ℕ, suc, ◌+◌, ◌-◌, ◌<◌, Bool, true, false, nat_lt, List, [], ◌∷◌, ◌++◌, length, take, get_or, Option, Some, None, refl, zero, ◌≤◌, cond, ◌==◌, ◌||◌, filter, map, slice_index_or, MatchResult, Result, Ok, Err, drop, sym, ◌∙◌, ap, subst, arith, length-append, true≢false, append_assoc, get_or_default, take_more, length-drop, drop_more, list_any, IsNonDecreasing, nat_tests, bytes_eq-Decides, or_right, Name, name_eq, has_name, Stmt, Database, stmt_at, is_assertion, active_from, before, label_of, stays_open, Carries, IsHypothesis, is_hypothesis_kind, HasAssertion, hypotheses, is_hypothesis, HasLabelsOnce, IsPosition, ArePositions, IsCitable, LabelEntry, Nothing, Assertion, IsEntry, AreEntries, is_hypothesis_among, some-same, get-front, get-last, share_label, label_or_empty, mandatory_labels, IsProvable, or-false, list_any-append, both_ways}
use Rattle.verify.specs.declared.label_table.LabelEntry.TheVariants.{Hypothesis}
use Rattle.verify.proofs.MandatoryEntries.{IsMandatory, AreMandatory, labels_at, mandatory-of}
use Rattle.verify.proofs.Decide.{not_both}

-- if the one statement with a label may not be cited, the label means nothing
pub nothing : (S : Database) (at i : ℕ) (s : Stmt) (label : Name) → HasLabelsOnce S → Carries S i s label
    → ((t : Stmt) → stmt_at S i ≡ Some t → (IsHypothesis S at i t → ⊥) × (i < at → is_assertion t ≡ true → ⊥))
    → (j : ℕ) (t : Stmt) → Carries S j t label → (IsHypothesis S at j t → ⊥) × (IsCitable S at j t → ⊥)
nothing S at i s label once carries none j t carries' =
    let e : j ≡ i = once j i t s label carries' carries in
    let n = none t (ap (stmt_at S) (sym e) ∙ carries'.stands) in
    (λ h. n.0 (subst (λ k. IsHypothesis S at k t) e h), λ h. n.1 (subst (λ k. k < at) e h.earlier) h.assertion)

-- a statement at the position of an assertion is that assertion
pub has_with : (S : Database) (a : ℕ) (s t : Stmt) (label : Name) → Carries S a s label → HasAssertion S a t → HasAssertion S a s
has_with S a s t label carries has = (carries.stands, ap is_assertion (some-same carries.stands has.0) ∙ has.1)

-- a table with one more label and its meaning
pub entries-more : (S : Database) (at : ℕ) (ls : List Name) (label : Name) (es : List LabelEntry) (entry : LabelEntry) → AreEntries S at ls es → IsEntry S at label entry → AreEntries S at (ls ++ label ∷ []) (es ++ entry ∷ [])
entries-more S at ls label es entry a is = record { count = counted; each = λ k h. each k h (nat_lt k (length ls)) refl }
  where
    counted : length (es ++ entry ∷ []) ≡ length (ls ++ label ∷ [])
    counted = let p = length-append es (entry ∷ []) in let q = length-append ls (label ∷ []) in let c = a.count in omega (arith, p, q, c)

    each : (k : ℕ) → k < length (ls ++ label ∷ []) → (b : Bool) → nat_lt k (length ls) ≡ b → IsEntry S at (get_or (ls ++ label ∷ []) k []) (get_or (es ++ entry ∷ []) k Nothing)
    each k h true q =
        let lt : k < length ls = grind (arith, q) in
        let c = a.count in
        subst (λ l. IsEntry S at l (get_or (es ++ entry ∷ []) k Nothing)) (sym (get-front ls (label ∷ []) k [] lt))
        (subst (IsEntry S at (get_or ls k [])) (sym (get-front es (entry ∷ []) k Nothing (omega (arith, lt, c)))) (a.each k lt))
    each k h false q =
        let p = length-append ls (label ∷ []) in
        let same : k ≡ length ls = grind (arith, q, h, p) in
        let c = a.count in
        subst (λ l. IsEntry S at l (get_or (es ++ entry ∷ []) k Nothing)) (sym (get-last ls label k [] same))
        (subst (IsEntry S at label) (sym (get-last es entry k Nothing (same ∙ sym c))) is)

-- a table of the first labels with the meaning of the next label, which is found by its position
pub table-more : (S : Database) (at : ℕ) (labels : List Name) (positions : List (Option ℕ)) (i : ℕ) (d : Option ℕ) (table table' : List LabelEntry) (entry : LabelEntry) → ArePositions S labels positions → i < length positions
    → AreEntries S at (take i labels) table → table' ≡ table ++ entry ∷ [] → ((label : Name) → IsPosition S label (get_or positions i d) → IsEntry S at label entry) → AreEntries S at (take (i + 1) labels) table'
table-more S at labels positions i d table table' entry are less front grown is =
    let c = are.count in
    let within : i < length labels = omega (arith, less, c) in
    let here = subst (IsPosition S (get_or labels i [])) (get_or_default positions i None d less) (are.each i within) in
    subst (λ ls. AreEntries S at ls table') (sym (take_more labels i [] within))
    (subst (AreEntries S at (take i labels ++ get_or labels i [] ∷ [])) (sym grown) (entries-more S at (take i labels) (get_or labels i []) table entry front (is (get_or labels i []) here)))

-- the entry at an index of the table is the meaning of the label at that index
pub entry_at : (S : Database) (at : ℕ) (labels : List Name) (table : List LabelEntry) (k : ℕ) (d : LabelEntry) → AreEntries S at labels table → k < length table → IsEntry S at (get_or labels k []) (get_or table k d)
entry_at S at labels table k d are h =
    let c = are.count in
    subst (IsEntry S at (get_or labels k [])) (get_or_default table k Nothing d h) (are.each k (omega (arith, h, c)))

-- a number that is not 0 is the successor of the one before it
pub suc_back : (n : ℕ) → (n ≡ 0 → ⊥) → n ≡ suc (n - 1)
suc_back n h = omega (arith, h)

-- ---- a listed label

abbrev is_at : ℕ → LabelEntry → Bool
is_at p (Hypothesis i) = p == i
is_at p (Assertion a) = false
is_at p Nothing = false

one-test : (S : Database) (at : ℕ) (label : Name) (e : LabelEntry) (p : ℕ) → HasLabelsOnce S → IsEntry S at label e → IsMandatory S at p → name_eq label (label_or_empty (stmt_at S p)) ≡ is_at p e
one-test S at label (Hypothesis i) p once is m =
    both_ways (name_eq label (label_or_empty (stmt_at S p))) (p == i)
    (λ t.
    let same : label ≡ label_or_empty (stmt_at S p) = (bytes_eq-Decides label (label_or_empty (stmt_at S p))).0 t in
    let one : p ≡ i = once p i m.stmt is.0 (label_or_empty (stmt_at S p)) m.carries (subst (Carries S i is.0) same is.1) in
    grind (arith, nat_tests))
    (λ t.
    let one : p ≡ i = grind (arith, nat_tests) in
    let there : Carries S p is.0 label = subst (λ k. Carries S k is.0 label) (sym one) is.1 in
    let equal : Some label ≡ Some (label_or_empty (stmt_at S p)) = sym there.carried ∙ (ap label_of (some-same there.stands m.carries.stands) ∙ m.carries.carried) in
    (bytes_eq-Decides label (label_or_empty (stmt_at S p))).1 (let q : label ≡ label_or_empty (stmt_at S p) = cc in q))
one-test S at label (Assertion a) p once is m =
    both_ways (name_eq label (label_or_empty (stmt_at S p))) false
    (λ t.
    let same : label ≡ label_or_empty (stmt_at S p) = (bytes_eq-Decides label (label_or_empty (stmt_at S p))).0 t in
    let there : Carries S a is.0 (label_or_empty (stmt_at S p)) = subst (Carries S a is.0) same is.1 in
    let one : p ≡ a = once p a m.stmt is.0 (label_or_empty (stmt_at S p)) m.carries there in
    let stmt : m.stmt ≡ is.0 = some-same m.carries.stands (ap (stmt_at S) one ∙ there.stands) in
    absurd (not_both is.0 (ap is_hypothesis_kind (sym stmt) ∙ m.active.kind) is.2.assertion))
    (λ f. absurd (true≢false (sym f)))
one-test S at label Nothing p once is m =
    both_ways (name_eq label (label_or_empty (stmt_at S p))) false
    (λ t.
    let same : label ≡ label_or_empty (stmt_at S p) = (bytes_eq-Decides label (label_or_empty (stmt_at S p))).0 t in
    absurd ((is p m.stmt (subst (Carries S p m.stmt) (sym same) m.carries)).0 m.active))
    (λ f. absurd (true≢false (sym f)))

among-some : (S : Database) (at : ℕ) (label : Name) (e : LabelEntry) (ps : List ℕ) → HasLabelsOnce S → IsEntry S at label e → AreMandatory S at ps → has_name label (labels_at S ps) ≡ list_any (λ p. is_at p e) ps
among-some S at label e [] once is m = refl
among-some S at label e (p ∷ ps) once is m =
    ap (λ b. b || has_name label (labels_at S ps)) (one-test S at label e p once is m.0) ∙ ap (λ b. is_at p e || b) (among-some S at label e ps once is m.1)

none-at : (ps : List ℕ) → list_any (λ p. false) ps ≡ false
none-at [] = refl
none-at (p ∷ ps) = none-at ps

-- an entry is at one of the positions if and only if it is a hypothesis at one of them
among : (ps : List ℕ) (e : LabelEntry) → list_any (λ p. is_at p e) ps ≡ is_hypothesis_among ps e
among ps (Hypothesis i) = refl
among ps (Assertion a) = none-at ps
among ps Nothing = none-at ps

pub label-among : (S : Database) (at : ℕ) (s : Stmt) (label : Name) (e : LabelEntry) → HasLabelsOnce S → IsProvable S at s → IsEntry S at label e
    → has_name label (mandatory_labels S at s) ≡ is_hypothesis_among (hypotheses (before S at) s) e
label-among S at s label e once p is =
    among-some S at label e (hypotheses (before S at) s) once is (mandatory-of S at s p) ∙ among (hypotheses (before S at) s) e

-- with one more listed label, a mandatory label is listed if one was before or the new label means
-- a mandatory hypothesis
pub shared-more : (S : Database) (at : ℕ) (s : Stmt) (listed : List Name) (label : Name) (e : LabelEntry) → HasLabelsOnce S → IsProvable S at s → IsEntry S at label e
    → share_label (mandatory_labels S at s) (listed ++ label ∷ []) ≡ (share_label (mandatory_labels S at s) listed || is_hypothesis_among (hypotheses (before S at) s) e)
shared-more S at s listed label e once p is =
    list_any-append (λ l. has_name l (mandatory_labels S at s)) listed (label ∷ [])
    ∙ ap (λ b. share_label (mandatory_labels S at s) listed || b) (or-false (has_name label (mandatory_labels S at s)) ∙ label-among S at s label e once p is)

-- ---- the positions of the hypotheses rise

abbrev Rises : ℕ → List ℕ → Type 0
Rises n [] = Unit {0}
Rises n (p ∷ ps) = (n ≤ p) × Rises p ps

-- numbers that rise from a bound rise from a smaller bound
pub rises-less : (m n : ℕ) (ps : List ℕ) → m ≤ n → Rises n ps → Rises m ps
rises-less m n [] h r = tt
rises-less m n (p ∷ ps) h r = let a = r.0 in (omega (arith, h, a), r.1)

rises-active : (q : (ℕ × Stmt) → Bool) (n : ℕ) (T : Database) → Rises n (map (λ p. p.0) (filter q (active_from n T)))
rises-active q n [] = tt
rises-active q n (t ∷ T) = by (rises-active q (n + 1) T) (stays_open 0 T)
  where
    by : Rises (n + 1) (map (λ p. p.0) (filter q (active_from (n + 1) T))) → (b : Bool) → Rises n (map (λ p. p.0) (filter q (cond b ((n, t) ∷ active_from (n + 1) T) (active_from (n + 1) T))))
    by more false = rises-less n (n + 1) (map (λ p. p.0) (filter q (active_from (n + 1) T))) (omega arith) more
    by more true = one (q (n, t))
      where
        one : (b : Bool) → Rises n (map (λ p. p.0) (cond b ((n, t) ∷ filter q (active_from (n + 1) T)) (filter q (active_from (n + 1) T))))
        one true = (omega arith, rises-less n (n + 1) (map (λ p. p.0) (filter q (active_from (n + 1) T))) (omega arith) more)
        one false = rises-less n (n + 1) (map (λ p. p.0) (filter q (active_from (n + 1) T))) (omega arith) more

rises-above : (n : ℕ) (ps : List ℕ) → Rises n ps → (k d : ℕ) → k < length ps → n ≤ slice_index_or ps k d
rises-above n [] r k d h = absurd (omega (arith, h))
rises-above n (p ∷ ps) r zero d h = r.0
rises-above n (p ∷ ps) r (suc k) d h = let a = r.0 in let b = rises-above p ps r.1 k d (omega (arith, h)) in omega (arith, a, b)

non-decreasing : (n : ℕ) (ps : List ℕ) → Rises n ps → IsNonDecreasing ps
non-decreasing n [] r i j d h less = absurd (omega (arith, less))
non-decreasing n (p ∷ ps) r zero zero d h less = omega arith
non-decreasing n (p ∷ ps) r zero (suc j) d h less = rises-above p ps r.1 j d (omega (arith, less))
non-decreasing n (p ∷ ps) r (suc i) zero d h less = absurd (omega (arith, h))
non-decreasing n (p ∷ ps) r (suc i) (suc j) d h less = non-decreasing p ps r.1 i j d (omega (arith, h)) (omega (arith, less))

pub hypotheses-rise : (S : Database) (s : Stmt) → IsNonDecreasing (hypotheses S s)
hypotheses-rise S s = non-decreasing 1 (hypotheses S s) (rises-active (λ p. is_hypothesis S s p.1) 1 S)

-- a position that the search finds is in the list
some-at : (ps : List ℕ) (x k : ℕ) → k < length ps → get_or ps k 0 ≡ x → list_any (λ p. p == x) ps ≡ true
some-at [] x k h e = absurd (omega (arith, h))
some-at (p ∷ ps) x zero h e = let t : (p == x) ≡ true = grind (arith, nat_tests) in ap (λ b. b || list_any (λ p. p == x) ps) t
some-at (p ∷ ps) x (suc k) h e = or_right (p == x) (list_any (λ p. p == x) ps) (some-at ps x k (omega (arith, h)) e)

pub none-is : (ps : List ℕ) (x : ℕ) → ((k : ℕ) → k < length ps → get_or ps k 0 ≡ x → ⊥) → list_any (λ p. p == x) ps ≡ false
none-is [] x h = refl
none-is (p ∷ ps) x h =
    let t : (p == x) ≡ false = by (p == x) refl in
    ap (λ b. b || list_any (λ p. p == x) ps) t ∙ none-is ps x (λ k less e. h (suc k) (omega (arith, less)) e)
  where
    by : (b : Bool) → (p == x) ≡ b → b ≡ false
    by true e = absurd (h zero (omega arith) (grind (arith, nat_tests)))
    by false e = refl

pub found-is : (ps : List ℕ) (x : ℕ) (r : Result ℕ ℕ)
    → MatchResult r (λ i. (i < length ps) × (get_or ps i 0 ≡ x)) (λ i. (i ≤ length ps) × ((k : ℕ) → k < i → get_or ps k 0 < x) × ((k : ℕ) → i ≤ k → k < length ps → x < get_or ps k 0))
    → Rattle.std.specs.Prelude.is_ok r ≡ list_any (λ p. p == x) ps
found-is ps x (Ok i) h = sym (some-at ps x i h.0 h.1)
found-is ps x (Err i) h = sym (none-is ps x (λ k less e. by k less e (nat_lt k i) refl))
  where
    by : (k : ℕ) → k < length ps → get_or ps k 0 ≡ x → (b : Bool) → nat_lt k i ≡ b → ⊥
    by k less e true q = let lt : k < i = grind (arith, nat_tests) in let a = h.1 k lt in omega (arith, a, e)
    by k less e false q = let ge : i ≤ k = grind (arith, nat_tests) in let a = h.2 k ge less in omega (arith, a, e)

-- ---- the listed labels, one after another

-- the first n of the words are added to the table, and none of them is the label of a mandatory
-- hypothesis
pub record AreAdded (S : Database) (at : ℕ) (words left : List Name) (n : ℕ) (old table : List LabelEntry) : Type 0 where
  pub rest : drop n words ≡ left
  pub entries : (front : List Name) → AreEntries S at front old → AreEntries S at (front ++ take n words) table
  pub apart : (s : Stmt) → IsProvable S at s → share_label (mandatory_labels S at s) (take n words) ≡ false

any-more : (f : Name → Bool) (xs : List Name) (i j : ℕ) → i ≤ j → list_any f (take i xs) ≡ true → list_any f (take j xs) ≡ true
any-more f [] zero j h t = absurd (true≢false (sym t))
any-more f [] (suc i) j h t = absurd (true≢false (sym t))
any-more f (x ∷ xs) zero j h t = absurd (true≢false (sym t))
any-more f (x ∷ xs) (suc i) zero h t = absurd (omega (arith, h))
any-more f (x ∷ xs) (suc i) (suc j) h t = by (any-more f xs i j (omega (arith, h))) (f x) t
  where
    by : (list_any f (take i xs) ≡ true → list_any f (take j xs) ≡ true) → (b : Bool) → (b || list_any f (take i xs)) ≡ true → (b || list_any f (take j xs)) ≡ true
    by more true u = refl
    by more false u = more u

module _ (S : Database) (at : ℕ) (words left : List Name) (n : ℕ) (old table : List LabelEntry) (added : AreAdded S at words left n old table) (within : n < length words) where
  pub word-left : left ≡ [] → ⊥
  word-left none = let l = length-drop n words in let e = ap length (added.rest ∙ none) in omega (arith, within, l, e)

  module _ (label : Name) (rest : List Name) (first : left ≡ label ∷ rest) where
    -- the word at the index is the next label, and the others follow it
    at_drop : slice_index_or words n [] ∷ drop (n + 1) words ≡ label ∷ rest
    at_drop = sym (drop_more words n [] within) ∙ (added.rest ∙ first)

    -- the first n + 1 words are the first n words and that label
    taken : take (n + 1) words ≡ take n words ++ label ∷ []
    taken = take_more words n [] within ∙ ap (λ l. take n words ++ l ∷ []) (let e = at_drop in let same : slice_index_or words n [] ≡ label = cc in same)

    module _ (entry : LabelEntry) (once : HasLabelsOnce S) (is : IsEntry S at label entry) where
      shared-now : (s : Stmt) → IsProvable S at s → share_label (mandatory_labels S at s) (take (n + 1) words) ≡ is_hypothesis_among (hypotheses (before S at) s) entry
      shared-now s p =
          ap (share_label (mandatory_labels S at s)) taken
          ∙ (shared-more S at s (take n words) label entry once p is ∙ ap (λ b. b || is_hypothesis_among (hypotheses (before S at) s) entry) (added.apart s p))

      pub one-added : (s : Stmt) → IsProvable S at s → is_hypothesis_among (hypotheses (before S at) s) entry ≡ false → (more : List LabelEntry) → more ≡ table ++ entry ∷ [] → AreAdded S at words rest (n + 1) old more
      one-added s p other more grown = record {
        rest = let e = at_drop in let same : drop (n + 1) words ≡ rest = cc in same;
        entries = λ front are.
            subst (λ ls. AreEntries S at ls more) (append_assoc front (take n words) (label ∷ []) ∙ ap (λ ls. front ++ ls) (sym taken))
            (subst (AreEntries S at ((front ++ take n words) ++ label ∷ [])) (sym grown) (entries-more S at (front ++ take n words) label table entry (added.entries front are) is));
        apart = λ r q. shared-now r q ∙ (ap (λ u. is_hypothesis_among (hypotheses (before S at) u) entry) (some-same q.stands p.stands) ∙ other);
      }

      pub one-shared : (s : Stmt) → IsProvable S at s → is_hypothesis_among (hypotheses (before S at) s) entry ≡ true → (count : ℕ) → n + 1 ≤ count → (r : Stmt) → IsProvable S at r
          → share_label (mandatory_labels S at r) (take count words) ≡ true
      one-shared s p one count far r q =
          any-more (λ l. has_name l (mandatory_labels S at r)) words (n + 1) count far (shared-now r q ∙ (ap (λ u. is_hypothesis_among (hypotheses (before S at) u) entry) (some-same q.stands p.stands) ∙ one))
