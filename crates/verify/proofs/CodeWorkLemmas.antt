-- What a proof counts, by the items that its tokens write.
use Rattle.verify.proofs.Words.{◌≡◌, ◌⊎◌, ℕ, ◌+◌, arith, Bool, true, false, List, [], ◌∷◌, ◌++◌, length, map, Option, Some, None, Result, Ok, Err, IfOk, inl, inr, list_all, option_map, refl, sym, ◌∙◌, ap, subst, true≢false, some-same, bytes_eq-Decides, Name, Database, Stmt, before, stmt_at, Item, Cite, items_of, start, share_label, is_compressed, IsHeadingWithNumbers, WritesCompressed, mandatory_labels, Answer, Proved, Wrong}
use Rattle.std.specs.List.{flat_map}
use Rattle.std.specs.Prelude.{◌*◌}
use Rattle.mm_lex.specs.Alphabet.{is_label}
use Rattle.frame.specs.Sizes.{assertion_size}
use Rattle.proof_code.proofs.AnswersLemmas.{labels_finished}
use Rattle.proof_code.proofs.LetterItemLemmas.{WritesRow-read, read-WritesRow}
use Rattle.proof_code.proofs.RowOfNumbers.{joined}
use Rattle.proof_code.proofs.WritesLemmas.{read-header, row_after, without_header, written_after}
use Rattle.proof_code.specs.Text.{ListAndRest, list_and_rest, numbers_from, starts_with_mark}
use Rattle.proof_code.specs.Writes.{IsMalformed, WritesFinishedNormal, WritesRow, is_unfinished, left_parenthesis}
use Rattle.subst.proofs.PastLemmas.{past-more}
use Rattle.verify.proofs.CountLemmas.{with-none}
use Rattle.verify.proofs.ItemCountLemmas.{more-work}
use Rattle.verify.proofs.WorkLemmas.{mandatory-before}
use Rattle.verify.specs.Counted.{HasCountedAnswer, HasCountedProof}
use Rattle.verify.specs.Metered.{Metered, is_past, with_work}
use Rattle.verify.specs.Work.{compressed_items, items_work, letter_items, listed_count, normal_items, proof_work, written_work}
use Rattle.verify.specs.declared.answer.Answer.TheVariants.{TooCostly}

-- two parts were counted
pub first-counted : (m m1 m2 : Metered) (a b x y : ℕ) → x ≡ a → m1 ≡ with_work m x → y ≡ b → m2 ≡ with_work m1 y → m2 ≡ with_work m (a + b)
first-counted m m1 m2 a b x y p one q two =
    two ∙ (ap (λ n. with_work n y) one ∙ (more-work m x y ∙ (ap (λ n. with_work m (n + y)) p ∙ ap (λ n. with_work m (a + n)) q)))

joined-is : (words : List Name) → joined words ≡ flat_map (λ token. token) words
joined-is [] = refl
joined-is (word ∷ words) = ap (λ rest. word ++ rest) (joined-is words)

letters-written : (labels : List Name) (letters : List ℕ) (items : List Item) → WritesRow labels letters items → letter_items labels letters ≡ Some items
letters-written labels letters items w = let r = read-WritesRow labels letters items w in rw (r.starts, r.read) (ap Some r.are)

module _ (tokens before : List Name) (starts : tokens ≡ left_parenthesis ∷ before) (mandatory : List Name) where
  -- the items that a compressed proof writes
  pub items-written : (items : List Item) → WritesCompressed tokens mandatory items → compressed_items mandatory (list_and_rest before) ≡ Some items
  items-written items w = by (list_and_rest before) refl
    where
      by : (o : Option ListAndRest) → list_and_rest before ≡ o → compressed_items mandatory o ≡ Some items
      by None e = absurd (without_header tokens before starts e mandatory items w)
      by (Some header) e =
          let r = row_after tokens before starts header e mandatory items w in
          rw (r.0) (letters-written (mandatory ++ header.listed) (flat_map (λ token. token) header.rest) items (subst (λ letters. WritesRow (mandatory ++ header.listed) letters items) (joined-is header.rest) r.1))

  -- tokens that write no items have none
  pub none-written : ((items : List Item) → WritesCompressed tokens mandatory items → ⊥) → compressed_items mandatory (list_and_rest before) ≡ None
  none-written none = by (list_and_rest before) refl
    where
      by : (o : Option ListAndRest) → list_and_rest before ≡ o → compressed_items mandatory o ≡ None
      by None e = refl
      by (Some header) e = shared (share_label mandatory header.listed) refl
        where
          labels : List Name
          labels = mandatory ++ header.listed

          letters : List ℕ
          letters = flat_map (λ token. token) header.rest

          read : share_label mandatory header.listed ≡ false → starts_with_mark letters ≡ false → (o : Option (List ℕ)) → numbers_from (length labels) 0 letters ≡ o → option_map (items_of labels) o ≡ None
          read apart first None h = refl
          read apart first (Some numbers) h =
              absurd (none (items_of labels numbers) (written_after tokens before starts header e mandatory (items_of labels numbers) apart
              (subst (λ ls. WritesRow labels ls (items_of labels numbers)) (sym (joined-is header.rest)) (WritesRow-read labels letters numbers first h))))

          marked : share_label mandatory header.listed ≡ false → (b : Bool) → starts_with_mark letters ≡ b → letter_items labels letters ≡ None
          marked apart true h = rw h refl
          marked apart false h = rw h (read apart h (numbers_from (length labels) 0 letters) refl)

          shared : (b : Bool) → share_label mandatory header.listed ≡ b → compressed_items mandatory (Some header) ≡ None
          shared true h = rw h refl
          shared false h = rw h (marked h (starts_with_mark letters) refl)

-- ---- normal proofs

normal-work : (D : Database) (s : Stmt) (tokens : List Name) → is_compressed tokens ≡ false → proof_work D s tokens ≡ written_work D (16 * length tokens) (normal_items tokens)
normal-work D s [] h = refl
normal-work D s (token ∷ tokens) h = rw h refl

normal-written : (tokens : List Name) (items : List Item) → WritesFinishedNormal tokens items → normal_items tokens ≡ Some items
normal-written tokens items w = rw (w.1.labels) (ap Some (sym w.1.cites))

-- a normal proof that writes items counts 16 for each token, and the items
pub normal-counts : (D : Database) (s : Stmt) (tokens : List Name) → is_compressed tokens ≡ false → (items : List Item) → WritesFinishedNormal tokens items → proof_work D s tokens ≡ 16 * length tokens + items_work D items start
normal-counts D s tokens h items w = normal-work D s tokens h ∙ ap (written_work D (16 * length tokens)) (normal-written tokens items w)

-- one that writes none counts nothing
pub normal-counts-none : (D : Database) (s : Stmt) (tokens : List Name) → is_compressed tokens ≡ false → (is_unfinished tokens ≡ true) ⊎ IsMalformed tokens (WritesFinishedNormal tokens) → proof_work D s tokens ≡ 0
normal-counts-none D s tokens h fault = normal-work D s tokens h ∙ ap (written_work D (16 * length tokens)) (by (list_all is_label tokens) refl)
  where
    by : (b : Bool) → list_all is_label tokens ≡ b → normal_items tokens ≡ None
    by false e = rw e refl
    by true e = elim fault [
      | inl u ↦ absurd (true≢false (sym u ∙ labels_finished tokens e))
      | inr p ↦ absurd (p.1 (map (λ token. Cite token) tokens) (p.0, record { labels = e; cites = refl }))
    ]

-- ---- compressed proofs

begins-with : (tokens : List Name) → is_compressed tokens ≡ true → (words : List Name) × (tokens ≡ left_parenthesis ∷ words)
begins-with [] h = absurd (true≢false (sym h))
begins-with (token ∷ words) h = (words, ap (λ t. t ∷ words) ((bytes_eq-Decides token left_parenthesis).0 h))

module _ (S : Database) (at : ℕ) (s : Stmt) (stands : stmt_at S at ≡ Some s) where
  compressed-work : (tokens words : List Name) → tokens ≡ left_parenthesis ∷ words
      → proof_work (before S at) s tokens ≡ written_work (before S at) (16 * listed_count (list_and_rest words) + assertion_size (before S at) s) (compressed_items (mandatory_labels S at s) (list_and_rest words))
  compressed-work tokens words starts =
      ap (proof_work (before S at) s) starts
      ∙ ap (λ labels. written_work (before S at) (16 * listed_count (list_and_rest words) + assertion_size (before S at) s) (compressed_items labels (list_and_rest words))) (mandatory-before S at s stands)

  -- a compressed proof that writes no items counts nothing
  pub compressed-counts-none : (tokens : List Name) → is_compressed tokens ≡ true → ((items : List Item) → WritesCompressed tokens (mandatory_labels S at s) items → ⊥) → proof_work (before S at) s tokens ≡ 0
  compressed-counts-none tokens h none =
      let b = begins-with tokens h in
      compressed-work tokens b.0 b.1
      ∙ ap (written_work (before S at) (16 * listed_count (list_and_rest b.0) + assertion_size (before S at) s)) (none-written tokens b.0 b.1 (mandatory_labels S at s) none)

  -- one that writes items counts 16 for each label listed, the size of the theorem, and the items
  pub compressed-counts : (tokens words : List Name) (m count : ℕ) (numbers : List ℕ) → IsHeadingWithNumbers tokens m words count numbers → (items : List Item) → WritesCompressed tokens (mandatory_labels S at s) items
      → proof_work (before S at) s tokens ≡ 16 * count + assertion_size (before S at) s + items_work (before S at) items start
  compressed-counts tokens words m count numbers heading items w =
      let read = ap list_and_rest heading.whole ∙ read-header heading.listed heading.rest heading.labels in
      compressed-work tokens words heading.starts
      ∙ (ap (λ n. written_work (before S at) (16 * n + assertion_size (before S at) s) (compressed_items (mandatory_labels S at s) (list_and_rest words))) (ap listed_count read ∙ heading.many)
      ∙ ap (written_work (before S at) (16 * count + assertion_size (before S at) s)) (items-written tokens words heading.starts (mandatory_labels S at s) items w))

  -- ---- the answers

  -- what is counted after so much completes the work of the proof
  pub counted-after : {E : Type 0} (tokens : List Name) (m m1 m' : Metered) (first more : ℕ) → m1 ≡ with_work m first → proof_work (before S at) s tokens ≡ first + more → (r : Result Answer E) → IfOk r (HasCountedAnswer more m1 m')
      → IfOk r (HasCountedProof S at tokens m m')
  counted-after {E = E} tokens m m1 m' first more begun whole r counted = by r counted
    where
      same : (t : Stmt) → stmt_at S at ≡ Some t → with_work m1 more ≡ with_work m (proof_work (before S at) t tokens)
      same t there =
          ap (λ x. with_work x more) begun
          ∙ (more-work m first more ∙ (ap (with_work m) (sym whole) ∙ ap (λ u. with_work m (proof_work (before S at) u tokens)) (some-same stands there)))

      by : (r : Result Answer E) → IfOk r (HasCountedAnswer more m1 m') → IfOk r (HasCountedProof S at tokens m m')
      by (Err x) h = tt
      by (Ok Proved) h = λ t there. h ∙ same t there
      by (Ok Wrong) h = λ t there. h ∙ same t there
      by (Ok TooCostly) h = λ t there. ap is_past (sym (same t there)) ∙ h

  -- what is counted before the items is past the limit
  pub counted-past : (tokens : List Name) (m m1 : Metered) (first more : ℕ) → m1 ≡ with_work m first → proof_work (before S at) s tokens ≡ first + more → is_past m1 ≡ true → HasCountedProof S at tokens m m1 TooCostly
  counted-past tokens m m1 first more begun whole past t there =
      let is : proof_work (before S at) t tokens ≡ first + more = ap (λ u. proof_work (before S at) u tokens) (some-same there stands) ∙ whole in
      past-more m.limit (m.count + first) (m.count + proof_work (before S at) t tokens) (omega (arith, is)) (ap is_past (sym begun) ∙ past)

  -- a proof that counts nothing
  pub counted-none : (tokens : List Name) (m : Metered) → proof_work (before S at) s tokens ≡ 0 → HasCountedProof S at tokens m m Wrong
  counted-none tokens m none t there = with-none m ∙ ap (with_work m) (sym none ∙ ap (λ u. proof_work (before S at) u tokens) (some-same stands there))
