-- Tokens write at most one list of items, and each proof has exactly one answer.
use Rattle.proof_code.proofs.Words.{◌≡◌, ℕ, ◌⊎◌, Bool, true, false, List, [], ◌∷◌, ◌++◌, map, length, Option, Some, None, refl, list_all, sym, ◌∙◌, ap, true≢false, inl, inr, none-some, same_Some, bytes_eq-Decides, both_ways, cases_Bool, Name, is_label, Item, Cite, items_of, share_label, ListAndRest, list_and_rest, numbers_from, starts_with_mark, left_parenthesis, is_unfinished, is_compressed, WritesRow, WritesCompressed, WritesNormal, Writes, IsMalformed, WritesFinishedCompressed, OneAnswer}
use Rattle.proof_code.proofs.LetterItemLemmas.{RowIsRead, WritesRow-read, read-WritesRow}
use Rattle.proof_code.proofs.RowOfNumbers.{joined}
use Rattle.proof_code.proofs.WritesLemmas.{without_header, row_after, written_after}

-- ---- one list, or none

-- exactly one list of items is written, or none
abbrev Written : (List Item → Type 0) → Type 0
Written W = ((items : List Item) × W items × ((other : List Item) → W other → other ≡ items)) ⊎ ((items : List Item) → W items → ⊥)

-- if two ways of writing write the same lists, the property holds for one if it holds for the other
carried : {V W : List Item → Type 0} → ((items : List Item) → V items → W items) → ((items : List Item) → W items → V items) → Written V → Written W
carried to from (inl v) = inl (v.0, to v.0 v.1, λ other w. v.2 other (from other w))
carried to from (inr none) = inr (λ items w. none items (from items w))

-- a normal proof writes one list of items, or none
normal_or_not : (tokens : List Name) → Written (WritesNormal tokens)
normal_or_not tokens = elim (cases_Bool (list_all is_label tokens)) [
  | inl e ↦ inl (map (λ token. Cite token) tokens, record { labels = e; cites = refl }, λ items w. w.cites)
  | inr e ↦ inr (λ items w. true≢false (sym w.labels ∙ e))
]

-- letters write one list of items, or none
row_or_not : (labels : List Name) (letters : List ℕ) → Written (WritesRow labels letters)
row_or_not labels letters = by (starts_with_mark letters) refl (numbers_from (length labels) 0 letters) refl
  where
    by : (t : Bool) → starts_with_mark letters ≡ t → (o : Option (List ℕ)) → numbers_from (length labels) 0 letters ≡ o → Written (WritesRow labels letters)
    by true e o r = inr (λ items w. true≢false (sym e ∙ (read-WritesRow labels letters items w).starts))
    by false e None r = inr (λ items w. let read : RowIsRead labels letters items = read-WritesRow labels letters items w in none-some read.numbers (sym r ∙ read.read))
    by false e (Some numbers) r = inl (
      items_of labels numbers,
      WritesRow-read labels letters numbers e r,
      λ items w.
          let read : RowIsRead labels letters items = read-WritesRow labels letters items w in
          sym read.are ∙ ap (items_of labels) (same_Some read.numbers numbers (sym read.read ∙ r)),
    )

-- the tokens after the first one of a compressed proof
abbrev without_first : List Name → List Name
without_first [] = []
without_first (token ∷ tokens) = tokens

-- a compressed proof begins with `(`
begins_so : (tokens : List Name) → is_compressed tokens ≡ true → tokens ≡ left_parenthesis ∷ without_first tokens
begins_so [] h = cc
begins_so (token ∷ tokens) h = ap (λ t. t ∷ tokens) ((bytes_eq-Decides token left_parenthesis).0 h)

-- a compressed proof writes one list of items, or none
compressed_or_not : (tokens mandatory : List Name) → is_compressed tokens ≡ true → Written (WritesCompressed tokens mandatory)
compressed_or_not tokens mandatory compressed = by (list_and_rest (without_first tokens)) refl
  where
    starts : tokens ≡ left_parenthesis ∷ without_first tokens
    starts = begins_so tokens compressed

    by : (o : Option ListAndRest) → list_and_rest (without_first tokens) ≡ o → Written (WritesCompressed tokens mandatory)
    by None none = inr (without_header tokens (without_first tokens) starts none mandatory)
    by (Some header) read = elim (cases_Bool (share_label mandatory header.listed)) [
      | inl e ↦ inr (λ items w. true≢false (sym e ∙ (row_after tokens (without_first tokens) starts header read mandatory items w).0))
      | inr e ↦ carried (λ items. written_after tokens (without_first tokens) starts header read mandatory items e)
          (λ items w. (row_after tokens (without_first tokens) starts header read mandatory items w).1) (row_or_not (mandatory ++ header.listed) (joined header.rest))
    ]

-- tokens that write items have no `?`
finished : (tokens mandatory : List Name) (items : List Item) → Writes tokens mandatory items → is_unfinished tokens ≡ false
finished tokens mandatory items (inl w) = w.1.0
finished tokens mandatory items (inr w) = w.1.0

-- tokens of either kind write one list of items, or none
one_or_none : (tokens mandatory : List Name) → Written (Writes tokens mandatory)
one_or_none tokens mandatory = elim (cases_Bool (is_unfinished tokens)) [
  | inl u ↦ inr (λ items w. true≢false (sym u ∙ finished tokens mandatory items w))
  | inr u ↦ elim (cases_Bool (is_compressed tokens)) [
    | inl c ↦ carried (λ items w. inl (c, (u, w))) (packed c) (compressed_or_not tokens mandatory c)
    | inr c ↦ carried (λ items w. inr (c, (u, w))) (plain c) (normal_or_not tokens)
  ]
]
  where
    packed : is_compressed tokens ≡ true → (items : List Item) → Writes tokens mandatory items → WritesCompressed tokens mandatory items
    packed c items (inl w) = w.1.1
    packed c items (inr w) = absurd (true≢false (sym c ∙ w.0))

    plain : is_compressed tokens ≡ false → (items : List Item) → Writes tokens mandatory items → WritesNormal tokens items
    plain c items (inl w) = absurd (true≢false (sym w.0 ∙ c))
    plain c items (inr w) = w.1.1

-- tokens write at most one list of items
pub one_list : (tokens mandatory : List Name) (a b : List Item) → Writes tokens mandatory a → Writes tokens mandatory b → a ≡ b
one_list tokens mandatory a b wa wb = elim (one_or_none tokens mandatory) [
  | inl w ↦ w.2 a wa ∙ sym (w.2 b wb)
  | inr none ↦ absurd (none a wa)
]

-- ---- one answer

-- the tokens of a malformed compressed proof write no items
pub malformed-none : (tokens mandatory : List Name) → is_compressed tokens ≡ true → IsMalformed tokens (WritesFinishedCompressed tokens mandatory) → (items : List Item) → Writes tokens mandatory items → ⊥
malformed-none tokens mandatory compressed malformed items (inl w) = malformed.1 items w.1
malformed-none tokens mandatory compressed malformed items (inr w) = both_ways (is_compressed tokens) w.0 compressed

-- each proof has exactly one answer
pub one_answer : (tokens mandatory : List Name) → OneAnswer tokens mandatory
one_answer tokens mandatory = record {
  some = elim (one_or_none tokens mandatory) [
    | inl w ↦ inl (w.0, w.1)
    | inr none ↦ elim (cases_Bool (is_unfinished tokens)) [ inl u ↦ inr (inl u) | inr u ↦ inr (inr (u, none)) ]
  ];
  finished = λ items w u. true≢false (sym u ∙ finished tokens mandatory items w);
  formed = λ items w m. m.1 items w;
  not_both = λ u m. true≢false (sym u ∙ m.0);
}
