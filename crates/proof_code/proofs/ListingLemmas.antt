-- The labels counted are those that the header lists, whether they are counted byte by byte or
-- sixteen bytes at a time.
use Rattle.proof_code.proofs.Words.{◌≡◌, ℕ, zero, suc, ◌+◌, ◌-◌, ◌<◌, ◌≤◌, Bool, true, false, cond, ◌==◌, List, [], ◌∷◌, ◌++◌, length, drop, slice_index_or, Option, Some, None, refl, list_all, option_map, sym, ◌∙◌, ap, arith, true≢false, inl, inr, append-nil, drop_more, same_Some, bytes_eq-Decides, and_parts, cases_Bool, eqb-true, false_from_ne_true, and-false, Name, name_eq, is_visible, is_label, is_label_byte, spaced, is_word, class_of, is_label_byte_or_space, are_label_bytes_or_spaces, count_by, take, take-append-drop, drop-drop, get_or-drop, letters_after_parenthesis, more_labels, with_no_labels, listed_count, ListAndRest, with_label, list_and_rest, right_parenthesis, get_or, length-drop, is_count_by}
use Rattle.proof_code.proofs.TextLemmas.{not_space}

-- ---- the classes of bytes

class-label : (b : ℕ) → is_label_byte b ≡ true → class_of b ≡ 0
class-label b h = rw h refl

class-other : (b : ℕ) → is_label_byte b ≡ false → (b == 32) ≡ false → class_of b ≡ 2
class-other b h e = rw (h, e) refl

class-space : (b : ℕ) → (b == 32) ≡ true → class_of b ≡ 1
class-space b e = rw (eqb-true b 32 e) refl

label-no_space : (b : ℕ) → is_label_byte b ≡ true → (b == 32) ≡ false
label-no_space b h = false_from_ne_true (b == 32) (λ e. true≢false (sym (rw (eqb-true b 32 e) at h)))

-- the effect of a byte on the count, by its class
listed_count-at : (fresh : Bool) (b : ℕ) (text : List ℕ) (class : ℕ) → class_of b ≡ class
    → listed_count fresh (b ∷ text) ≡ cond (class == 0) (listed_count false text) (cond (class == 1) (more_labels 1 (listed_count true text)) (with_no_labels fresh (letters_after_parenthesis (b ∷ text))))
listed_count-at fresh b text class h = ap (λ c. cond (c == 0) (listed_count false text) (cond (c == 1) (more_labels 1 (listed_count true text)) (with_no_labels fresh (letters_after_parenthesis (b ∷ text))))) h

-- ---- a word, and the text after it

abbrev after_word : List Name → List ℕ
after_word [] = []
after_word (word ∷ words) = 32 ∷ spaced (word ∷ words)

spaced-first : (word : Name) (words : List Name) → spaced (word ∷ words) ≡ word ++ after_word words
spaced-first word [] = sym (append-nil word)
spaced-first word (next ∷ words) = refl

listed_count-bytes : (word : Name) (text : List ℕ) → list_all is_label_byte word ≡ true → listed_count false (word ++ text) ≡ listed_count false text
listed_count-bytes [] text h = refl
listed_count-bytes (b ∷ word) text h =
    let parts : (is_label_byte b ≡ true) × (list_all is_label_byte word ≡ true) = and_parts (is_label_byte b) (list_all is_label_byte word) h in
    listed_count-at false b (word ++ text) 0 (class-label b parts.0) ∙ listed_count-bytes word text parts.1

listed_count-word : (word : Name) (text : List ℕ) → is_label word ≡ true → listed_count true (word ++ text) ≡ listed_count false text
listed_count-word [] text h = cc
listed_count-word (b ∷ word) text h =
    let parts : (is_label_byte b ≡ true) × (list_all is_label_byte word ≡ true) = and_parts (is_label_byte b) (list_all is_label_byte word) h in
    listed_count-at true b (word ++ text) 0 (class-label b parts.0) ∙ listed_count-bytes word text parts.1

listed_count-after : (words : List Name) → listed_count false (after_word words) ≡ more_labels 1 (listed_count true (spaced words))
listed_count-after [] = refl
listed_count-after (word ∷ words) = refl

-- a single byte that is not `)`
not_finish : (b : ℕ) → name_eq (b ∷ []) right_parenthesis ≡ false → (b == 41) ≡ false
not_finish b other = false_from_ne_true (b == 41) (λ e. true≢false (rw (eqb-true b 41 e) at other))

-- a word other than `)` does not begin the letters
letters-none : (b : ℕ) (word : Name) (words : List Name) → list_all is_visible word ≡ true → name_eq (b ∷ word) right_parenthesis ≡ false → letters_after_parenthesis ((b ∷ word) ++ after_word words) ≡ None
letters-none b [] [] seen other = rw (not_finish b other) refl
letters-none b [] (next ∷ words) seen other = rw (not_finish b other) refl
letters-none b (c ∷ word) words seen other =
    let parts : (is_visible c ≡ true) × (list_all is_visible word ≡ true) = and_parts (is_visible c) (list_all is_visible word) seen in
    rw (not_space c parts.0, and-false (b == 41)) refl

listed_count-inside : (word : Name) (words : List Name) → list_all is_visible word ≡ true → list_all is_label_byte word ≡ false → listed_count false (word ++ after_word words) ≡ None
listed_count-inside [] words seen h = absurd (true≢false h)
listed_count-inside (b ∷ word) words seen h =
    let parts : (is_visible b ≡ true) × (list_all is_visible word ≡ true) = and_parts (is_visible b) (list_all is_visible word) seen in
    elim (cases_Bool (is_label_byte b)) [
      | inl e ↦ listed_count-at false b (word ++ after_word words) 0 (class-label b e) ∙ listed_count-inside word words parts.1 (rw e at h)
      | inr e ↦ listed_count-at false b (word ++ after_word words) 2 (class-other b e (not_space b parts.0))
    ]

listed_count-none : (word : Name) (words : List Name) → is_word word ≡ true → is_label word ≡ false → name_eq word right_parenthesis ≡ false → listed_count true (word ++ after_word words) ≡ None
listed_count-none [] words seen h other = absurd (true≢false (sym seen))
listed_count-none (b ∷ word) words seen h other =
    let parts : (is_visible b ≡ true) × (list_all is_visible word ≡ true) = and_parts (is_visible b) (list_all is_visible word) seen in
    elim (cases_Bool (is_label_byte b)) [
      | inl e ↦ listed_count-at true b (word ++ after_word words) 0 (class-label b e) ∙ listed_count-inside word words parts.1 (rw e at h)
      | inr e ↦ listed_count-at true b (word ++ after_word words) 2 (class-other b e (not_space b parts.0)) ∙ ap (with_no_labels true) (letters-none b word words parts.1 other)
    ]

listed_count-right_parenthesis : (words : List Name) → listed_count true (right_parenthesis ++ after_word words) ≡ Some (0, spaced words)
listed_count-right_parenthesis [] = refl
listed_count-right_parenthesis (word ∷ words) = refl

-- ---- the whole header

abbrev told : Option ListAndRest → Option (ℕ × List ℕ)
told o = option_map (λ (header : ListAndRest). (length header.listed, spaced header.rest)) o

told-more : (word : Name) (o : Option ListAndRest) → more_labels 1 (told o) ≡ told (option_map (with_label word) o)
told-more word None = refl
told-more word (Some header) = ap (λ n. Some (n, spaced header.rest)) (let e : 1 + length header.listed ≡ length (word ∷ header.listed) = omega arith in e)

listed_count-header : (words : List Name) → list_all is_word words ≡ true → listed_count true (spaced words) ≡ told (list_and_rest words)
listed_count-header [] h = refl
listed_count-header (word ∷ words) h =
    let parts : (is_word word ≡ true) × (list_all is_word words ≡ true) = and_parts (is_word word) (list_all is_word words) h in
    rw (spaced-first word words) (elim (cases_Bool (name_eq word right_parenthesis)) [
      | inl e ↦ rw ((bytes_eq-Decides word right_parenthesis).0 e) (listed_count-right_parenthesis words)
      | inr e ↦ elim (cases_Bool (is_label word)) [
        | inl f ↦ rw (e, f) (listed_count-word word (after_word words) f ∙ (listed_count-after words ∙ (ap (more_labels 1) (listed_count-header words parts.1) ∙ told-more word (list_and_rest words))))
        | inr f ↦ rw (e, f) (listed_count-none word words parts.0 f e)
      ]
    ])

-- ---- the loop

more-both : (m n : ℕ) (o : Option (ℕ × List ℕ)) → more_labels m (more_labels n o) ≡ more_labels (m + n) o
more-both m n None = refl
more-both m n (Some f) = ap (λ k. Some (k, f.1)) (let e : m + (n + f.0) ≡ m + n + f.0 = omega arith in e)

more-none : (o : Option (ℕ × List ℕ)) → o ≡ more_labels 0 o
more-none None = refl
more-none (Some f) = ap (λ n. Some (n, f.1)) (let e : f.0 ≡ 0 + f.0 = omega arith in e)

module _ (start : Bool) (text : List ℕ) (at count last : ℕ) (same : listed_count start text ≡ more_labels count (listed_count (last == 32) (drop at text))) (within : at < length text) where
  abbrev byte : ℕ
  byte = slice_index_or text at 0

  -- the next byte is the first of those that are left to count
  at_drop : listed_count start text ≡ more_labels count (listed_count (last == 32) (byte ∷ drop (at + 1) text))
  at_drop = same ∙ ap (λ r. more_labels count (listed_count (last == 32) r)) (drop_more text at 0 within)

  pub listed_count-more : (class : ℕ) → class ≡ class_of byte → (class ≡ 2 → ⊥) → listed_count start text ≡ more_labels (count + class) (listed_count (byte == 32) (drop (at + 1) text))
  listed_count-more class is other =
      elim (cases_Bool (is_label_byte byte)) [
        | inl e ↦
            let none : class ≡ 0 = is ∙ class-label byte e in
            rw (none, label-no_space byte e) (at_drop ∙ (ap (more_labels count) (listed_count-at (last == 32) byte (drop (at + 1) text) 0 (class-label byte e)) ∙ ap (λ n. more_labels n (listed_count false (drop (at + 1) text))) (omega arith)))
        | inr e ↦ elim (cases_Bool (byte == 32)) [
          | inl f ↦
              let one : class ≡ 1 = is ∙ class-space byte f in
              rw (one, f) (at_drop ∙ (ap (more_labels count) (listed_count-at (last == 32) byte (drop (at + 1) text) 1 (class-space byte f)) ∙ more-both count 1 (listed_count true (drop (at + 1) text))))
          | inr f ↦ absurd (other (is ∙ class-other byte e f))
        ]
      ]

-- ---- sixteen bytes

abbrev pub is_space : ℕ → Bool
is_space b = b == 32

abbrev spaces_in : List ℕ → ℕ
spaces_in [] = 0
spaces_in (b ∷ bytes) = cond (b == 32) (1 + spaces_in bytes) (spaces_in bytes)

-- whether a word begins after the bytes
abbrev begins : Bool → List ℕ → Bool
begins fresh [] = fresh
begins fresh (b ∷ bytes) = begins (b == 32) bytes

listed_count-listed : (fresh : Bool) (bytes text : List ℕ) → are_label_bytes_or_spaces bytes ≡ true → listed_count fresh (bytes ++ text) ≡ more_labels (spaces_in bytes) (listed_count (begins fresh bytes) text)
listed_count-listed fresh [] text h = more-none (listed_count fresh text)
listed_count-listed fresh (b ∷ bytes) text h =
    let parts : (is_label_byte_or_space b ≡ true) × (are_label_bytes_or_spaces bytes ≡ true) = and_parts (is_label_byte_or_space b) (are_label_bytes_or_spaces bytes) h in
    elim (cases_Bool (is_label_byte b)) [
      | inl e ↦ listed_count-at fresh b (bytes ++ text) 0 (class-label b e) ∙ (listed_count-listed false bytes text parts.1 ∙ ap found (sym (label-no_space b e)))
      | inr e ↦
          let space : (b == 32) ≡ true = rw e at parts.0 in
          listed_count-at fresh b (bytes ++ text) 1 (class-space b space) ∙ (ap (more_labels 1) (listed_count-listed true bytes text parts.1) ∙ (more-both 1 (spaces_in bytes) (listed_count (begins true bytes) text) ∙ ap found (sym space)))
    ]
  where
    found : Bool → Option (ℕ × List ℕ)
    found space = more_labels (cond space (1 + spaces_in bytes) (spaces_in bytes)) (listed_count (begins space bytes) text)

begins-last : (fresh : Bool) (n : ℕ) (text : List ℕ) → n < length text → begins fresh (take (suc n) text) ≡ (slice_index_or text n 0 == 32)
begins-last fresh n [] h = absurd (omega (arith, h))
begins-last fresh zero (b ∷ text) h = refl
begins-last fresh (suc n) (b ∷ text) h = begins-last (b == 32) n text (omega (arith, h))

module _ (text : List ℕ) (at count last : ℕ) (same : listed_count true text ≡ more_labels count (listed_count (last == 32) (drop at text))) (room : at + 16 ≤ length text) where
  abbrev next : List ℕ
  next = take 16 (drop at text)

  -- a word begins after the sixteen bytes exactly if the last of them is a space
  last_is : begins (last == 32) next ≡ (slice_index_or text (at + 16 - 1) 0 == 32)
  last_is =
      begins-last (last == 32) 15 (drop at text) (omega (arith, room, length-drop at text))
      ∙ ap (λ b. b == 32) (get_or-drop at text 15 0 ∙ ap (λ n. get_or text n 0) (let e : at + 15 ≡ at + 16 - 1 = omega arith in e))

  pub listed_count-lanes : (spaces : ℕ) → are_label_bytes_or_spaces next ≡ true → spaces ≡ count_by is_space next
      → listed_count true text ≡ more_labels (count + spaces) (listed_count (slice_index_or text (at + 16 - 1) 0 == 32) (drop (at + 16) text))
  listed_count-lanes spaces listed are =
      same ∙ (ap (λ r. more_labels count (listed_count (last == 32) r)) (sym (take-append-drop 16 (drop at text)))
      ∙ (ap (more_labels count) (listed_count-listed (last == 32) next (drop 16 (drop at text)) listed)
      ∙ (more-both count (spaces_in next) (listed_count (begins (last == 32) next) (drop 16 (drop at text)))
      ∙ (ap (λ n. more_labels (count + n) (listed_count (begins (last == 32) next) (drop 16 (drop at text)))) (is_count_by spaces_in is_space refl (λ b bytes. refl) next ∙ sym are)
      ∙ (ap (λ fresh. more_labels (count + spaces) (listed_count fresh (drop 16 (drop at text)))) last_is
      ∙ ap (λ r. more_labels (count + spaces) (listed_count (slice_index_or text (at + 16 - 1) 0 == 32) r)) (drop-drop 16 at text))))))

-- ---- the answer

told-none : (o : Option ListAndRest) → told o ≡ None → o ≡ None
told-none None e = refl
told-none (Some header) e = cc

-- a header is read, with this text after its labels and this number of labels
abbrev pub Counted : Option ListAndRest → List ℕ → ℕ → Type 0
Counted o letters count = (header : ListAndRest) × (o ≡ Some header) × (spaced header.rest ≡ letters) × (length header.listed ≡ count)

told-some : (o : Option ListAndRest) (count : ℕ) (letters : List ℕ) → told o ≡ Some (count, letters) → Counted o letters count
told-some None count letters e = cc
told-some (Some header) count letters e =
    let pair : (length header.listed, spaced header.rest) ≡ (count, letters) = same_Some (length header.listed, spaced header.rest) (count, letters) e in
    (header, refl, ap (λ p. p.1) pair, ap (λ p. p.0) pair)

pub listing-none : (words : List Name) (text : List ℕ) → list_all is_word words ≡ true → text ≡ spaced words → listed_count true text ≡ None → list_and_rest words ≡ None
listing-none words text visible is none = told-none (list_and_rest words) (sym (listed_count-header words visible) ∙ (ap (listed_count true) (sym is) ∙ none))

pub listing-some : (words : List Name) (text : List ℕ) (count : ℕ) (letters : List ℕ) → list_all is_word words ≡ true → text ≡ spaced words → listed_count true text ≡ Some (count, letters)
    → Counted (list_and_rest words) letters count
listing-some words text count letters visible is some = told-some (list_and_rest words) count letters (sym (listed_count-header words visible) ∙ (ap (listed_count true) (sym is) ∙ some))
