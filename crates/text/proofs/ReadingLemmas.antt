-- A label can be read back from its file name, and a file name has only bytes that such names may
-- have.
use Rattle.std.specs.Prelude.{◌≡◌, ◌⊎◌, ℕ, ◌+◌, ◌-◌, ◌<◌, ◌^◌, ◌==◌, nat_le, Bool, true, false, not, if◌then◌else◌, List, [], ◌∷◌, ◌++◌, length, codes, decimal}
use Rattle.std.specs.List.{list_all}
use Rattle.std.specs.Char.{digit_value, is_ascii_uppercase, is_ascii_digit}
use Rattle.std.specs.Str.Parse.{AllDigits}
use Rattle.std.proofs.Common.{sym, ◌∙◌, ap, arith, refl, true≢false, append_assoc, append-nil, inl, inr}
use Rattle.std.proofs.lemmas.Bool.{and_parts, and_from}
use Rattle.std.proofs.lemmas.Bool.Decides.{nat_tests}
use Rattle.std.proofs.lemmas.Fmt.{decimal_injective, decimal_is_IsNumeral}
use Rattle.std.proofs.lemmas.List.{append_cancel_left, append_cancel_right}
use Rattle.std.proofs.lemmas.List.Folds.{list_all-append}
use Rattle.mm_lex.specs.Alphabet.{Name, has_name, is_empty, is_label, is_label_byte}
use Rattle.text.specs.FileNames.{escaped_byte, escaped, reserved, plus_if_reserved, is_spelled, label_stem, position_stem}
use Rattle.text.specs.Laws as laws
use Rattle.text.specs.Laws.{is_name_byte, is_empty_or_begins_with_dot}

-- the label that a file name spells; the flag is set after a `+`
read_by : Bool → List ℕ → Name
read_by marked [] = []
read_by true (b ∷ bytes) = (if b == 46 then b else b - 32) ∷ read_by false bytes
read_by false (b ∷ bytes) = if b == 43 then read_by true bytes else b ∷ read_by false bytes

capital : (b : ℕ) → is_ascii_uppercase b ≡ true → ((b + 32) == 46) ≡ false
capital b h = grind (arith, nat_tests, h)

no_plus : (b : ℕ) → is_label_byte b ≡ true → (b == 43) ≡ false
no_plus b h = grind (arith, nat_tests, h)

read-byte : (b : ℕ) (rest : List ℕ) → is_label_byte b ≡ true → read_by false (escaped_byte b ++ rest) ≡ b ∷ read_by false rest
unfolding read_by
read-byte b rest h = by (is_ascii_uppercase b) refl (b == 46) refl
  where
    by : (t : Bool) → is_ascii_uppercase b ≡ t → (u : Bool) → (b == 46) ≡ u → read_by false (escaped_byte b ++ rest) ≡ b ∷ read_by false rest
    by true e u f =
        ap (λ (v : Bool). read_by false ((if v then 43 ∷ (b + 32) ∷ [] else if b == 46 then 43 ∷ b ∷ [] else b ∷ []) ++ rest)) e
        ∙ (ap (λ (v : Bool). (if v then b + 32 else b + 32 - 32) ∷ read_by false rest) (capital b e)
        ∙ ap (λ c. c ∷ read_by false rest) (let same : b + 32 - 32 ≡ b = omega arith in same))
    by false e true f =
        ap (λ (v : Bool). read_by false ((if v then 43 ∷ (b + 32) ∷ [] else if b == 46 then 43 ∷ b ∷ [] else b ∷ []) ++ rest)) e
        ∙ (ap (λ (v : Bool). read_by false ((if v then 43 ∷ b ∷ [] else b ∷ []) ++ rest)) f
        ∙ ap (λ (v : Bool). (if v then b else b - 32) ∷ read_by false rest) f)
    by false e false f =
        ap (λ (v : Bool). read_by false ((if v then 43 ∷ (b + 32) ∷ [] else if b == 46 then 43 ∷ b ∷ [] else b ∷ []) ++ rest)) e
        ∙ (ap (λ (v : Bool). read_by false ((if v then 43 ∷ b ∷ [] else b ∷ []) ++ rest)) f
        ∙ ap (λ (v : Bool). if v then read_by true rest else b ∷ read_by false rest) (no_plus b h))

read-escaped : (label : Name) (rest : List ℕ) → list_all is_label_byte label ≡ true → read_by false (escaped label ++ rest) ≡ label ++ read_by false rest
read-escaped [] rest h = refl
read-escaped (b ∷ label) rest h =
    let parts : (is_label_byte b ≡ true) × (list_all is_label_byte label ≡ true) = and_parts (is_label_byte b) (list_all is_label_byte label) h in
    ap (read_by false) (append_assoc (escaped_byte b) (escaped label) rest)
    ∙ (read-byte b (escaped label ++ rest) parts.0 ∙ ap (λ l. b ∷ l) (read-escaped label rest parts.1))

read-plus_if_reserved : (label : Name) → read_by false (plus_if_reserved label) ≡ []
unfolding read_by
read-plus_if_reserved label = by (has_name label reserved)
  where
    by : (t : Bool) → read_by false (if t then codes "+" else []) ≡ []
    by true = refl
    by false = refl

label-bytes : (label : Name) → is_spelled label ≡ true → (not (is_empty label) ≡ true) × (list_all is_label_byte label ≡ true)
label-bytes label h = and_parts (not (is_empty label)) (list_all is_label_byte label) (and_parts (nat_le (length label) 100) (is_label label) h).1

read-label_stem : (label : Name) → is_spelled label ≡ true → read_by false (label_stem label) ≡ label
read-label_stem label h = read-escaped label (plus_if_reserved label) (label-bytes label h).1 ∙ (ap (λ l. label ++ l) (read-plus_if_reserved label) ∙ append-nil label)

-- ---- digits

digit_byte : (c : ℕ) → digit_value c < 10 → is_ascii_digit c ≡ true
digit_byte c small = grind (arith, nat_tests)

digit_bytes : (text : List ℕ) → AllDigits 10 text → list_all is_ascii_digit text ≡ true
digit_bytes [] all = refl
digit_bytes (c ∷ cs) all = and_from _ _ (digit_byte c all.0) (digit_bytes cs all.1)

-- a text of digits, at least one
record AreDigits (text : List ℕ) : Type 0 where
  pub first : ℕ
  pub rest : List ℕ
  pub is : text ≡ first ∷ rest
  pub digits : list_all is_ascii_digit text ≡ true

are-digits : (text : List ℕ) → 0 < length text → list_all is_ascii_digit text ≡ true → AreDigits text
are-digits [] some h = absurd (omega (arith, some))
are-digits (c ∷ cs) some h = record { first = c; rest = cs; is = refl; digits = h }

decimal-digits : (n : ℕ) → n < 2 ^ 64 → AreDigits (decimal n)
decimal-digits n fits =
    let numeral = (decimal_is_IsNumeral n fits).0 in
    are-digits (decimal n) numeral.0 (digit_bytes (decimal n) numeral.1)

-- a digit after a `+` is read as a byte that no label has
no_label_byte : (d : ℕ) → is_ascii_digit d ≡ true → is_label_byte (if d == 46 then d else d - 32) ≡ false
no_label_byte d h = by (d == 46) refl
  where
    by : (t : Bool) → (d == 46) ≡ t → is_label_byte (if t then d else d - 32) ≡ false
    by true e = let no : d ≡ 46 = grind (arith, nat_tests, e) in absurd (true≢false (sym h ∙ ap is_ascii_digit no))
    by false e = grind (arith, nat_tests, h)

-- ---- different names

-- no stem that spells a label is equal to one made from a position
stem_kinds-apart : (label : Name) (p : ℕ) → is_spelled label ≡ true → p < 2 ^ 64 → label_stem label ≡ position_stem p → ⊥
unfolding read_by
stem_kinds-apart label p h fits same =
    let d = decimal-digits p fits in
    let first = (and_parts (is_ascii_digit d.first) (list_all is_ascii_digit d.rest) (sym (ap (list_all is_ascii_digit) d.is) ∙ d.digits)).0 in
    let read : label ≡ (if d.first == 46 then d.first else d.first - 32) ∷ read_by false d.rest =
    sym (read-label_stem label h) ∙ (ap (read_by false) same ∙ ap (λ ds. read_by false (43 ∷ ds)) d.is) in
    let all = ap (list_all is_label_byte) (sym read) ∙ (label-bytes label h).1 in
    let parts = and_parts (is_label_byte (if d.first == 46 then d.first else d.first - 32)) (list_all is_label_byte (read_by false d.rest)) all in
    true≢false (sym parts.0 ∙ no_label_byte d.first first)

stems-differ : (one other : Name) (p q : ℕ) → p < 2 ^ 64 → q < 2 ^ 64 → (t : Bool) → is_spelled one ≡ t → (u : Bool) → is_spelled other ≡ u
    → (if t then label_stem one else position_stem p) ≡ (if u then label_stem other else position_stem q) → (one ≡ other) ⊎ (p ≡ q)
stems-differ one other p q pf qf true e true f same = inl (sym (read-label_stem one e) ∙ (ap (read_by false) same ∙ read-label_stem other f))
stems-differ one other p q pf qf true e false f same = absurd (stem_kinds-apart one q e qf same)
stems-differ one other p q pf qf false e true f same = absurd (stem_kinds-apart other p f pf (sym same))
stems-differ one other p q pf qf false e false f same = inr (decimal_injective p q pf qf (append_cancel_left (codes "+") (decimal p) (decimal q) same))

pub names-differ : laws.NamesDiffer
names-differ one other p q pf qf same =
    stems-differ one other p q pf qf (is_spelled one) refl (is_spelled other) refl
    (append_cancel_right (if is_spelled one then label_stem one else position_stem p) (if is_spelled other then label_stem other else position_stem q) (codes ".html") same)

-- ---- names stay within a folder

name_bytes : (b : ℕ) → is_label_byte b ≡ true → list_all is_name_byte (escaped_byte b) ≡ true
name_bytes b h = by (is_ascii_uppercase b) refl (b == 46) refl
  where
    small : is_ascii_uppercase b ≡ true → is_name_byte (b + 32) ≡ true
    small e = grind (arith, nat_tests, e)

    dot : (b == 46) ≡ true → is_name_byte b ≡ true
    dot f = grind (arith, nat_tests, f)

    kept : is_ascii_uppercase b ≡ false → is_name_byte b ≡ true
    kept e = grind (arith, nat_tests, h, e)

    by : (t : Bool) → is_ascii_uppercase b ≡ t → (u : Bool) → (b == 46) ≡ u
        → list_all is_name_byte (if t then 43 ∷ (b + 32) ∷ [] else if u then 43 ∷ b ∷ [] else b ∷ []) ≡ true
    by true e u f = and_from _ _ (small e) refl
    by false e true f = and_from _ _ (dot f) refl
    by false e false f = and_from _ _ (kept e) refl

joined_bytes : (xs ys : List ℕ) → list_all is_name_byte xs ≡ true → list_all is_name_byte ys ≡ true → list_all is_name_byte (xs ++ ys) ≡ true
joined_bytes xs ys h k = list_all-append is_name_byte xs ys ∙ and_from _ _ h k

escaped_bytes : (label : Name) → list_all is_label_byte label ≡ true → list_all is_name_byte (escaped label) ≡ true
escaped_bytes [] h = refl
escaped_bytes (b ∷ label) h =
    let parts = and_parts (is_label_byte b) (list_all is_label_byte label) h in
    joined_bytes (escaped_byte b) (escaped label) (name_bytes b parts.0) (escaped_bytes label parts.1)

plus_bytes : (label : Name) → list_all is_name_byte (plus_if_reserved label) ≡ true
plus_bytes label = by (has_name label reserved)
  where
    by : (t : Bool) → list_all is_name_byte (if t then codes "+" else []) ≡ true
    by true = refl
    by false = refl

digits_in_names : (text : List ℕ) → list_all is_ascii_digit text ≡ true → list_all is_name_byte text ≡ true
digits_in_names [] h = refl
digits_in_names (c ∷ cs) h =
    let parts = and_parts (is_ascii_digit c) (list_all is_ascii_digit cs) h in
    and_from _ _ (let d = parts.0 in let named : is_name_byte c ≡ true = grind (arith, nat_tests, d) in named) (digits_in_names cs parts.1)

-- a file name without its ending, whose first byte is no dot
record IsStem (text : List ℕ) : Type 0 where
  pub bytes : list_all is_name_byte text ≡ true
  pub undotted : (rest : List ℕ) → is_empty_or_begins_with_dot (text ++ rest) ≡ false

label_stem-is_stem : (label : Name) → is_spelled label ≡ true → IsStem (label_stem label)
label_stem-is_stem label h =
    let parts = label-bytes label h in
    record { bytes = joined_bytes (escaped label) (plus_if_reserved label) (escaped_bytes label parts.1) (plus_bytes label); undotted = λ rest. first label parts.0 rest }
  where
    byte : (b : ℕ) (rest : List ℕ) → is_empty_or_begins_with_dot (escaped_byte b ++ rest) ≡ false
    byte b rest = by (is_ascii_uppercase b) (b == 46) refl
      where
        by : (t u : Bool) → (b == 46) ≡ u → is_empty_or_begins_with_dot ((if t then 43 ∷ (b + 32) ∷ [] else if u then 43 ∷ b ∷ [] else b ∷ []) ++ rest) ≡ false
        by true u f = refl
        by false true f = refl
        by false false f = f

    first : (l : Name) → not (is_empty l) ≡ true → (rest : List ℕ) → is_empty_or_begins_with_dot ((escaped l ++ plus_if_reserved label) ++ rest) ≡ false
    first [] some rest = absurd (let e = some in cc)
    first (b ∷ l) some rest =
        ap is_empty_or_begins_with_dot (append_assoc (escaped_byte b ++ escaped l) (plus_if_reserved label) rest ∙ append_assoc (escaped_byte b) (escaped l) (plus_if_reserved label ++ rest))
        ∙ byte b (escaped l ++ (plus_if_reserved label ++ rest))

stem : (label : Name) (p : ℕ) → p < 2 ^ 64 → (t : Bool) → is_spelled label ≡ t → IsStem (if t then label_stem label else position_stem p)
stem label p fits true e = label_stem-is_stem label e
stem label p fits false e = record { bytes = joined_bytes (codes "+") (decimal p) refl (digits_in_names (decimal p) (decimal-digits p fits).digits); undotted = λ rest. refl }

pub names-stay : laws.NamesStayInAFolder
names-stay label p fits =
    let f = stem label p fits (is_spelled label) refl in
    (joined_bytes (if is_spelled label then label_stem label else position_stem p) (codes ".html") f.bytes refl, f.undotted (codes ".html"))
