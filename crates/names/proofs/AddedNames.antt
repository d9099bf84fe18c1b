-- Names are only added at the end, and a name keeps its code.
use Rattle.names.proofs.Words.{◌≡◌, ℕ, ◌+◌, Bool, true, false, not, cond, ◌||◌, List, [], ◌∷◌, ◌++◌, refl, sym, ◌∙◌, ap, subst, arith, inl, inr, append_assoc, append-nil, or_left, or_right, or_assoc, Name, name_eq, has_name, with_name, with_names, code_or_len, codes_or_len, HaveCodes, name_same, same_name}
pub use Rattle.std.proofs.lemmas.Bool.{or_cases}

pub has_name-append : (x : Name) (xs ys : List Name) → has_name x (xs ++ ys) ≡ (has_name x xs || has_name x ys)
has_name-append x [] ys = refl
has_name-append x (y ∷ xs) ys = ap (λ b. name_eq x y || b) (has_name-append x xs ys) ∙ sym (or_assoc (name_eq x y) (has_name x xs) (has_name x ys))

pub with_name-more : (names : List Name) (x : Name) → (more : List Name) × (with_name names x ≡ names ++ more)
with_name-more names x = by (has_name x names)
  where
    by : (b : Bool) → (more : List Name) × (cond b names (names ++ x ∷ []) ≡ names ++ more)
    by true = ([], sym (append-nil names))
    by false = (x ∷ [], refl)

pub with_names-more : (names xs : List Name) → (more : List Name) × (with_names names xs ≡ names ++ more)
with_names-more names [] = ([], sym (append-nil names))
with_names-more names (x ∷ xs) =
    let one = with_name-more names x in
    let rest = with_names-more (with_name names x) xs in
    (one.0 ++ rest.0, rest.1 ∙ (ap (λ ns. ns ++ rest.0) one.1 ∙ append_assoc names one.0 rest.0))

pub has-more : (x : Name) (names more : List Name) → has_name x names ≡ true → has_name x (names ++ more) ≡ true
has-more x names more h = has_name-append x names more ∙ or_left (has_name x names) (has_name x more) h

pub has-with_name : (x : Name) (names : List Name) → has_name x (with_name names x) ≡ true
has-with_name x names = by (has_name x names) refl
  where
    by : (b : Bool) → has_name x names ≡ b → has_name x (cond b names (names ++ x ∷ [])) ≡ true
    by true h = h
    by false h = has_name-append x names (x ∷ []) ∙ or_right (has_name x names) (name_eq x x || false) (or_left (name_eq x x) false (name_same x))

pub has-with_names : (x : Name) (names xs : List Name) → has_name x xs ≡ true → has_name x (with_names names xs) ≡ true
has-with_names x names [] h = cc
has-with_names x names (y ∷ xs) h = elim (or_cases (name_eq x y) (has_name x xs) h) [
  | inl e ↦ let rest = with_names-more (with_name names y) xs in
      ap (has_name x) rest.1 ∙ has-more x (with_name names y) rest.0 (ap (λ z. has_name x (with_name names z)) (sym (same_name x y e)) ∙ has-with_name x names)
  | inr k ↦ has-with_names x (with_name names y) xs k
]

pub code_or_len-more : (x : Name) (names more : List Name) → has_name x names ≡ true → code_or_len (names ++ more) x ≡ code_or_len names x
code_or_len-more x [] more h = cc
code_or_len-more x (y ∷ names) more h = by (name_eq x y) h (code_or_len-more x names more)
  where
    by : (b : Bool) → (b || has_name x names) ≡ true → (has_name x names ≡ true → code_or_len (names ++ more) x ≡ code_or_len names x)
        → cond (not b) (1 + code_or_len (names ++ more) x) 0 ≡ cond (not b) (1 + code_or_len names x) 0
    by true h rest = refl
    by false h rest = ap (λ n. 1 + n) (rest h)

pub codes_or_len-more : (names more xs : List Name) → HaveCodes names xs → codes_or_len (names ++ more) xs ≡ codes_or_len names xs
codes_or_len-more names more [] named = refl
codes_or_len-more names more (x ∷ xs) named =
    ap (λ n. n ∷ codes_or_len (names ++ more) xs) (code_or_len-more x names more (named x (or_left (name_eq x x) (has_name x xs) (name_same x))))
    ∙ ap (λ ns. code_or_len names x ∷ ns) (codes_or_len-more names more xs (λ y h. named y (or_right (name_eq y x) (has_name y xs) h)))

-- two names with the same code are equal
pub code_or_len-same : (x y : Name) (names : List Name) → has_name x names ≡ true → code_or_len names x ≡ code_or_len names y → name_eq y x ≡ true
code_or_len-same x y [] h e = cc
code_or_len-same x y (z ∷ names) h e = by (name_eq x z) (name_eq y z) refl refl h e (code_or_len-same x y names)
  where
    suc_same : (m n : ℕ) → 1 + m ≡ 1 + n → m ≡ n
    suc_same m n e = omega arith

    by : (a b : Bool) → name_eq x z ≡ a → name_eq y z ≡ b → (a || has_name x names) ≡ true
        → cond (not a) (1 + code_or_len names x) 0 ≡ cond (not b) (1 + code_or_len names y) 0
        → (has_name x names ≡ true → code_or_len names x ≡ code_or_len names y → name_eq y x ≡ true) → name_eq y x ≡ true
    by true true p q h e rest = subst (λ w. name_eq y w ≡ true) (sym (same_name x z p)) q
    by true false p q h e rest = absurd (omega arith)
    by false true p q h e rest = absurd (omega arith)
    by false false p q h e rest = rest h (suc_same (code_or_len names x) (code_or_len names y) e)
