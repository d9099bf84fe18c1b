-- Names and their codes.
use Rattle.names.proofs.Words.{◌≡◌, ℕ, zero, suc, ◌+◌, ◌<◌, Bool, true, false, not, cond, ◌||◌, nat_lt, length, List, [], ◌∷◌, ◌++◌, map, Option, Some, None, get_or, refl, list_any, position_or_len, prefix_len, sym, ◌∙◌, ap, true≢false, arith, length-append, position-Some, or_right, false_from_ne_true, cond_some, Name, name_eq, has_name, name_at, code_of, AreDistinct, code_or_len, HaveCodes}
pub use Rattle.mm_lex.proofs.NameLemmas.{name_same, same_name}

pub list_any-map : {A B : Type 0} (f : A → B) (p : B → Bool) (xs : List A) → list_any (λ a. p (f a)) xs ≡ list_any p (map f xs)
list_any-map f p [] = refl
list_any-map f p (x ∷ xs) = ap (λ r. p (f x) || r) (list_any-map f p xs)

pub name_eq-comm : (x y : Name) → name_eq x y ≡ name_eq y x
name_eq-comm x y = by (name_eq x y) (name_eq y x) refl refl
  where
    by : (a b : Bool) → name_eq x y ≡ a → name_eq y x ≡ b → a ≡ b
    by true true p q = refl
    by false false p q = refl
    by true false p q = absurd (true≢false (sym (name_same x) ∙ (ap (λ z. name_eq z x) (same_name x y p) ∙ q)))
    by false true p q = absurd (true≢false (sym (name_same y) ∙ (ap (λ z. name_eq z y) (same_name y x q) ∙ p)))

-- a search for the first element that passes ends at the first one, if that passes
first_step : (b : Bool) (r : ℕ) → b ≡ true → cond (not b) (1 + r) 0 ≡ 0
first_step true r h = refl
first_step false r h = cc

-- .. and otherwise one after the place in the rest
later_step : (b : Bool) (r n : ℕ) → b ≡ false → r ≡ n → cond (not b) (1 + r) 0 ≡ suc n
later_step true r n h e = cc
later_step false r n h e = grind (arith, e)

pub has-at : (names : List Name) (x : Name) (n : ℕ) → n < length names → name_at names n ≡ x → has_name x names ≡ true
has-at [] x n h e = absurd (omega (arith, h))
has-at (y ∷ names) x zero h e = ap (λ b. b || has_name x names) (ap (name_eq x) e ∙ name_same x)
has-at (y ∷ names) x (suc n) h e = or_right (name_eq x y) (has_name x names) (has-at names x n (omega (arith, h)) e)

place-at : (names : List Name) (x : Name) (n : ℕ) → AreDistinct names → n < length names → name_at names n ≡ x → position_or_len (name_eq x) names ≡ n
place-at [] x n d h e = absurd (omega (arith, h))
place-at (y ∷ names) x zero d h e = first_step (name_eq x y) (prefix_len (λ a. not (name_eq x a)) names) (ap (name_eq x) e ∙ name_same x)
place-at (y ∷ names) x (suc n) d h e =
    later_step (name_eq x y) (prefix_len (λ a. not (name_eq x a)) names) n (false_from_ne_true (name_eq x y) same) (place-at names x n d.1 (omega (arith, h)) e)
  where
    same : name_eq x y ≡ true → ⊥
    same q = true≢false (sym (has-at names x n (omega (arith, h)) e) ∙ (ap (λ z. has_name z names) (same_name x y q) ∙ d.0))

-- if the names are distinct, the index of a name is its code
pub code-at : (names : List Name) (x : Name) (n : ℕ) → AreDistinct names → n < length names → name_at names n ≡ x → code_of names x ≡ Some n
code-at names x n d h e =
    let t : nat_lt n (length names) ≡ true = grind (arith, h) in
    ap (λ r. cond (nat_lt r (length names)) (Some r) None) (place-at names x n d h e) ∙ ap (λ b. cond b (Some n) None) t

pub name_at-get_or : (names : List Name) (n : ℕ) → name_at names n ≡ get_or names n []
name_at-get_or [] n = refl
name_at-get_or (x ∷ names) zero = refl
name_at-get_or (x ∷ names) (suc n) = name_at-get_or names n

-- the code of a name is less than the number of names, and is an index of the name
pub code-name : (names : List Name) (x : Name) (n : ℕ) → code_of names x ≡ Some n → (n < length names) × (name_at names n ≡ x)
code-name names x n h =
    let p = position-Some (name_eq x) names n [] h in
    (p.0, name_at-get_or names n ∙ sym (same_name x (get_or names n []) p.1))

-- no lower index has the name
pub code-first : (names : List Name) (x : Name) (n : ℕ) → code_of names x ≡ Some n → (m : ℕ) → m < n → name_at names m ≡ x → ⊥
code-first names x n h m p e =
    let q = position-Some (name_eq x) names n [] h in
    true≢false (sym (name_same x) ∙ (ap (name_eq x) (sym e ∙ name_at-get_or names m) ∙ q.2 m p))

pub code-absent : (names : List Name) (x : Name) → ((k : ℕ) → k < length names → name_at names k ≡ x → ⊥) → code_of names x ≡ None
code-absent names x none = by (code_of names x) refl
  where
    by : (r : Option ℕ) → code_of names x ≡ r → code_of names x ≡ None
    by None e = e
    by (Some n) e = let p = code-name names x n e in absurd (none n p.0 p.1)

-- the name that was appended is at the end
pub name_at-last : (names : List Name) (x : Name) → name_at (names ++ x ∷ []) (length names) ≡ x
name_at-last [] x = refl
name_at-last (y ∷ names) x = name_at-last names x

-- .. at the index that is the number of the old names
pub added-name : (old new : List Name) (x : Name) (n : ℕ) → n ≡ length old → new ≡ old ++ x ∷ [] → (n < length new) × (name_at new n ≡ x)
added-name old new x n e h =
    let l = ap length h ∙ length-append old (x ∷ []) in
    (omega (arith, l, e), ap (λ r. name_at r n) h ∙ (ap (name_at (old ++ x ∷ [])) e ∙ name_at-last old x))

-- one more element in front: the search ends before the end if this one passes, or if it did so
-- before
pub lt_step : (b : Bool) (r l : ℕ) (q : Bool) → nat_lt r l ≡ q → nat_lt (cond (not b) (1 + r) 0) (suc l) ≡ (b || q)
lt_step true r l q h = grind (arith)
lt_step false r l true h = grind (arith, h)
lt_step false r l false h = grind (arith, h)

pub lt-list_any : {A : Type 0} (p : A → Bool) (xs : List A) → nat_lt (position_or_len p xs) (length xs) ≡ list_any p xs
lt-list_any p [] = refl
lt-list_any p (x ∷ xs) = lt_step (p x) (prefix_len (λ a. not (p a)) xs) (length xs) (list_any p xs) (lt-list_any p xs)

-- if a choice between `Some` and `None` is `None`, the test fails
none_cond : {A : Type 0} (b : Bool) (x : A) → cond b (Some x) None ≡ None → b ≡ false
none_cond true x h = cc
none_cond false x h = refl

pub found-number : (names : List Name) (x : Name) (n : ℕ) → Some n ≡ code_of names x → (has_name x names ≡ true) × (code_or_len names x ≡ n)
found-number names x n h =
    let s = cond_some (nat_lt (code_or_len names x) (length names)) (code_or_len names x) n (sym h) in
    (sym (lt-list_any (name_eq x) names) ∙ s.0, s.1)

pub unknown-number : (names : List Name) (x : Name) → None ≡ code_of names x → has_name x names ≡ false
unknown-number names x h = sym (lt-list_any (name_eq x) names) ∙ none_cond (nat_lt (code_or_len names x) (length names)) (code_or_len names x) (sym h)

-- the first of names that have codes has a code
pub first-named : (names words rest : List Name) (x : Name) → HaveCodes names words → words ≡ x ∷ rest → has_name x names ≡ true
first-named names words rest x h is = h x (ap (has_name x) is ∙ ap (λ b. b || has_name x rest) (name_same x))

-- .. and so have the others
pub rest-named : (names words rest : List Name) (x : Name) → HaveCodes names words → words ≡ x ∷ rest → HaveCodes names rest
rest-named names words rest x h is y k = h y (ap (has_name y) is ∙ or_right (name_eq y x) (has_name y rest) k)
