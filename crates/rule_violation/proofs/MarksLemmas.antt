-- Marks of names, set by one test after another, and names that are given codes.
use Rattle.rule_violation.proofs.Words.{◌≡◌, ℕ, zero, suc, ◌<◌, Bool, true, false, cond, not, ◌&&◌, ◌||◌, List, [], ◌∷◌, ◌++◌, map, replicate, length, slice_set, slice_get, refl, sym, ◌∙◌, ap, arith, append-nil, Some, true≢false, Name, name_eq, has_name, name_at, code_of, AreDistinct, name_same, same_name, name_eq-comm, has-at, code-name, has_name-append, slice_index_or, ◌≤◌, inl, inr, or_parts, or_right, cases_lt, false_from_ne_true, or_assoc, or-false, all_different, IsTwice, marked}

pub marked-same : (p q : Name → Bool) (v : Bool) → ((x : Name) → p x ≡ q x) → (names : List Name) (marks : List Bool) → marked p v names marks ≡ marked q v names marks
marked-same p q v same [] marks = refl
marked-same p q v same (x ∷ names) [] = refl
marked-same p q v same (x ∷ names) (m ∷ marks) = ap (λ b. cond b v m ∷ marked p v names marks) (same x) ∙ ap (λ r. cond (q x) v m ∷ r) (marked-same p q v same names marks)

-- marks that are set by one test and then by another are set by either
pub marked-both : (p q r : Name → Bool) (v : Bool) → ((x : Name) → r x ≡ (q x || p x)) → (names : List Name) (marks : List Bool) → marked p v names (marked q v names marks) ≡ marked r v names marks
marked-both p q r v either [] marks = refl
marked-both p q r v either (x ∷ names) [] = refl
marked-both p q r v either (x ∷ names) (m ∷ marks) =
    ap (λ b. b ∷ marked p v names (marked q v names marks)) (one (p x) (q x) (r x) m (either x)) ∙ ap (λ l. cond (r x) v m ∷ l) (marked-both p q r v either names marks)
  where
    one : (a b c m : Bool) → c ≡ (b || a) → cond a v (cond b v m) ≡ cond c v m
    one true true c m e = sym (ap (λ d. cond d v m) e)
    one true false c m e = sym (ap (λ d. cond d v m) e)
    one false true c m e = sym (ap (λ d. cond d v m) e)
    one false false c m e = sym (ap (λ d. cond d v m) e)

pub marked-none : (p : Name → Bool) (v : Bool) → ((x : Name) → p x ≡ false) → (names : List Name) (marks : List Bool) → marked p v names marks ≡ marks
marked-none p v none [] marks = refl
marked-none p v none (x ∷ names) [] = refl
marked-none p v none (x ∷ names) (m ∷ marks) = ap (λ b. cond b v m ∷ marked p v names marks) (none x) ∙ ap (λ l. m ∷ l) (marked-none p v none names marks)

-- the test for a name without a code changes no mark
pub marked-absent : (w : Name) (v : Bool) (names : List Name) (marks : List Bool) → has_name w names ≡ false → marked (λ x. name_eq x w) v names marks ≡ marks
marked-absent w v [] marks h = refl
marked-absent w v (x ∷ names) [] h = refl
marked-absent w v (x ∷ names) (m ∷ marks) h =
    let parts : (name_eq w x ≡ false) × (has_name w names ≡ false) = or_parts (name_eq w x) (has_name w names) h in
    ap (λ b. cond b v m ∷ marked (λ x. name_eq x w) v names marks) (name_eq-comm x w ∙ parts.0) ∙ ap (λ l. m ∷ l) (marked-absent w v names marks parts.1)

-- the test for one name sets the mark at the index of that name
at_place : (w : Name) (v : Bool) (names : List Name) (marks : List Bool) (n : ℕ) → AreDistinct names → n < length names → name_at names n ≡ w → length marks ≡ length names
    → marked (λ x. name_eq x w) v names marks ≡ slice_set marks n v
at_place w v [] marks n d h e l = absurd (omega (arith, h))
at_place w v (x ∷ names) [] n d h e l = absurd (omega (arith, l))
at_place w v (x ∷ names) (m ∷ marks) zero d h e l =
    ap (λ b. cond b v m ∷ marked (λ x. name_eq x w) v names marks) (ap (λ y. name_eq y w) e ∙ name_same w)
    ∙ ap (λ l. v ∷ l) (marked-absent w v names marks (ap (λ y. has_name y names) (sym e) ∙ d.0))
at_place w v (x ∷ names) (m ∷ marks) (suc n) d h e l =
    ap (λ b. cond b v m ∷ marked (λ x. name_eq x w) v names marks) (false_from_ne_true (name_eq x w) same)
    ∙ ap (λ l. m ∷ l) (at_place w v names marks n d.1 (omega (arith, h)) e (omega (arith, l)))
  where
    same : name_eq x w ≡ true → ⊥
    same q = true≢false (sym (has-at names w n (omega (arith, h)) e) ∙ (ap (λ z. has_name z names) (sym (same_name x w q)) ∙ d.0))

pub marked-one : (w : Name) (v : Bool) (names : List Name) (marks : List Bool) (n : ℕ) → AreDistinct names → code_of names w ≡ Some n → length marks ≡ length names
    → slice_set marks n v ≡ marked (λ x. name_eq x w) v names marks
marked-one w v names marks n d e l = let at = code-name names w n e in sym (at_place w v names marks n d at.0 at.1 l)

-- ---- marks by a test

pub marked-map : (p f : Name → Bool) (v : Bool) (names : List Name) → marked p v names (map f names) ≡ map (λ x. cond (p x) v (f x)) names
marked-map p f v [] = refl
marked-map p f v (x ∷ names) = ap (λ l. cond (p x) v (f x) ∷ l) (marked-map p f v names)

pub map-same : (f g : Name → Bool) → ((x : Name) → f x ≡ g x) → (names : List Name) → map f names ≡ map g names
map-same f g same [] = refl
map-same f g same (x ∷ names) = ap (λ b. b ∷ map f names) (same x) ∙ ap (λ l. g x ∷ l) (map-same f g same names)

-- equal marks, written as a map
all_alike : (b : Bool) (names : List Name) → replicate (length names) b ≡ map (λ (x : Name). b) names
all_alike b [] = refl
all_alike b (x ∷ names) = ap (λ l. b ∷ l) (all_alike b names)

-- marks that were equal, after one test
pub marked-once : (p f : Name → Bool) (v b : Bool) (names : List Name) (marks : List Bool) → marks ≡ replicate (length names) b → ((x : Name) → cond (p x) v b ≡ f x)
    → marked p v names marks ≡ map f names
marked-once p f v b names marks e same =
    ap (marked p v names) (e ∙ all_alike b names) ∙ (marked-map p (λ x. b) v names ∙ map-same (λ x. cond (p x) v b) f same names)

pub marked-twice : (p q f : Name → Bool) (u v b : Bool) (names : List Name) (marks : List Bool) → marks ≡ replicate (length names) b → ((x : Name) → cond (p x) u (cond (q x) v b) ≡ f x)
    → marked p u names (marked q v names marks) ≡ map f names
marked-twice p q f u v b names marks e same =
    ap (marked p u names) (marked-once q (λ x. cond (q x) v b) v b names marks e (λ x. refl)) ∙ (marked-map p (λ x. cond (q x) v b) u names ∙ map-same (λ x. cond (p x) u (cond (q x) v b)) f same names)

pub marked-three : (p q r : Name → Bool) (v : Bool) (names : List Name) (marks : List Bool)
    → marked r v names (marked q v names (marked p v names marks)) ≡ marked (λ x. p x || (q x || r x)) v names marks
marked-three p q r v names marks =
    ap (marked r v names) (marked-both q p (λ x. p x || q x) v (λ x. refl) names marks)
    ∙ marked-both r (λ x. p x || q x) (λ x. p x || (q x || r x)) v (λ x. sym (or_assoc (p x) (q x) (r x))) names marks

-- ---- reading a mark

-- the mark at the code of a name is the result of the test for the name
pub mark_is : (t : Name → Bool) (names : List Name) (marks : List Bool) (w : Name) (n : ℕ) → code_of names w ≡ Some n → marks ≡ map t names → slice_index_or marks n false ≡ t w
mark_is t names marks w n c e = let at = code-name names w n c in ap (λ m. slice_index_or m n false) e ∙ (read names n at.0 ∙ ap t at.1)
  where
    read : (names : List Name) (n : ℕ) → n < length names → slice_index_or (map t names) n false ≡ t (name_at names n)
    read [] n h = absurd (omega (arith, h))
    read (x ∷ names) zero h = refl
    read (x ∷ names) (suc n) h = read names n (omega (arith, h))

-- ---- names with a code

-- a name that is given a code has one, and so have the names that had one before
coded : (old new : List Name) (x w : Name) (n : ℕ) → (n < length new) × (name_at new n ≡ w) → (n < length old → new ≡ old) → (length old ≤ n → new ≡ old ++ w ∷ [])
    → (has_name x old || name_eq x w) ≡ true → has_name x new ≡ true
coded old new x w n at same more h = by (name_eq x w) refl
  where
    kept : has_name x old ≡ true → has_name x new ≡ true
    kept k = elim (cases_lt n (length old)) [
      | inl low ↦ ap (has_name x) (same low) ∙ k
      | inr high ↦ ap (has_name x) (more high) ∙ (has_name-append x old (w ∷ []) ∙ ap (λ b. b || has_name x (w ∷ [])) k)
    ]

    by : (b : Bool) → name_eq x w ≡ b → has_name x new ≡ true
    by true e = has-at new x n at.0 (at.1 ∙ sym (same_name x w e))
    by false e = kept (sym (or-false (has_name x old)) ∙ (ap (λ b. has_name x old || b) (sym e) ∙ h))

-- a name that has a code or is among those left is so also after the next of them is given its code
pub coded_first : (old new rest : List Name) (x w : Name) (n : ℕ) → (n < length new) × (name_at new n ≡ w) → (n < length old → new ≡ old) → (length old ≤ n → new ≡ old ++ w ∷ [])
    → (has_name x old || has_name x (w ∷ rest)) ≡ true → (has_name x new || has_name x rest) ≡ true
coded_first old new rest x w n at same more h = by (has_name x rest) refl
  where
    by : (b : Bool) → has_name x rest ≡ b → (has_name x new || has_name x rest) ≡ true
    by true e = or_right (has_name x new) (has_name x rest) e
    by false e = ap (λ b. b || has_name x rest) (coded old new x w n at same more (ap (λ b. has_name x old || b) (sym (ap (λ c. name_eq x w || c) e ∙ or-false (name_eq x w))) ∙ h))

-- ---- the first name that occurs twice

-- an element of the first of two lists, by its index
got_before : (X ys : List Name) (n : ℕ) → n < length X → slice_get (X ++ ys) n ≡ Some (name_at X n)
got_before [] ys n h = absurd (omega (arith, h))
got_before (x ∷ X) ys zero h = refl
got_before (x ∷ X) ys (suc n) h = got_before X ys n (omega (arith, h))

-- the first element after a list has the length of that list as its index
got_after : (X rest : List Name) (w : Name) → slice_get (X ++ w ∷ rest) (length X) ≡ Some w
got_after [] rest w = refl
got_after (x ∷ X) rest w = got_after X rest w

-- a name that is read again, and has an index among those before, occurs twice
pub again : (X rest words : List Name) (w : Name) (first second : ℕ) → X ++ (w ∷ rest) ≡ words → second ≡ length X → first < second → name_at X first ≡ w → IsTwice words first second
again X rest words w first second split count low is = (
  low,
  record {
    name = w;
    is_there = ap (λ n. slice_get words n) count ∙ (ap (λ ws. slice_get ws (length X)) (sym split) ∙ got_after X rest w);
    holds = ap (λ ws. slice_get ws first) (sym split) ∙ (got_before X (w ∷ rest) first (omega (arith, low, count)) ∙ ap Some is);
  },
)

-- distinct names pass the test that all names are different
differ : (names : List Name) → AreDistinct names → all_different names ≡ true
differ [] d = refl
differ (x ∷ names) d = ap (λ b. not b && all_different names) d.0 ∙ differ names d.1

-- if no name is left and none was read again, the names are all different
pub none_again : (names left words : List Name) → names ++ left ≡ words → left ≡ [] → AreDistinct names → all_different words ≡ true
none_again names left words split e d =
    ap all_different (sym split ∙ (ap (λ r. names ++ r) e ∙ append-nil names)) ∙ differ names d
