-- The key of a name that is too short to be hashed is the key of no other name.
use Rattle.names.proofs.Words.{◌≡◌, ℕ, zero, suc, ◌+◌, ◌-◌, ◌*◌, ◌/◌, ◌%◌, ◌<◌, ◌≤◌, ◌^◌, Bool, true, false, cond, List, [], ◌∷◌, length, nat_lt, refl, sym, ◌∙◌, ap, subst, arith, Name, LEAST_HASHED_LEN, LEAST_HASH, AreBytes, digits, first_middle_last, first_four_last_three, key_bytes, eight_bytes_from, mixed, mixed_front, key_of}
use Rattle.names.specs.Stored.Keys.{hash_of}

-- a number in base 256 determines its lowest digit and the others
digit-same : (a b m n : ℕ) → a < 256 → b < 256 → a + 256 * m ≡ b + 256 * n → (a ≡ b) × (m ≡ n)
digit-same a b m n p q e = (omega (arith, p, q, e), omega (arith, p, q, e))

-- a name, from its length and its key bytes
abbrev unpicked : ℕ → List ℕ → Name
unpicked (suc zero) (a ∷ bs) = a ∷ []
unpicked (suc (suc zero)) (a ∷ b ∷ bs) = a ∷ b ∷ []
unpicked (suc (suc (suc zero))) (a ∷ b ∷ c ∷ bs) = a ∷ b ∷ c ∷ []
unpicked (suc (suc (suc (suc zero)))) (a ∷ b ∷ c ∷ d ∷ bs) = a ∷ b ∷ c ∷ d ∷ []
unpicked (suc (suc (suc (suc (suc zero))))) (a ∷ b ∷ c ∷ d ∷ x ∷ y ∷ z ∷ bs) = a ∷ b ∷ c ∷ d ∷ z ∷ []
unpicked (suc (suc (suc (suc (suc (suc zero)))))) (a ∷ b ∷ c ∷ d ∷ x ∷ y ∷ z ∷ bs) = a ∷ b ∷ c ∷ d ∷ y ∷ z ∷ []
unpicked (suc (suc (suc (suc (suc (suc (suc zero))))))) (a ∷ b ∷ c ∷ d ∷ x ∷ y ∷ z ∷ bs) = a ∷ b ∷ c ∷ d ∷ x ∷ y ∷ z ∷ []
unpicked n bs = []

unpicked-key_bytes : (x : Name) → length x < 8 → unpicked (length x) (key_bytes x) ≡ x
unpicked-key_bytes [] h = refl
unpicked-key_bytes (a ∷ []) h = refl
unpicked-key_bytes (a ∷ b ∷ []) h = refl
unpicked-key_bytes (a ∷ b ∷ c ∷ []) h = refl
unpicked-key_bytes (a ∷ b ∷ c ∷ d ∷ []) h = refl
unpicked-key_bytes (a ∷ b ∷ c ∷ d ∷ e ∷ []) h = refl
unpicked-key_bytes (a ∷ b ∷ c ∷ d ∷ e ∷ f ∷ []) h = refl
unpicked-key_bytes (a ∷ b ∷ c ∷ d ∷ e ∷ f ∷ g ∷ []) h = refl
unpicked-key_bytes (a ∷ b ∷ c ∷ d ∷ e ∷ f ∷ g ∷ i ∷ x) h = absurd (omega (arith, h))

-- each of the digits is less than 256
abbrev AreDigits : List ℕ → Type 0
AreDigits [] = Unit {0}
AreDigits (a ∷ xs) = (a < 256) × AreDigits xs

digits-same : (xs ys : List ℕ) → AreDigits xs → AreDigits ys → length xs ≡ length ys → digits xs ≡ digits ys → xs ≡ ys
digits-same [] [] p q l e = refl
digits-same [] (b ∷ ys) p q l e = absurd (omega (arith, l))
digits-same (a ∷ xs) [] p q l e = absurd (omega (arith, l))
digits-same (a ∷ xs) (b ∷ ys) p q l e =
    let d = digit-same a b (digits xs) (digits ys) p.0 q.0 e in
    let r = digits-same xs ys p.1 q.1 (omega (arith, l)) d.1 in
    let first = d.0 in
    cc

key_bytes-digits : (x : Name) → AreBytes x → AreDigits (key_bytes x)
key_bytes-digits x h = by (nat_lt (length x) 4)
  where
    by : (b : Bool) → AreDigits (cond b (first_middle_last x) (first_four_last_three x))
    by true = (h 0, (h (length x / 2), (h (length x - 1), tt)))
    by false = (h 0, (h 1, (h 2, (h 3, (h (length x - 3), (h (length x - 2), (h (length x - 1), tt)))))))

key_bytes-below : (x : Name) → AreBytes x → digits (key_bytes x) < 2 ^ 56
key_bytes-below x h = by (nat_lt (length x) 4)
  where
    by : (b : Bool) → digits (cond b (first_middle_last x) (first_four_last_three x)) < 2 ^ 56
    by true =
        let p = h 0 in
        let q = h (length x / 2) in
        let r = h (length x - 1) in
        omega (arith, p, q, r)
    by false =
        let a = h 0 in
        let b = h 1 in
        let d = h 2 in
        let e = h 3 in
        let p = h (length x - 3) in
        let q = h (length x - 2) in
        let r = h (length x - 1) in
        omega (arith, a, b, d, e, p, q, r)

key_bytes-same : (x y : Name) → AreBytes x → AreBytes y → length x ≡ length y → length x < 8 → digits (key_bytes x) ≡ digits (key_bytes y) → x ≡ y
key_bytes-same x y p q l h e =
    let same = digits-same (key_bytes x) (key_bytes y) (key_bytes-digits x p) (key_bytes-digits y q) (sizes (length x) (length y) l) e in
    sym (unpicked-key_bytes x h) ∙ (ap (unpicked (length x)) same ∙ (ap (λ n. unpicked n (key_bytes y)) l ∙ unpicked-key_bytes y (subst (λ n. n < 8) l h)))
  where
    size : (z : Name) → length (key_bytes z) ≡ cond (nat_lt (length z) 4) 3 7
    size z = by (nat_lt (length z) 4)
      where
        by : (b : Bool) → length (cond b (first_middle_last z) (first_four_last_three z)) ≡ cond b 3 7
        by true = refl
        by false = refl

    sizes : (m n : ℕ) → m ≡ n → length (key_bytes x) ≡ length (key_bytes y)
    sizes m n s = size x ∙ (ap (λ k. cond (nat_lt k 4) 3 7) l ∙ sym (size y))

pub hash-is : (x : Name) (front block last r : ℕ) → LEAST_HASHED_LEN ≤ length x → front ≡ mixed_front x block → block ≤ (length x - 1) / 8 → (length x - 1) / 8 ≤ block → last ≡ digits (eight_bytes_from x (length x - 8)) → r ≡ mixed front last
    → r % LEAST_HASH + LEAST_HASH ≡ key_of x
unfolding hash_of
hash-is x front block last r long e p q l m =
    let s : block ≡ (length x - 1) / 8 = omega (arith, p, q) in
    let t : nat_lt (length x) LEAST_HASHED_LEN ≡ false = grind (arith, long) in
    ap (λ n. n % LEAST_HASH + LEAST_HASH) (m ∙ (ap (mixed front) l ∙ ap (λ f. mixed f (digits (eight_bytes_from x (length x - 8)))) (e ∙ ap (mixed_front x) s)))
    ∙ sym (ap (λ b. cond b (digits (key_bytes x) * 8 + length x) (hash_of x)) t)

hash-above : (x : Name) → LEAST_HASH ≤ hash_of x
unfolding hash_of
hash-above x = omega arith

-- a short name shares its key with no other
pub key-same : (x y : Name) → AreBytes x → AreBytes y → length x < LEAST_HASHED_LEN → key_of x ≡ key_of y → x ≡ y
key-same x y p q short e = by (nat_lt (length x) LEAST_HASHED_LEN) (nat_lt (length y) LEAST_HASHED_LEN) refl refl e
  where
    below : (n : ℕ) → nat_lt n LEAST_HASHED_LEN ≡ true → n < LEAST_HASHED_LEN
    below n t = grind (arith, t)

    above : (n : ℕ) → nat_lt n LEAST_HASHED_LEN ≡ false → LEAST_HASHED_LEN ≤ n
    above n t = grind (arith, t)

    by : (a b : Bool) → nat_lt (length x) LEAST_HASHED_LEN ≡ a → nat_lt (length y) LEAST_HASHED_LEN ≡ b
        → cond a (digits (key_bytes x) * 8 + length x) (hash_of x) ≡ cond b (digits (key_bytes y) * 8 + length y) (hash_of y) → x ≡ y
    by true true s t e =
        let m = below (length x) s in
        let n = below (length y) t in
        key_bytes-same x y p q (omega (arith, m, n, e)) m (omega (arith, m, n, e))
    by true false s t e =
        let d = key_bytes-below x p in
        let m = below (length x) s in
        let above = hash-above y in
        absurd (omega (arith, d, m, e, above))
    by false b s t e = let m = above (length x) s in absurd (omega (arith, short, m))
