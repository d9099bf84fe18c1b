-- The code of a name in the overflow stays the same when that of another name is written or
-- removed.
use Rattle.names.proofs.Words.{◌≡◌, ◌≢◌, ◌<◌, ◌≤◌, Bool, true, false, List, ℕ, Option, length, nat_lt, if◌then◌else◌, refl, sym, ◌∙◌, ap, arith, ◌⊎◌, inl, inr, Vec, Global, BTreeMap, UpdatesBy, get_by, IsKeyTest, AreApart, lookup, eq_by_cmp_equiv, Equal-is, slice_cmp, nat_list_cmp_total, nat_cmp, is_eq, bytes_eq, cases_lt, exact_unsigned, is_eq-slice_cmp, bytes_eq-Decides, Name, AreBytes, key_of, code_in_overflow, LEAST_HASHED_LEN, Overflow}
use Rattle.std.specs.Map.{KeepsOthers}
use Rattle.names.proofs.KeysLemmas.{key-same}

-- an update leaves the values of other keys as they are
pub keeps : {K X : Type 0} (eq : K → K → Bool) (test : K → Bool) (old new : List (K × X)) → KeepsOthers eq test old new → (other : K → Bool) → IsKeyTest eq other → AreApart test other → lookup other new ≡ lookup other old
unfolding KeepsOthers
keeps eq test old new h = h

-- a text that equals one text does not equal another
pub apart : (xs ys zs : List ℕ) → ys ≢ xs → is_eq (slice_cmp nat_cmp xs zs) ≡ true → is_eq (slice_cmp nat_cmp ys zs) ≡ false
apart xs ys zs ne e = by (is_eq (slice_cmp nat_cmp ys zs)) (sym (is_eq-slice_cmp ys zs))
  where
    by : (b : Bool) → bytes_eq ys zs ≡ b → b ≡ false
    by false p = refl
    by true p = absurd (ne ((bytes_eq-Decides ys zs).0 p ∙ sym ((bytes_eq-Decides xs zs).0 (sym (is_eq-slice_cmp xs zs) ∙ e))))

-- an update leaves the values of other keys as they are, if keys are compared as texts by `f`
other-text : {K X : Type 0} (f : K → List ℕ) (xs : List ℕ) (m n : BTreeMap K X) (w : Option X) → UpdatesBy (λ a b. slice_cmp nat_cmp (f a) (f b)) (λ k. slice_cmp nat_cmp xs (f k)) m n w
    → (ys : List ℕ) → ys ≢ xs → get_by (λ k. slice_cmp nat_cmp ys (f k)) n ≡ get_by (λ k. slice_cmp nat_cmp ys (f k)) m
other-text f xs m n w h ys ne =
    keeps _ _ m.entries n.entries h.3 (λ k. is_eq (slice_cmp nat_cmp ys (f k))) (λ x y. (eq_by_cmp_equiv nat_list_cmp_total).congr ys (f x) (f y)) (λ k e. apart xs ys (f k) ne e)

pub of-short : (a : Overflow) (x : Name) → length x < LEAST_HASHED_LEN → code_in_overflow a x ≡ get_by (nat_cmp (key_of x)) a.short
of-short a x h =
    let t : nat_lt (length x) LEAST_HASHED_LEN ≡ true = grind (arith, h) in
    ap (λ (b : Bool). if b then get_by (nat_cmp (key_of x)) a.short else get_by (λ k. slice_cmp nat_cmp x k.items) a.long) t

pub of-long : (a : Overflow) (x : Name) → LEAST_HASHED_LEN ≤ length x → code_in_overflow a x ≡ get_by (λ k. slice_cmp nat_cmp x k.items) a.long
of-long a x h =
    let t : nat_lt (length x) LEAST_HASHED_LEN ≡ false = grind (arith, h) in
    ap (λ (b : Bool). if b then get_by (nat_cmp (key_of x)) a.short else get_by (λ k. slice_cmp nat_cmp x k.items) a.long) t

nat-apart : (a b : ℕ) → b ≢ a → is_eq (nat_cmp a b) ≡ false
nat-apart a b ne = by (is_eq (nat_cmp a b)) refl
  where
    by : (r : Bool) → is_eq (nat_cmp a b) ≡ r → r ≡ false
    by false p = refl
    by true p = absurd (ne (sym (exact_unsigned a b ((Equal-is (nat_cmp a b)).0 p))))

-- a short name is written or removed
pub others-short : (a b : Overflow) (name : Name) (key : ℕ) (w : Option ℕ) → AreBytes name → key ≡ key_of name → b.long ≡ a.long → UpdatesBy nat_cmp (nat_cmp key) a.short b.short w
    → (x : Name) → AreBytes x → x ≢ name → code_in_overflow b x ≡ code_in_overflow a x
others-short a b name key w own is same h x bytes ne = by (cases_lt (length x) LEAST_HASHED_LEN)
  where
    by : (length x < LEAST_HASHED_LEN) ⊎ (LEAST_HASHED_LEN ≤ length x) → code_in_overflow b x ≡ code_in_overflow a x
    by (inl short) =
        let other : key_of x ≢ key = λ e. ne (key-same x name bytes own short (e ∙ is)) in
        of-short b x short ∙ (h.2 (key_of x) (nat-apart key (key_of x) other) ∙ sym (of-short a x short))
    by (inr long) = of-long b x long ∙ (ap (λ (m : BTreeMap (Vec ℕ Global) ℕ). get_by (λ k. slice_cmp nat_cmp x k.items) m) same ∙ sym (of-long a x long))

-- a long name is written or removed
pub others-long : (a b : Overflow) (name : Name) (w : Option ℕ) → b.short ≡ a.short → UpdatesBy (λ p q. slice_cmp nat_cmp p.items q.items) (λ k. slice_cmp nat_cmp name k.items) a.long b.long w
    → (x : Name) → x ≢ name → code_in_overflow b x ≡ code_in_overflow a x
others-long a b name w same h x ne = by (cases_lt (length x) LEAST_HASHED_LEN)
  where
    by : (length x < LEAST_HASHED_LEN) ⊎ (LEAST_HASHED_LEN ≤ length x) → code_in_overflow b x ≡ code_in_overflow a x
    by (inl short) = of-short b x short ∙ (ap (λ (m : BTreeMap ℕ ℕ). get_by (nat_cmp (key_of x)) m) same ∙ sym (of-short a x short))
    by (inr long) = of-long b x long ∙ (other-text (λ k. k.items) name a.long b.long w h x ne ∙ sym (of-long a x long))
