-- Each name has its key or is in the overflow, also after names are added and removed.
use Rattle.names.proofs.Words.{◌≡◌, ◌≢◌, ℕ, zero, suc, ◌+◌, ◌<◌, ◌≤◌, ◌⊎◌, List, [], ◌∷◌, ◌++◌, false, length, take, get_or, Some, Ok, Err, Result, OnOk, OnErr, refl, sym, ◌∙◌, ap, subst, arith, inl, inr, slice_set, length-append, true≢false, cases_lt, cases_eq, length-set, get_or-set_same, get_or-set_other, same_Some, Name, has_name, name_at, AreDistinct, AreBytes, key_of, code_in_overflow, IN_OVERFLOW, NameKeys, Slot, IsReachable, IsNameKey, AreNameKeys, OverflowGrows, AreReachable, AreFound, IsTable}
use Rattle.names.proofs.CodesLemmas.{code-at, has-at, name_at-last}
use Rattle.names.proofs.DistinctLemmas.{name_at-more, name_at-take, length-take-below}

-- names with different codes are different
pub names-distinct : (names : List Name) (j k : ℕ) → AreDistinct names → j < length names → k < length names → j ≢ k → name_at names j ≢ name_at names k
names-distinct names j k d p q ne e = ne (same_Some _ _ (sym (code-at names (name_at names k) j d p e) ∙ code-at names (name_at names k) k d q refl))

-- a name that is not among the names differs from each of them
pub none-is : (names : List Name) (x : Name) (k : ℕ) → has_name x names ≡ false → k < length names → name_at names k ≢ x
none-is names x k h lt e = true≢false (sym (has-at names x k lt e) ∙ h)

name_keys-as : (a b : NameKeys) (x : Name) (k : ℕ) → k < length b.keys.items → get_or b.keys.items k 0 ≡ get_or a.keys.items k 0 → code_in_overflow b.overflow x ≡ code_in_overflow a.overflow x → IsNameKey a x k → IsNameKey b x k
name_keys-as a b x k lt e f h = record {
  there = lt;
  bytes = h.bytes;
  key = λ ne. e ∙ h.key (λ z. ne (e ∙ z));
  in_overflow = λ z. f ∙ h.in_overflow (sym e ∙ z);
}

-- the result of a call, by whether it succeeded
pub either : {T E : Type 0} (r : Result T E) (P Q R : Type 0) → OnOk r P → OnOk r Q → OnErr r R → (X : Type 0) → (P → Q → X) → (R → X) → X
either (Ok x) P Q R p q r X f g = f p q
either (Err e) P Q R p q r X f g = g r

pub on-ok : {T E : Type 0} (r : Result T E) (P Q : Type 0) → OnOk r P → (P → Q) → OnOk r Q
on-ok (Ok x) P Q p f = f p
on-ok (Err e) P Q p f = tt

-- one of the names is put into the overflow
pub name_keys-overflow : (a b : NameKeys) (names : List Name) (n : ℕ) → AreNameKeys a names → AreDistinct names → n < length names → b.keys.items ≡ slice_set a.keys.items n IN_OVERFLOW
    → code_in_overflow b.overflow (name_at names n) ≡ Some n → ((x : Name) → AreBytes x → x ≢ name_at names n → code_in_overflow b.overflow x ≡ code_in_overflow a.overflow x) → AreNameKeys b names
name_keys-overflow a b names n name_keys d lt keys own others k p = by (cases_eq k n)
  where
    l : length b.keys.items ≡ length a.keys.items
    l = ap length keys ∙ length-set a.keys.items n IN_OVERFLOW

    by : (k ≡ n) ⊎ (k ≢ n) → IsNameKey b (name_at names k) k
    by (inl e) =
        let t = (name_keys n lt).there in
        subst (λ i. IsNameKey b (name_at names i) i) (sym e)
        (record {
          there = omega (arith, t, l);
          bytes = (name_keys n lt).bytes;
          key = λ ne. absurd (ne (ap (λ xs. get_or xs n 0) keys ∙ get_or-set_same a.keys.items n IN_OVERFLOW 0 t));
          in_overflow = λ z. own;
        })
    by (inr ne) =
        let t = (name_keys k p).there in
        name_keys-as a b (name_at names k) k (omega (arith, t, l)) (ap (λ xs. get_or xs k 0) keys ∙ get_or-set_other a.keys.items n k IN_OVERFLOW 0 ne) (others (name_at names k) (name_keys k p).bytes (names-distinct names k n d p lt ne)) (name_keys k p)

pub grows-overflow : (a b : NameKeys) (n : ℕ) → b.keys.items ≡ slice_set a.keys.items n IN_OVERFLOW → n < length a.keys.items → OverflowGrows a b
grows-overflow a b n keys lt k ne = by (cases_eq k n)
  where
    by : (k ≡ n) ⊎ (k ≢ n) → get_or a.keys.items k 0 ≢ IN_OVERFLOW
    by (inl e) z = ne (ap (λ i. get_or b.keys.items i 0) e ∙ (ap (λ xs. get_or xs n 0) keys ∙ get_or-set_same a.keys.items n IN_OVERFLOW 0 lt))
    by (inr other) z = ne (ap (λ xs. get_or xs k 0) keys ∙ (get_or-set_other a.keys.items n k IN_OVERFLOW 0 other ∙ z))

-- if the names before it were in the table or in the overflow, they and this one are so afterwards
pub reachable-overflow : (slots : List Slot) (a b : NameKeys) (names : List Name) (n : ℕ) → b.keys.items ≡ slice_set a.keys.items n IN_OVERFLOW → n < length a.keys.items → AreReachable n slots a names → AreReachable (n + 1) slots b names
reachable-overflow slots a b names n keys lt reachable k p ne = by (cases_eq k n)
  where
    by : (k ≡ n) ⊎ (k ≢ n) → IsReachable slots (key_of (name_at names k)) k
    by (inl e) = absurd (ne (ap (λ i. get_or b.keys.items i 0) e ∙ (ap (λ xs. get_or xs n 0) keys ∙ get_or-set_same a.keys.items n IN_OVERFLOW 0 lt)))
    by (inr other) = reachable k (omega (arith, p, other)) (grows-overflow a b n keys lt k ne)

pub reachable-passed : (slots : List Slot) (a : NameKeys) (names : List Name) (n : ℕ) → get_or a.keys.items n 0 ≡ IN_OVERFLOW → AreReachable n slots a names → AreReachable (n + 1) slots a names
reachable-passed slots a names n own reachable k p ne = by (cases_eq k n)
  where
    by : (k ≡ n) ⊎ (k ≢ n) → IsReachable slots (key_of (name_at names k)) k
    by (inl e) = absurd (ne (ap (λ i. get_or a.keys.items i 0) e ∙ own))
    by (inr other) = reachable k (omega (arith, p, other)) ne

-- the overflow fails to take a name that is in the table
pub name_keys-failed : (a b : NameKeys) (names : List Name) (n : ℕ) → AreNameKeys a names → AreDistinct names → n < length names → get_or a.keys.items n 0 ≢ IN_OVERFLOW → b.keys.items ≡ a.keys.items
    → ((x : Name) → AreBytes x → x ≢ name_at names n → code_in_overflow b.overflow x ≡ code_in_overflow a.overflow x) → AreNameKeys b names
name_keys-failed a b names n name_keys d lt own keys others k p = by (cases_eq k n)
  where
    l : length b.keys.items ≡ length a.keys.items
    l = ap length keys

    by : (k ≡ n) ⊎ (k ≢ n) → IsNameKey b (name_at names k) k
    by (inl e) =
        let t = (name_keys n lt).there in
        subst (λ i. IsNameKey b (name_at names i) i) (sym e)
        (record {
          there = omega (arith, t, l);
          bytes = (name_keys n lt).bytes;
          key = λ ne. ap (λ xs. get_or xs n 0) keys ∙ (name_keys n lt).key own;
          in_overflow = λ z. absurd (own (ap (λ xs. get_or xs n 0) (sym keys) ∙ z));
        })
    by (inr ne) =
        let t = (name_keys k p).there in
        name_keys-as a b (name_at names k) k (omega (arith, t, l)) (ap (λ xs. get_or xs k 0) keys) (others (name_at names k) (name_keys k p).bytes (names-distinct names k n d p lt ne)) (name_keys k p)

-- the keys and the overflow have the same for each name, and perhaps more
pub name_keys-same : (a b : NameKeys) (names : List Name) → AreNameKeys a names → length names ≤ length b.keys.items → ((k : ℕ) → k < length names → get_or b.keys.items k 0 ≡ get_or a.keys.items k 0)
    → ((k : ℕ) → k < length names → code_in_overflow b.overflow (name_at names k) ≡ code_in_overflow a.overflow (name_at names k)) → AreNameKeys b names
name_keys-same a b names name_keys count same others k p = name_keys-as a b (name_at names k) k (omega (arith, p, count)) (same k p) (others k p) (name_keys k p)

pub reachable-same : (slots : List Slot) (a b : NameKeys) (names : List Name) (n : ℕ) → ((k : ℕ) → k < n → get_or b.keys.items k 0 ≡ get_or a.keys.items k 0) → AreReachable n slots a names → AreReachable n slots b names
reachable-same slots a b names n same reachable k p ne = reachable k p (λ z. ne (same k p ∙ z))

-- one more name at the end
pub name_keys-last : (b : NameKeys) (names : List Name) (x : Name) (n : ℕ) → n ≡ length names → AreNameKeys b names → IsNameKey b x n → AreNameKeys b (names ++ x ∷ [])
name_keys-last b names x n count name_keys last k p = by (cases_lt k (length names))
  where
    by : (k < length names) ⊎ (length names ≤ k) → IsNameKey b (name_at (names ++ x ∷ []) k) k
    by (inl q) = subst (λ y. IsNameKey b y k) (sym (name_at-more names (x ∷ []) k q)) (name_keys k q)
    by (inr q) =
        let l = length-append names (x ∷ []) in
        let same : k ≡ n = omega (arith, p, q, l, count) in
        subst (λ i. IsNameKey b (name_at (names ++ x ∷ []) i) i) (sym same) (subst (λ y. IsNameKey b y n) (sym (ap (name_at (names ++ x ∷ [])) count ∙ name_at-last names x)) last)

-- one more name at the end, with its key
pub name_keys-push : (a b : NameKeys) (names : List Name) (x : Name) (n key : ℕ) → n ≡ length names → AreNameKeys a names → b.overflow ≡ a.overflow → ((k : ℕ) → k < n → get_or b.keys.items k 0 ≡ get_or a.keys.items k 0)
    → n < length b.keys.items → get_or b.keys.items n 0 ≡ key → key ≡ key_of x → key ≢ IN_OVERFLOW → AreBytes x → AreNameKeys b (names ++ x ∷ [])
name_keys-push a b names x n key count name_keys overflow same more last own other bytes =
    name_keys-last b names x n count
    (name_keys-same a b names name_keys (omega (arith, count, more)) (λ k p. same k (omega (arith, p, count))) (λ k p. ap (λ o. code_in_overflow o (name_at names k)) overflow))
    (record {
      there = more;
      bytes = bytes;
      key = λ ne. last ∙ own;
      in_overflow = λ z. absurd (other (sym last ∙ z));
    })

-- one more name at the end, in the overflow
pub name_keys-push_overflow : (a b : NameKeys) (names : List Name) (x : Name) (n : ℕ) → n ≡ length names → AreNameKeys a names → has_name x names ≡ false → ((y : Name) → AreBytes y → y ≢ x → code_in_overflow b.overflow y ≡ code_in_overflow a.overflow y)
    → ((k : ℕ) → k < n → get_or b.keys.items k 0 ≡ get_or a.keys.items k 0) → n < length b.keys.items → get_or b.keys.items n 0 ≡ IN_OVERFLOW → code_in_overflow b.overflow x ≡ Some n → AreBytes x → AreNameKeys b (names ++ x ∷ [])
name_keys-push_overflow a b names x n count name_keys fresh others same more last own bytes =
    name_keys-last b names x n count
    (name_keys-same a b names name_keys (omega (arith, count, more)) (λ k p. same k (omega (arith, p, count))) (λ k p. others (name_at names k) (name_keys k p).bytes (none-is names x k fresh p)))
    (record {
      there = more;
      bytes = bytes;
      key = λ ne. absurd (ne last);
      in_overflow = λ z. own;
    })

pub reachable-more : (slots : List Slot) (a : NameKeys) (names more : List Name) (n : ℕ) → n ≤ length names → AreReachable n slots a names → AreReachable n slots a (names ++ more)
reachable-more slots a names more n within reachable k p ne = subst (λ y. IsReachable slots (key_of y) k) (sym (name_at-more names more k (omega (arith, p, within)))) (reachable k p ne)

-- the names are truncated to the first ones
pub name_keys-take : (a b : NameKeys) (names : List Name) (n : ℕ) → AreNameKeys a names → b.keys.items ≡ a.keys.items → ((k : ℕ) → k < n → code_in_overflow b.overflow (name_at names k) ≡ code_in_overflow a.overflow (name_at names k))
    → AreNameKeys b (take n names)
name_keys-take a b names n name_keys keys numbers k p =
    let l = length-take-below n names in
    let q : k < length names = omega (arith, p, l) in
    let below : k < n = inside n names k p in
    let t = (name_keys k q).there in
    let m = ap length keys in
    subst (λ y. IsNameKey b y k) (sym (name_at-take n names k p)) (name_keys-as a b (name_at names k) k (omega (arith, t, m)) (ap (λ xs. get_or xs k 0) keys) (numbers k below) (name_keys k q))
  where
    inside : (n : ℕ) (names : List Name) (k : ℕ) → k < length (take n names) → k < n
    inside zero [] k p = p
    inside zero (x ∷ names) k p = p
    inside (suc n) [] k p = absurd (omega (arith, p))
    inside (suc n) (x ∷ names) zero p = omega arith
    inside (suc n) (x ∷ names) (suc k) p = let r = inside n names k (omega (arith, p)) in omega (arith, r)

pub reachable-take : (slots : List Slot) (a b : NameKeys) (names : List Name) (n : ℕ) → b.keys.items ≡ a.keys.items → AreReachable (length names) slots a names → AreReachable (length (take n names)) slots b (take n names)
reachable-take slots a b names n keys reachable k p ne =
    let l = length-take-below n names in
    subst (λ y. IsReachable slots (key_of y) k) (sym (name_at-take n names k p)) (reachable k (omega (arith, p, l)) (λ z. ne (ap (λ xs. get_or xs k 0) keys ∙ z)))

-- each name is found
pub found : (slots : List Slot) (a : NameKeys) (names : List Name) → IsTable slots a names → AreFound slots a.overflow names
found slots a names t k lt = by (cases_eq (get_or a.keys.items k 0) IN_OVERFLOW)
  where
    by : (get_or a.keys.items k 0 ≡ IN_OVERFLOW) ⊎ (get_or a.keys.items k 0 ≢ IN_OVERFLOW) → IsReachable slots (key_of (name_at names k)) k ⊎ (code_in_overflow a.overflow (name_at names k) ≡ Some k)
    by (inl e) = inr ((t.name_keys k lt).in_overflow e)
    by (inr ne) = inl (t.reachable k lt ne)

-- a table that changed only after the names
pub table-same : (slots : List Slot) (a b : NameKeys) (names : List Name) → IsTable slots a names → length names ≤ length b.keys.items
    → ((k : ℕ) → k < length names → get_or b.keys.items k 0 ≡ get_or a.keys.items k 0) → ((k : ℕ) → k < length names → code_in_overflow b.overflow (name_at names k) ≡ code_in_overflow a.overflow (name_at names k))
    → IsTable slots b names
table-same slots a b names t count same others = record {
  name_keys = name_keys-same a b names t.name_keys count same others;
  reachable = reachable-same slots a b names (length names) same t.reachable;
}
