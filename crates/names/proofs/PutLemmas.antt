-- The table holds the names also after one more is added, and after that fails.
use Rattle.names.proofs.Words.{◌≡◌, ◌≢◌, ℕ, ◌+◌, ◌<◌, ◌≤◌, ◌^◌, List, [], ◌∷◌, ◌++◌, false, length, take, get_or, Some, sym, ◌∙◌, ap, subst, arith, slice_set, length-append, Name, has_name, name_at, AreDistinct, AreBytes, key_of, code_in_overflow, IN_OVERFLOW, NameKeys, Slot, NO_NAME, slot_of, IsFirstFreeSlot, AreReachable, IsTable}
use Rattle.names.proofs.CodesLemmas.{name_at-last}
use Rattle.names.proofs.DistinctLemmas.{distinct-push, distinct-take, length-take-below}
use Rattle.names.proofs.TableLemmas.{put-reachable}
use Rattle.names.proofs.NameKeyLemmas.{table-same, reachable-same, reachable-more, reachable-take, name_keys-push, name_keys-push_overflow, name_keys-take, reachable-passed}

abbrev pub Holds : List Slot → NameKeys → List Name → Type 0
Holds slots a names = (length names < 2 ^ 32) × (AreDistinct names × IsTable slots a names)

-- no name is added
pub names-same : (slots : List Slot) (a b : NameKeys) (names new : List Name) (n : ℕ) → new ≡ names → Holds slots a names → n ≡ length names → n ≤ length b.keys.items
    → ((k : ℕ) → k < n → get_or b.keys.items k 0 ≡ get_or a.keys.items k 0) → ((k : ℕ) → k < length names → code_in_overflow b.overflow (name_at names k) ≡ code_in_overflow a.overflow (name_at names k)) → Holds slots b new
names-same slots a b names new n is h count within same others =
    subst (λ xs. Holds slots b xs) (sym is)
    (h.0, (h.1.0, table-same slots a b names h.1.1 (omega (arith, count, within)) (λ k p. same k (omega (arith, p, count))) others))

more-names : (names : List Name) (name : Name) (n : ℕ) → n ≡ length names → n < NO_NAME → length (names ++ name ∷ []) < 2 ^ 32
more-names names name n count few = let l = length-append names (name ∷ []) in omega (arith, l, count, few)

last-name : (names : List Name) (name : Name) (n : ℕ) → n ≡ length names → name_at (names ++ name ∷ []) n ≡ name
last-name names name n count = ap (name_at (names ++ name ∷ [])) count ∙ name_at-last names name

reachable-before : (slots : List Slot) (a b : NameKeys) (names : List Name) (name : Name) (n : ℕ) → n ≡ length names → AreReachable (length names) slots a names
    → ((k : ℕ) → k < n → get_or b.keys.items k 0 ≡ get_or a.keys.items k 0) → AreReachable n slots b (names ++ name ∷ [])
reachable-before slots a b names name n count reachable same =
    reachable-more slots b names (name ∷ []) n (omega (arith, count)) (reachable-same slots a b names n same (subst (λ m. AreReachable m slots a names) (sym count) reachable))

reachable-all : (slots : List Slot) (b : NameKeys) (names : List Name) (name : Name) (n : ℕ) → n ≡ length names → AreReachable (n + 1) slots b (names ++ name ∷ []) → AreReachable (length (names ++ name ∷ [])) slots b (names ++ name ∷ [])
reachable-all slots b names name n count reachable =
    let l = length-append names (name ∷ []) in
    let e : n + 1 ≡ length (names ++ name ∷ []) = omega (arith, l, count) in
    subst (λ m. AreReachable m slots b (names ++ name ∷ [])) e reachable

-- a name is added that has a slot
pub names-put : (slots : List Slot) (a b : NameKeys) (names new : List Name) (name : Name) (n key at : ℕ) → new ≡ names ++ name ∷ [] → Holds slots a names → n ≡ length names → n < NO_NAME → has_name name names ≡ false
    → b.overflow ≡ a.overflow → ((k : ℕ) → k < n → get_or b.keys.items k 0 ≡ get_or a.keys.items k 0) → n < length b.keys.items → get_or b.keys.items n 0 ≡ key → key ≡ key_of name → key ≢ IN_OVERFLOW → AreBytes name
    → IsFirstFreeSlot slots key at → Holds (slice_set slots at (slot_of key n)) b new
names-put slots a b names new name n key at is h count few fresh overflow same more last own other bytes free =
    subst (λ xs. Holds (slice_set slots at (slot_of key n)) b xs) (sym is) (
      more-names names name n count few,
      (
        distinct-push names name h.1.0 fresh,
        record {
          name_keys = name_keys-push a b names name n key count h.1.1.name_keys overflow same more last own other bytes;
          reachable = reachable-all (slice_set slots at (slot_of key n)) b names name n count
              (put-reachable slots b (names ++ name ∷ []) key at n (own ∙ ap key_of (sym at-n)) few (reachable-before slots a b names name n count h.1.1.reachable same) free);
        },
      ),
    )
  where
    at-n : name_at (names ++ name ∷ []) n ≡ name
    at-n = last-name names name n count

-- a name is added that is in the overflow
pub names-put_in_overflow : (slots : List Slot) (a b : NameKeys) (names new : List Name) (name : Name) (n : ℕ) → new ≡ names ++ name ∷ [] → Holds slots a names → n ≡ length names → n < NO_NAME → has_name name names ≡ false
    → ((y : Name) → AreBytes y → y ≢ name → code_in_overflow b.overflow y ≡ code_in_overflow a.overflow y) → ((k : ℕ) → k < n → get_or b.keys.items k 0 ≡ get_or a.keys.items k 0) → n < length b.keys.items → get_or b.keys.items n 0 ≡ IN_OVERFLOW
    → code_in_overflow b.overflow name ≡ Some n → AreBytes name → Holds slots b new
names-put_in_overflow slots a b names new name n is h count few fresh others same more last own bytes =
    subst (λ xs. Holds slots b xs) (sym is) (
      more-names names name n count few,
      (
        distinct-push names name h.1.0 fresh,
        record {
          name_keys = name_keys-push_overflow a b names name n count h.1.1.name_keys fresh others same more last own bytes;
          reachable = reachable-all slots b names name n count (reachable-passed slots b (names ++ name ∷ []) n last (reachable-before slots a b names name n count h.1.1.reachable same));
        },
      ),
    )

-- the names are truncated to the first ones
pub names-take : (slots : List Slot) (a b : NameKeys) (names new : List Name) (n : ℕ) → new ≡ take n names → Holds slots a names → b.keys ≡ a.keys
    → ((k : ℕ) → k < n → code_in_overflow b.overflow (name_at names k) ≡ code_in_overflow a.overflow (name_at names k)) → Holds slots b new
names-take slots a b names new n is h keys numbers =
    let l = length-take-below n names in
    let few = h.0 in
    let items : b.keys.items ≡ a.keys.items = ap (λ v. v.items) keys in
    subst (λ xs. Holds slots b xs) (sym is) (
      omega (arith, l, few),
      (
        distinct-take n names h.1.0,
        record {
          name_keys = name_keys-take a b names n h.1.1.name_keys items numbers;
          reachable = reachable-take slots a b names n items h.1.1.reachable;
        },
      ),
    )
