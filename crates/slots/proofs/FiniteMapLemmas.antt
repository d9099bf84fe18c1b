-- The finite map of a list of options: its entries, its front, its top and its number of entries after each change.
use Rattle.slots.proofs.Words.{◌≡◌, ℕ, zero, suc, ◌+◌, ◌<◌, ◌≤◌, max, List, [], ◌∷◌, ◌++◌, length, get_or, set, drop, replicate, Option, Some, None, refl, ap, ◌∙◌, arith, le_of_suc-le-suc, sym, entry_at, put_at, with_head, trimmed, entries_to_gap, front_of, top_of, added_to, cond, count_by, is_some, sum_by-cons, sum_by-set}

-- Putting an entry.

put-with_head : {T : Type 0} (x : Option T) (ys : List (Option T)) (s : ℕ) (v : T) → with_head x (put_at ys s v) ≡ put_at (with_head x ys) (suc s) v
put-with_head None [] zero v = refl
put-with_head None [] (suc s) v = refl
put-with_head None (y ∷ ys) zero v = refl
put-with_head None (y ∷ ys) (suc s) v = refl
put-with_head (Some x) ys s v = refl

put-head : {T : Type 0} (x : Option T) (ys : List (Option T)) (v : T) → Some v ∷ ys ≡ put_at (with_head x ys) zero v
put-head None [] v = refl
put-head None (y ∷ ys) v = refl
put-head (Some x) ys v = refl

pub trimmed-set : {T : Type 0} (xs : List (Option T)) (s : ℕ) (v : T) → s < length xs → trimmed (set xs s (Some v)) ≡ put_at (trimmed xs) s v
trimmed-set [] s v h = absurd (omega arith)
trimmed-set (x ∷ xs) zero v h = put-head x (trimmed xs) v
trimmed-set (x ∷ xs) (suc s) v h = ap (with_head x) (trimmed-set xs s v (le_of_suc-le-suc h)) ∙ put-with_head x (trimmed xs) s v

pub top_of-put_at : {T : Type 0} (xs : List (Option T)) (s : ℕ) (v : T) → top_of (put_at xs s v) ≡ max (top_of xs) (s + 1)
top_of-put_at [] zero v = refl
top_of-put_at [] (suc s) v = let more = top_of-put_at [] s v in omega (arith, more)
top_of-put_at (x ∷ xs) zero v = omega arith
top_of-put_at (x ∷ xs) (suc s) v = let more = top_of-put_at xs s v in omega (arith, more)

top_of-head : {T : Type 0} (x : Option T) (ys : List (Option T)) (n : ℕ) → top_of ys ≤ n → top_of (with_head x ys) ≤ suc n
top_of-head None [] n h = omega arith
top_of-head None (y ∷ ys) n h = omega arith
top_of-head (Some x) ys n h = omega arith

pub top_of-trimmed-le : {T : Type 0} (xs : List (Option T)) → top_of (trimmed xs) ≤ length xs
top_of-trimmed-le [] = omega arith
top_of-trimmed-le (x ∷ xs) = top_of-head x (trimmed xs) (length xs) (top_of-trimmed-le xs)

-- The entry at a slot.

entry-head : {T : Type 0} (x : Option T) (ys : List (Option T)) → entry_at (with_head x ys) zero ≡ x
entry-head None [] = refl
entry-head None (y ∷ ys) = refl
entry-head (Some x) ys = refl

entry-tail : {T : Type 0} (x : Option T) (ys : List (Option T)) (s : ℕ) → entry_at (with_head x ys) (suc s) ≡ entry_at ys s
entry-tail None [] s = refl
entry-tail None (y ∷ ys) s = refl
entry-tail (Some x) ys s = refl

pub entry_at-trimmed : {T : Type 0} (xs : List (Option T)) (s : ℕ) → entry_at (trimmed xs) s ≡ entry_at xs s
entry_at-trimmed [] s = refl
entry_at-trimmed (x ∷ xs) zero = entry-head x (trimmed xs)
entry_at-trimmed (x ∷ xs) (suc s) = entry-tail x (trimmed xs) s ∙ entry_at-trimmed xs s

pub entry_at-get_or : {T : Type 0} (xs : List (Option T)) (s : ℕ) (d : Option T) → s < length xs → entry_at xs s ≡ get_or xs s d
entry_at-get_or [] s d h = absurd (omega arith)
entry_at-get_or (x ∷ xs) zero d h = refl
entry_at-get_or (x ∷ xs) (suc s) d h = entry_at-get_or xs s d (le_of_suc-le-suc h)

pub entry_at-past : {T : Type 0} (xs : List (Option T)) (s : ℕ) → length xs ≤ s → entry_at xs s ≡ None
entry_at-past [] s h = refl
entry_at-past (x ∷ xs) zero h = absurd (omega arith)
entry_at-past (x ∷ xs) (suc s) h = entry_at-past xs s (le_of_suc-le-suc h)

-- Empty slots after the end of the list.

trimmed-gaps : {T : Type 0} (n : ℕ) → trimmed {T = T} (replicate n None) ≡ []
trimmed-gaps zero = refl
trimmed-gaps (suc n) = ap (with_head None) (trimmed-gaps n)

pub trimmed-append-gaps : {T : Type 0} (xs : List (Option T)) (n : ℕ) → trimmed (xs ++ replicate n None) ≡ trimmed xs
trimmed-append-gaps [] n = trimmed-gaps n
trimmed-append-gaps (x ∷ xs) n = ap (with_head x) (trimmed-append-gaps xs n)

-- The front.

gap-head : {T : Type 0} (x : Option T) (ys zs : List (Option T)) → entries_to_gap ys ≡ entries_to_gap zs → entries_to_gap (with_head x ys) ≡ entries_to_gap (x ∷ zs)
gap-head None [] zs e = refl
gap-head None (y ∷ ys) zs e = refl
gap-head (Some x) ys zs e = ap (λ ws. x ∷ ws) e

pub entries_to_gap-trimmed : {T : Type 0} (xs : List (Option T)) → entries_to_gap (trimmed xs) ≡ entries_to_gap xs
entries_to_gap-trimmed [] = refl
entries_to_gap-trimmed (x ∷ xs) = gap-head x (trimmed xs) xs (entries_to_gap-trimmed xs)

pub front_of-trimmed : {T : Type 0} (xs : List (Option T)) → front_of (trimmed xs) ≡ front_of xs
front_of-trimmed {T} xs = ap (λ (ys : List T). length ys) (entries_to_gap-trimmed xs)

pub front_of-le : {T : Type 0} (xs : List (Option T)) → front_of xs ≤ length xs
front_of-le [] = omega arith
front_of-le (None ∷ xs) = omega arith
front_of-le (Some x ∷ xs) = let more = front_of-le xs in omega (arith, more)

pub front_of-drop-Some : {T : Type 0} (xs : List (Option T)) (i : ℕ) (v : T) → entry_at xs i ≡ Some v → front_of (drop i xs) ≡ suc (front_of (drop (suc i) xs))
front_of-drop-Some [] i v h = cc
front_of-drop-Some (None ∷ xs) zero v h = cc
front_of-drop-Some (Some x ∷ xs) zero v h = refl
front_of-drop-Some (x ∷ xs) (suc i) v h = front_of-drop-Some xs i v h

pub front_of-drop-None : {T : Type 0} (xs : List (Option T)) (i : ℕ) → entry_at xs i ≡ None → front_of (drop i xs) ≡ 0
front_of-drop-None [] zero h = refl
front_of-drop-None [] (suc i) h = refl
front_of-drop-None (None ∷ xs) zero h = refl
front_of-drop-None (Some x ∷ xs) zero h = cc
front_of-drop-None (x ∷ xs) (suc i) h = front_of-drop-None xs i h

front_of-drop-front_of : {T : Type 0} (xs : List (Option T)) → front_of (drop (front_of xs) xs) ≡ 0
front_of-drop-front_of [] = refl
front_of-drop-front_of (None ∷ xs) = refl
front_of-drop-front_of (Some x ∷ xs) = front_of-drop-front_of xs

-- after a put the front is found by counting on from the old front
pub front_of-set : {T : Type 0} (xs : List (Option T)) (s : ℕ) (v : T) → front_of xs + front_of (drop (front_of xs) (set xs s (Some v))) ≡ front_of (set xs s (Some v))
front_of-set [] s v = refl
front_of-set (None ∷ xs) s v = omega arith
front_of-set (Some x ∷ xs) zero v = let here = front_of-drop-front_of xs in omega (arith, here)
front_of-set (Some x ∷ xs) (suc s) v = let more = front_of-set xs s v in omega (arith, more)

-- The front after a put.

pub front_of-put_at-other : {T : Type 0} (xs : List (Option T)) (s : ℕ) (v : T) → (s ≡ front_of xs → ⊥) → front_of (put_at xs s v) ≡ front_of xs
front_of-put_at-other [] zero v other = absurd (other refl)
front_of-put_at-other [] (suc s) v other = refl
front_of-put_at-other (None ∷ xs) zero v other = absurd (other refl)
front_of-put_at-other (None ∷ xs) (suc s) v other = refl
front_of-put_at-other (Some x ∷ xs) zero v other = refl
front_of-put_at-other (Some x ∷ xs) (suc s) v other = ap suc (front_of-put_at-other xs s v (λ e. other (ap suc e)))

front_of-put_at-front : {T : Type 0} (xs : List (Option T)) (v : T) → front_of (put_at xs (front_of xs) v) ≡ suc (front_of xs) + front_of (drop (suc (front_of xs)) xs)
front_of-put_at-front [] v = refl
front_of-put_at-front (None ∷ xs) v = omega arith
front_of-put_at-front (Some x ∷ xs) v = let more = front_of-put_at-front xs v in omega (arith, more)

front_of-drop-with_head : {T : Type 0} (x : Option T) (ys : List (Option T)) (k : ℕ) → front_of (drop (suc k) (with_head x ys)) ≡ front_of (drop k ys)
front_of-drop-with_head None [] zero = refl
front_of-drop-with_head None [] (suc k) = refl
front_of-drop-with_head None (y ∷ ys) k = refl
front_of-drop-with_head (Some x) ys k = refl

front_of-drop-trimmed : {T : Type 0} (xs : List (Option T)) (k : ℕ) → front_of (drop k (trimmed xs)) ≡ front_of (drop k xs)
front_of-drop-trimmed xs zero = front_of-trimmed xs
front_of-drop-trimmed [] (suc k) = refl
front_of-drop-trimmed (x ∷ xs) (suc k) = front_of-drop-with_head x (trimmed xs) k ∙ front_of-drop-trimmed xs k

pub front_of-put_at-trimmed : {T : Type 0} (xs : List (Option T)) (s : ℕ) (v : T) → s ≡ front_of xs → front_of (put_at (trimmed xs) s v) ≡ suc s + front_of (drop (suc s) xs)
front_of-put_at-trimmed {T} xs s v here =
    let at : s ≡ front_of (trimmed xs) = here ∙ sym (front_of-trimmed xs) in
    ap (λ (i : ℕ). front_of (put_at (trimmed xs) i v)) at
    ∙ front_of-put_at-front (trimmed xs) v
    ∙ ap (λ (i : ℕ). suc i + front_of (drop (suc i) (trimmed xs))) (sym at)
    ∙ ap (λ (n : ℕ). suc s + n) (front_of-drop-trimmed xs (suc s))

-- The number of entries.

-- an entry counts 1
abbrev one_if : {T : Type 0} → Option T → ℕ
one_if x = cond (is_some x) 1 0

count-cons : {T : Type 0} (x : Option T) (xs : List (Option T)) → count_by is_some (x ∷ xs) ≡ one_if x + count_by is_some xs
count-cons x xs = sum_by-cons one_if x xs

count-head : {T : Type 0} (x : Option T) (ys : List (Option T)) → count_by is_some (with_head x ys) ≡ count_by is_some (x ∷ ys)
count-head None [] = refl
count-head None (y ∷ ys) = refl
count-head (Some x) ys = refl

pub entry_count-trimmed : {T : Type 0} (xs : List (Option T)) → count_by is_some (trimmed xs) ≡ count_by is_some xs
entry_count-trimmed [] = refl
entry_count-trimmed (x ∷ xs) =
    count-head x (trimmed xs)
    ∙ count-cons x (trimmed xs)
    ∙ ap (λ (n : ℕ). one_if x + n) (entry_count-trimmed xs)
    ∙ sym (count-cons x xs)

added-one : {T : Type 0} (x : Option T) → added_to x + one_if x ≡ 1
added-one None = refl
added-one (Some x) = refl

pub entry_count-set : {T : Type 0} (xs : List (Option T)) (s : ℕ) (v : T) → s < length xs → count_by is_some (set xs s (Some v)) ≡ count_by is_some xs + added_to (entry_at xs s)
entry_count-set {T} xs s v h =
    let here : added_to (entry_at xs s) ≡ added_to (get_or xs s None) = ap (λ (x : Option T). added_to x) (entry_at-get_or xs s None h) in
    let all : count_by is_some (set xs s (Some v)) + one_if (get_or xs s None) ≡ count_by is_some xs + 1 = sum_by-set one_if xs s (Some v) None h in
    omega (arith, here, all, added-one (get_or xs s None))
