-- The slots of a page, of which only the first are stored.
use Rattle.std.proofs.Common.{◌≡◌, ◌∙◌, ℕ, zero, suc, ◌+◌, ◌-◌, ◌<◌, ◌≤◌, List, [], ◌∷◌, ◌++◌, length, get_or, set, replicate, Option, None, refl, ap, sym, arith, append_assoc, append-nil, le_of_suc-le-suc, length-append, length-set}
use Rattle.std.proofs.lemmas.List.{set-append_left, replicate-append-replicate, length-replicate}
use Rattle.slots.specs.FiniteMap.{entry_at}
use Rattle.slots.specs.Stored.Pages.{padded}
use Rattle.slots.specs.declared.page.TheConstants.{PAGE_SLOTS}

-- with one more empty slot stored and one fewer padded, the page is the same
pub one_more : {T : Type 0} (xs more : List (Option T)) (count : ℕ) → more ≡ xs ++ None ∷ [] → length xs < count
    → more ++ replicate (count - length more) None ≡ xs ++ replicate (count - length xs) None
one_more {T} xs more count is low =
    let longer : length more ≡ length xs + 1 = ap length is ∙ length-append xs (None ∷ []) in
    ap (λ (ys : List (Option T)). ys ++ replicate (count - length more) None) is
    ∙ append_assoc xs (None ∷ []) (replicate (count - length more) None)
    ∙ ap (λ (ys : List (Option T)). xs ++ ys) (ap (λ (n : ℕ). replicate n (let none : Option T = None in none)) (let e : suc (count - length more) ≡ count - length xs = omega arith in e))

-- a page of which all slots are stored has no padding
pub none_more : {T : Type 0} (xs : List (Option T)) (count : ℕ) → count ≤ length xs → xs ≡ xs ++ replicate (count - length xs) None
none_more {T} xs count all = sym (ap (λ (n : ℕ). xs ++ replicate n (let none : Option T = None in none)) (let e : count - length xs ≡ 0 = omega arith in e) ∙ append-nil xs)

-- an empty slot has no entry
entry_at-replicate : {T : Type 0} (n s : ℕ) → entry_at (replicate n (let none : Option T = None in none)) s ≡ None
entry_at-replicate zero s = refl
entry_at-replicate (suc n) zero = refl
entry_at-replicate (suc n) (suc s) = entry_at-replicate n s

-- the entry at a stored slot is the one stored
pub entry_at-stored : {T : Type 0} (xs ys : List (Option T)) (s : ℕ) (d : Option T) → s < length xs → entry_at (xs ++ ys) s ≡ get_or xs s d
entry_at-stored [] ys s d low = absurd (omega arith)
entry_at-stored (x ∷ xs) ys zero d low = refl
entry_at-stored (x ∷ xs) ys (suc s) d low = entry_at-stored xs ys s d (le_of_suc-le-suc low)

-- a slot that is not stored has no entry
pub entry_at-past : {T : Type 0} (xs : List (Option T)) (n s : ℕ) → length xs ≤ s → entry_at (xs ++ replicate n None) s ≡ None
entry_at-past [] n s past = entry_at-replicate n s
entry_at-past (x ∷ xs) n zero past = absurd (omega arith)
entry_at-past (x ∷ xs) n (suc s) past = entry_at-past xs n s (le_of_suc-le-suc past)

-- with more slots stored it is the same page
pub padded-pad_to : {T : Type 0} (xs : List (Option T)) (s : ℕ) → s < PAGE_SLOTS → padded (xs ++ replicate (s + 1 - length xs) None) ≡ padded xs
padded-pad_to {T} xs s low =
    let none : Option T = None in
    let k : ℕ = s + 1 - length xs in
    let count : length (xs ++ replicate k none) ≡ length xs + k = length-append xs (replicate k none) ∙ ap (λ (n : ℕ). length xs + n) (length-replicate k none) in
    append_assoc xs (replicate k none) (replicate (PAGE_SLOTS - length (xs ++ replicate k none)) none)
    ∙ ap (λ (ys : List (Option T)). xs ++ ys) (replicate-append-replicate k (PAGE_SLOTS - length (xs ++ replicate k none)) none
    ∙ ap (λ (n : ℕ). replicate n none) (omega (arith, count, low)))

module _ {T : Type 0} (xs ys : List (Option T)) (s : ℕ) (low : s < PAGE_SLOTS) (filled : ys ≡ xs ++ replicate (s + 1 - length xs) None) where
  -- slot s is stored
  stored : s < length ys
  stored =
      let none : Option T = None in
      let count : length ys ≡ length xs + (s + 1 - length xs) = ap length filled ∙ length-append xs (replicate (s + 1 - length xs) none) ∙ ap (λ (n : ℕ). length xs + n) (length-replicate (s + 1 - length xs) none) in
      omega (arith, count)

  same_page : padded ys ≡ padded xs
  same_page = ap padded filled ∙ padded-pad_to xs s low

  -- setting the entry at a stored slot sets it in the page
  pub padded-put : (v : Option T) → padded (set ys s v) ≡ set (padded xs) s v
  padded-put v =
      ap (λ (n : ℕ). set ys s v ++ replicate (PAGE_SLOTS - n) (let none : Option T = None in none)) (length-set ys s v)
      ∙ sym (set-append_left ys (replicate (PAGE_SLOTS - length ys) None) s v stored)
      ∙ ap (λ (zs : List (Option T)). set zs s v) same_page

  -- the entry read at a stored slot is that of the page
  pub padded-get : (d : Option T) → get_or ys s d ≡ entry_at (padded xs) s
  padded-get d = sym (entry_at-stored ys (replicate (PAGE_SLOTS - length ys) None) s d stored) ∙ ap (λ (zs : List (Option T)). entry_at zs s) same_page
