-- Numbers and their names, as names and symbols are appended.
use Rattle.frame.proofs.Words.{◌∙◌, ap, arith, ◌≡◌, ℕ, ◌<◌, ◌≤◌, List, [], ◌∷◌, ◌++◌, length, take, refl, suc, take-append_seam, Name, name_at, decode, AreBelow, Extends, name_at-more}

-- a list that is truncated to its old length is the old list
pub take-extends : {A : Type 0} (a b : List A) → Extends a b → take (length a) b ≡ a
take-extends a b p = ap (take (length a)) p.1 ∙ take-append_seam a p.0

pub decode-more : (names more : List Name) (codes : List ℕ) → AreBelow (length names) codes → decode (names ++ more) codes ≡ decode names codes
decode-more names more [] h = refl
decode-more names more (c ∷ codes) h =
    ap (λ x. x ∷ decode (names ++ more) codes) (name_at-more names more c h.0) ∙ ap (λ r. name_at names c ∷ r) (decode-more names more codes h.1)

pub decode-extends : (names new : List Name) (codes : List ℕ) → Extends names new → AreBelow (length names) codes → decode new codes ≡ decode names codes
decode-extends names new codes p h = ap (λ r. decode r codes) p.1 ∙ decode-more names p.0 codes h

pub below-more : (n m : ℕ) (codes : List ℕ) → n ≤ m → AreBelow n codes → AreBelow m codes
below-more n m [] le h = tt
below-more n m (c ∷ codes) le h = let a = h.0 in (omega (arith, a, le), below-more n m codes le h.1)

pub below-push : (n : ℕ) (codes : List ℕ) (c : ℕ) → AreBelow n codes → c < n → AreBelow n (codes ++ c ∷ [])
below-push n [] c h l = (l, tt)
below-push n (x ∷ codes) c h l = (h.0, below-push n codes c h.1 l)

-- if the numbers of two lists are below a bound, so are those of both together
pub below-append : (n : ℕ) (xs ys : List ℕ) → AreBelow n xs → AreBelow n ys → AreBelow n (xs ++ ys)
below-append n [] ys h k = k
below-append n (x ∷ xs) ys h k = (h.0, below-append n xs ys h.1 k)

-- so are the first numbers of a list
pub below-take : (n k : ℕ) (xs : List ℕ) → AreBelow n xs → AreBelow n (take k xs)
below-take n (suc k) (x ∷ xs) h = (h.0, below-take n k xs h.1)
below-take n k xs h = tt

pub name_at-extends : (names new : List Name) (n : ℕ) → Extends names new → n < length names → name_at new n ≡ name_at names n
name_at-extends names new n p h = ap (λ r. name_at r n) p.1 ∙ name_at-more names p.0 n h
