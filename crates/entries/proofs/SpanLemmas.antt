-- Parts of a buffer.
use Rattle.entries.proofs.Words.{◌≡◌, ℕ, zero, suc, ◌-◌, ◌≤◌, List, [], ◌∷◌, ◌++◌, length, take, drop, reverse, slice_get, slice_range, Some, refl, ◌∙◌, ap, sym, subst, arith, append-nil, append_assoc, length-append, length-drop, take-append-le, drop-append-le, take-append-drop, reverse-append, take-append_seam, drop-append_seam, same_Some, BufferPart, cut, AreSpansIn, Extends}

pub span-in : (n : ℕ) (spans : List BufferPart) (i : ℕ) (s : BufferPart) → AreSpansIn n spans → slice_get spans i ≡ Some s → (s.from ≤ s.to) × (s.to ≤ n)
span-in n [] i s h e = absurd (cc)
span-in n (t ∷ spans) zero s h e = rw (← same_Some t s e) h.0
span-in n (t ∷ spans) (suc i) s h e = span-in n spans i s h.1 e

pub range-more : {A : Type 0} (xs more : List A) (from to : ℕ) → from ≤ to → to ≤ length xs → slice_range (xs ++ more) from to ≡ slice_range xs from to
range-more xs more from to p q =
    let e = drop-append-le from xs more (omega arith) in
    let l = length-drop from xs in
    let f = take-append-le (to - from) (drop from xs) more (omega (arith, l)) in
    ap (take (to - from)) e ∙ f

pub range-extends : {A : Type 0} (xs ys : List A) (from to : ℕ) → Extends xs ys → from ≤ to → to ≤ length xs → slice_range ys from to ≡ slice_range xs from to
range-extends xs ys from to h p q = ap (λ zs. slice_range zs from to) h.1 ∙ range-more xs h.0 from to p q

-- the items that were appended to a list are a part of the list, also after more are appended
pub range-behind : {A : Type 0} (xs ys zs all : List A) (from to : ℕ) → from ≡ length xs → zs ≡ xs ++ ys → to ≡ length zs → Extends zs all → slice_range all from to ≡ ys
range-behind xs ys zs all from to p e q h =
    let k : to - from ≡ length ys = let l = length-append xs ys in let m = ap length e in omega arith in
    let whole : all ≡ xs ++ (ys ++ h.0) = h.1 ∙ (ap (λ w. w ++ h.0) e ∙ append_assoc xs ys h.0) in
    rw (k, p, whole, drop-append_seam) (take-append_seam ys h.0)

pub extends-refl : {A : Type 0} (a : List A) → Extends a a
extends-refl a = ([], sym (append-nil a))

pub extends-trans : {A : Type 0} (a b c : List A) → Extends a b → Extends b c → Extends a c
extends-trans a b c p q = (p.0 ++ q.0, q.1 ∙ (ap (λ w. w ++ q.0) p.1 ∙ append_assoc a p.0 q.0))

pub extends-length : {A : Type 0} (a b : List A) → Extends a b → length a ≤ length b
extends-length a b h = let l = length-append a h.0 in let m = ap length h.1 in omega arith

pub extends-take : {A : Type 0} (n : ℕ) (a : List A) → Extends (take n a) a
extends-take n a = (drop n a, sym (take-append-drop n a))

spans-append : (n : ℕ) (a b : List BufferPart) → AreSpansIn n a → AreSpansIn n b → AreSpansIn n (a ++ b)
spans-append n [] b h k = k
spans-append n (s ∷ a) b h k = (h.0, spans-append n a b h.1 k)

pub spans-push : (n m : ℕ) (a : List BufferPart) (s : BufferPart) → n ≤ m → AreSpansIn n a → s.from ≤ s.to → s.to ≤ m → AreSpansIn m (a ++ s ∷ [])
spans-push n m [] s le h p q = ((p, q), tt)
spans-push n m (t ∷ a) s le h p q = let k = h.0.1 in ((h.0.0, omega (arith, k, le)), spans-push n m a s le h.1 p q)

pub spans-reverse : (n : ℕ) (a : List BufferPart) → AreSpansIn n a → AreSpansIn n (reverse a)
spans-reverse n [] h = tt
spans-reverse n (s ∷ a) h = subst (AreSpansIn n) (sym (reverse-append (s ∷ []) a)) (spans-append n (reverse a) (s ∷ []) (spans-reverse n a h.1) (h.0, tt))

-- appending to the buffer changes no part
pub cut-more : {A : Type 0} (xs more : List A) (a : List BufferPart) → AreSpansIn (length xs) a → cut (xs ++ more) a ≡ cut xs a
cut-more xs more [] h = refl
cut-more xs more (s ∷ a) h = let e = range-more xs more s.from s.to h.0.0 h.0.1 in let r = cut-more xs more a h.1 in cc

pub cut-push : {A : Type 0} (xs : List A) (a : List BufferPart) (s : BufferPart) → cut xs (a ++ s ∷ []) ≡ cut xs a ++ slice_range xs s.from s.to ∷ []
cut-push xs [] s = refl
cut-push xs (t ∷ a) s = ap (λ r. slice_range xs t.from t.to ∷ r) (cut-push xs a s)
