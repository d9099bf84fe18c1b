-- The image of a symbol in the tables of images.
use Rattle.std.proofs.lemmas.Bool.{ne_eqb}
use Rattle.subst.proofs.Words.{◌≡◌, ℕ, zero, suc, ◌+◌, ◌<◌, ◌≤◌, ◌==◌, true, false, cond, nat_eq, List, [], ◌∷◌, ◌++◌, length, get_or, replicate, slice_set, Option, Some, None, refl, lookup, sym, ◌∙◌, ap, arith, inl, inr, cases_Bool, SymbolRange, images_in_round, AreUpTo, nat_tests}

abbrev pub image_in : ℕ → List ℕ → List SymbolRange → ℕ → Option SymbolRange
image_in round [] places x = None
image_in round (r ∷ rounds) [] x = None
image_in round (r ∷ rounds) (p ∷ places) zero = cond (r == round) (Some p) None
image_in round (r ∷ rounds) (p ∷ places) (suc x) = image_in round rounds places x

-- tables of the symbols from k on have no image of an earlier symbol
before : (round k : ℕ) (rounds : List ℕ) (places : List SymbolRange) (x : ℕ) → x < k → lookup (nat_eq x) (images_in_round round k rounds places) ≡ None
before round k [] places x h = refl
before round k (r ∷ rounds) [] x h = refl
before round k (r ∷ rounds) (p ∷ places) x h =
    let other : nat_eq x k ≡ false = grind (arith, nat_tests, h) in
    let rest : lookup (nat_eq x) (images_in_round round (suc k) rounds places) ≡ None = before round (suc k) rounds places x (omega (arith, h)) in
    elim (cases_Bool (r == round)) [ inl e ↦ rw (e, other) rest | inr e ↦ rw e rest ]

-- tables of the symbols from k on have for k + x the image at x
from : (round k : ℕ) (rounds : List ℕ) (places : List SymbolRange) (x : ℕ) → lookup (nat_eq (k + x)) (images_in_round round k rounds places) ≡ image_in round rounds places x
from round k [] places x = refl
from round k (r ∷ rounds) [] x = refl
from round k (r ∷ rounds) (p ∷ places) zero =
    let same : nat_eq (k + zero) k ≡ true = grind (arith, nat_tests) in
    elim (cases_Bool (r == round)) [ inl e ↦ rw (e, same) refl | inr e ↦ rw e (before round (suc k) rounds places (k + zero) (omega arith)) ]
from round k (r ∷ rounds) (p ∷ places) (suc x) =
    let other : nat_eq (k + suc x) k ≡ false = grind (arith, nat_tests) in
    let next : k + suc x ≡ suc k + x = omega arith in
    let rest : lookup (nat_eq (k + suc x)) (images_in_round round (suc k) rounds places) ≡ image_in round rounds places x = rw next (from round (suc k) rounds places x) in
    elim (cases_Bool (r == round)) [ inl e ↦ rw (e, other) rest | inr e ↦ rw e rest ]

pub placed-image : (round : ℕ) (rounds : List ℕ) (places : List SymbolRange) (x : ℕ) → lookup (nat_eq x) (images_in_round round 0 rounds places) ≡ image_in round rounds places x
placed-image round rounds places x = let e : x ≡ 0 + x = omega arith in ap (λ n. lookup (nat_eq n) (images_in_round round 0 rounds places)) e ∙ from round 0 rounds places x

-- a symbol past the end of the tables has no image
pub image-none : (round : ℕ) (rounds : List ℕ) (places : List SymbolRange) (x : ℕ) → length rounds ≤ x → image_in round rounds places x ≡ None
image-none round [] places x h = refl
image-none round (r ∷ rounds) [] x h = refl
image-none round (r ∷ rounds) (p ∷ places) zero h = absurd (omega (arith, h))
image-none round (r ∷ rounds) (p ∷ places) (suc x) h = image-none round rounds places x (omega (arith, h))

pub image-at : (round : ℕ) (rounds : List ℕ) (places : List SymbolRange) (x r : ℕ) (p : SymbolRange) → x < length rounds → length rounds ≤ length places
    → image_in round rounds places x ≡ cond (get_or rounds x r == round) (Some (get_or places x p)) None
image-at round [] places x r p h l = absurd (omega (arith, h))
image-at round (s ∷ rounds) [] x r p h l = absurd (omega (arith, l))
image-at round (s ∷ rounds) (q ∷ places) zero r p h l = refl
image-at round (s ∷ rounds) (q ∷ places) (suc x) r p h l = image-at round rounds places x r p (omega (arith, h)) (omega (arith, l))

-- no image was set in a later round
pub placed-later : (round later k : ℕ) (rounds : List ℕ) (places : List SymbolRange) → AreUpTo round rounds → round < later → images_in_round later k rounds places ≡ []
placed-later round later k [] places u h = refl
placed-later round later k (r ∷ rounds) [] u h = refl
placed-later round later k (r ∷ rounds) (p ∷ places) u h =
    let low = u.0 in
    let other : (r == later) ≡ false = grind (arith, nat_tests, low, h) in
    rw other (placed-later round later (suc k) rounds places u.1 h)

pub up_to-later : (round later : ℕ) (rounds : List ℕ) → AreUpTo round rounds → round ≤ later → AreUpTo later rounds
up_to-later round later [] u h = tt
up_to-later round later (r ∷ rounds) u h = (let low = u.0 in omega (arith, low, h), up_to-later round later rounds u.1 h)

up_to-at : (round : ℕ) (rounds : List ℕ) (x : ℕ) → AreUpTo round rounds → get_or rounds x 0 ≤ round
up_to-at round [] x u = omega arith
up_to-at round (r ∷ rounds) zero u = u.0
up_to-at round (r ∷ rounds) (suc x) u = up_to-at round rounds x u.1

-- none has a later round
pub none-later : (round later : ℕ) (rounds : List ℕ) (x : ℕ) → AreUpTo round rounds → round < later → (get_or rounds x 0 == later) ≡ false
none-later round later rounds x u h = let low = up_to-at round rounds x u in ne_eqb (get_or rounds x 0) later (λ e. omega (arith, low, h, e))

-- ---- longer tables

placed-none : (round k m : ℕ) (places : List SymbolRange) → 1 ≤ round → images_in_round round k (replicate m 0) places ≡ []
placed-none round k zero places h = refl
placed-none round k (suc m) [] h = refl
placed-none round k (suc m) (p ∷ places) h =
    let other : (0 == round) ≡ false = grind (arith, nat_tests, h) in
    rw other (placed-none round (suc k) m places h)

pub placed-more : (round k : ℕ) (rounds : List ℕ) (places more : List SymbolRange) (m : ℕ) → 1 ≤ round → length rounds ≤ length places
    → images_in_round round k (rounds ++ replicate m 0) (places ++ more) ≡ images_in_round round k rounds places
placed-more round k [] places more m h l = placed-none round k m (places ++ more) h
placed-more round k (r ∷ rounds) [] more m h l = absurd (omega (arith, l))
placed-more round k (r ∷ rounds) (p ∷ places) more m h l = rw (placed-more round (suc k) rounds places more m h (omega (arith, l))) refl

-- ranges past the end of the rounds do not count
pub placed-ranges : (round k : ℕ) (rounds : List ℕ) (places more : List SymbolRange) → length rounds ≤ length places → images_in_round round k rounds (places ++ more) ≡ images_in_round round k rounds places
placed-ranges round k [] places more l = refl
placed-ranges round k (r ∷ rounds) [] more l = absurd (omega (arith, l))
placed-ranges round k (r ∷ rounds) (p ∷ places) more l = rw (placed-ranges round (suc k) rounds places more (omega (arith, l))) refl

up_to-none : (round m : ℕ) → AreUpTo round (replicate m 0)
up_to-none round zero = tt
up_to-none round (suc m) = (omega arith, up_to-none round m)

pub up_to-more : (round : ℕ) (rounds : List ℕ) (m : ℕ) → AreUpTo round rounds → AreUpTo round (rounds ++ replicate m 0)
up_to-more round [] m u = up_to-none round m
up_to-more round (r ∷ rounds) m u = (u.0, up_to-more round rounds m u.1)

-- ---- an image is set

pub up_to-set : (round : ℕ) (rounds : List ℕ) (i r : ℕ) → AreUpTo round rounds → r ≤ round → AreUpTo round (slice_set rounds i r)
up_to-set round [] i r u h = tt
up_to-set round (s ∷ rounds) zero r u h = (h, u.1)
up_to-set round (s ∷ rounds) (suc i) r u h = (u.0, up_to-set round rounds i r u.1 h)

pub image-set : (round : ℕ) (rounds : List ℕ) (places : List SymbolRange) (i : ℕ) (p : SymbolRange) (x : ℕ) → i < length rounds → length rounds ≤ length places
    → image_in round (slice_set rounds i round) (slice_set places i p) x ≡ cond (x == i) (Some p) (image_in round rounds places x)
image-set round [] places i p x h l = absurd (omega (arith, h))
image-set round (r ∷ rounds) [] i p x h l = absurd (omega (arith, l))
image-set round (r ∷ rounds) (q ∷ places) zero p zero h l = let now : (round == round) ≡ true = grind (arith, nat_tests) in ap (λ b. cond b (Some p) None) now
image-set round (r ∷ rounds) (q ∷ places) zero p (suc x) h l = let other : (suc x == zero) ≡ false = grind (arith, nat_tests) in ap (λ b. cond b (Some p) (image_in round rounds places x)) (sym other)
image-set round (r ∷ rounds) (q ∷ places) (suc i) p zero h l = let other : (zero == suc i) ≡ false = grind (arith, nat_tests) in ap (λ b. cond b (Some p) (cond (r == round) (Some q) None)) (sym other)
image-set round (r ∷ rounds) (q ∷ places) (suc i) p (suc x) h l =
    let same : (suc x == suc i) ≡ (x == i) = grind (arith, nat_tests) in
    image-set round rounds places i p x (omega (arith, h)) (omega (arith, l)) ∙ ap (λ b. cond b (Some p) (image_in round rounds places x)) (sym same)
