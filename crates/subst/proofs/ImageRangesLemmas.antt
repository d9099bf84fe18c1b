-- Images that are ranges of a buffer that grows.
use Rattle.subst.proofs.Words.{◌≡◌, ℕ, ◌≤◌, Bool, true, false, inl, inr, cases_Bool, cond, nat_eq, List, [], ◌∷◌, ◌++◌, length, Option, Some, None, refl, lookup, sym, ◌∙◌, ap, subst, arith, code_image, SymbolRange, symbols_in, images_at, AreInside}
use Rattle.subst.proofs.SymbolRangeLemmas.{seen-more}

-- the image of a symbol, by the range that was found for it
abbrev pub by_place : List ℕ → ℕ → Option SymbolRange → List ℕ
by_place symbols x None = x ∷ []
by_place symbols x (Some p) = symbols_in symbols p

pub image-by_place : (symbols : List ℕ) (ps : List (ℕ × SymbolRange)) (x : ℕ) → code_image (images_at symbols ps) x ≡ by_place symbols x (lookup (nat_eq x) ps)
image-by_place symbols [] x = refl
image-by_place symbols (p ∷ ps) x = elim (cases_Bool (nat_eq x p.0)) [ inl e ↦ rw e refl | inr e ↦ rw e (image-by_place symbols ps x) ]

pub image-some : (symbols : List ℕ) (ps : List (ℕ × SymbolRange)) (x : ℕ) (p : SymbolRange) → lookup (nat_eq x) ps ≡ Some p → code_image (images_at symbols ps) x ≡ symbols_in symbols p
image-some symbols ps x p h = image-by_place symbols ps x ∙ ap (by_place symbols x) h

pub image-none : (symbols : List ℕ) (ps : List (ℕ × SymbolRange)) (x : ℕ) → lookup (nat_eq x) ps ≡ None → code_image (images_at symbols ps) x ≡ x ∷ []
image-none symbols ps x h = image-by_place symbols ps x ∙ ap (by_place symbols x) h

-- appending symbols to the buffer does not change the images
pub image-more : (xs ys : List ℕ) (ps : List (ℕ × SymbolRange)) (x : ℕ) → AreInside (length xs) ps → code_image (images_at (xs ++ ys) ps) x ≡ code_image (images_at xs ps) x
image-more xs ys ps x w = image-by_place (xs ++ ys) ps x ∙ (by (lookup (nat_eq x) ps) refl ∙ sym (image-by_place xs ps x))
  where
    by : (o : Option SymbolRange) → lookup (nat_eq x) ps ≡ o → by_place (xs ++ ys) x o ≡ by_place xs x o
    by None h = refl
    by (Some p) h = let k = w.each x p h in seen-more xs ys p k.0 k.1

pub inside-more : (n m : ℕ) (ps : List (ℕ × SymbolRange)) → n ≤ m → AreInside n ps → AreInside m ps
inside-more n m ps h w = record { each = λ x p e. let k = w.each x p e in (k.0, omega (arith, k.1, h)) }

pub inside-none : (n : ℕ) → AreInside n []
inside-none n = record { each = λ x p e. cc }

-- the range of one image is set
pub inside-set : (n : ℕ) (ps qs : List (ℕ × SymbolRange)) (s : ℕ) (p : SymbolRange) → AreInside n ps → ((x : ℕ) → lookup (nat_eq x) qs ≡ cond (nat_eq x s) (Some p) (lookup (nat_eq x) ps))
    → p.start ≤ p.end → p.end ≤ n → AreInside n qs
inside-set n ps qs s p w set low high = record { each = λ x q e. by x q (nat_eq x s) (sym (set x) ∙ e) (w.each x q) }
  where
    by : (x : ℕ) (q : SymbolRange) (b : Bool) → cond b (Some p) (lookup (nat_eq x) ps) ≡ Some q → (lookup (nat_eq x) ps ≡ Some q → (q.start ≤ q.end) × (q.end ≤ n)) → (q.start ≤ q.end) × (q.end ≤ n)
    by x q true e rest = let same : p ≡ q = cc in subst (λ r. (r.start ≤ r.end) × (r.end ≤ n)) same (low, high)
    by x q false e rest = rest e

-- the images after one is set
pub image-set : (xs ys : List ℕ) (ps qs : List (ℕ × SymbolRange)) (s : ℕ) (p : SymbolRange) (x : ℕ) → AreInside (length xs) ps → ((y : ℕ) → lookup (nat_eq y) qs ≡ cond (nat_eq y s) (Some p) (lookup (nat_eq y) ps))
    → symbols_in (xs ++ ys) p ≡ ys → code_image (images_at (xs ++ ys) qs) x ≡ cond (nat_eq x s) ys (code_image (images_at xs ps) x)
image-set xs ys ps qs s p x w set seen =
    image-by_place (xs ++ ys) qs x
    ∙ (ap (by_place (xs ++ ys) x) (set x) ∙ elim (cases_Bool (nat_eq x s)) [ inl e ↦ rw e seen | inr e ↦ rw e (sym (image-by_place (xs ++ ys) ps x) ∙ image-more xs ys ps x w) ])
