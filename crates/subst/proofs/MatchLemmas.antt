-- Comparing the result of a substitution with symbols that are already there.
use Rattle.subst.proofs.Words.{◌≡◌, ℕ, zero, suc, ◌+◌, ◌-◌, ◌<◌, ◌≤◌, List, [], ◌∷◌, ◌++◌, length, take, drop, get_or, slice_range, refl, sym, ◌∙◌, ap, arith, append_assoc, drop-cons, drop-drop, length-append, take-add, take-take, append_cancel_left, take-append_seam, CodeImages, code_image, code_apply, SymbolRange, images_at, AreInside}
use Rattle.subst.proofs.SymbolRangeLemmas.{length-seen}
use Rattle.subst.proofs.ImageRangesLemmas.{image-more}
use Rattle.subst.proofs.WrittenImages.{apply-take}

-- a range that begins with an image is this image, followed by the rest of the range
pub front-goes : (s image : List ℕ) (at end k : ℕ) → at + k ≤ end → image ≡ take k (drop at s) → slice_range s at end ≡ image ++ slice_range s (at + k) end
front-goes s image at end k h same =
    let more : end - at ≡ k + (end - (at + k)) = omega (arith, h) in
    ap (λ n. take n (drop at s)) more
    ∙ (take-add k (end - (at + k)) (drop at s)
    ∙ (ap (λ r. take k (drop at s) ++ take (end - (at + k)) r) (drop-drop k at s) ∙ ap (λ r. r ++ slice_range s (at + k) end) (sym same)))

pub front-fails : (s image more : List ℕ) (at end : ℕ) → at ≤ end → end ≤ length s → (at + length image ≤ end → image ≡ take (length image) (drop at s) → ⊥)
    → slice_range s at end ≡ image ++ more → ⊥
front-fails s image more at end within inside none e =
    let whole = length-seen s (record { start = at; end = end }) within inside in
    let fits : at + length image ≤ end = omega (arith, whole, ap length e, length-append image more, within) in
    none fits (sym (take-append_seam image more) ∙ (ap (take (length image)) (sym e) ∙ take-take (length image) (end - at) (drop at s) (omega (arith, fits))))

-- the part of length 1 at an index is the symbol there
one : (s : List ℕ) (at : ℕ) → at < length s → take 1 (drop at s) ≡ get_or s at 0 ∷ []
one s at inside = ap (take 1) (drop-cons s at 0 inside)

pub head-goes : (s image : List ℕ) (x at end : ℕ) → image ≡ x ∷ [] → at < end → end ≤ length s → get_or s at 0 ≡ x → slice_range s at end ≡ image ++ slice_range s (at + 1) end
head-goes s image x at end e more inside h = front-goes s image at end 1 (omega (arith, more)) (e ∙ (ap (λ z. z ∷ []) (sym h) ∙ sym (one s at (omega (arith, more, inside)))))

pub head-fails : (s image more : List ℕ) (x at end : ℕ) → image ≡ x ∷ [] → at ≤ end → end ≤ length s → (at < end → get_or s at 0 ≡ x → ⊥) → slice_range s at end ≡ image ++ more → ⊥
head-fails s image more x at end e within inside none h =
    front-fails s (x ∷ []) more at end within inside
    (λ fits same. none (omega (arith, fits)) (ap (λ r. get_or r 0 0) (sym (same ∙ one s at (omega (arith, fits, inside)))))) (h ∙ ap (λ r. r ++ more) e)

-- if a range adds nothing, it is empty
pub range-left : (s front : List ℕ) (at end : ℕ) → at ≤ end → end ≤ length s → front ++ slice_range s at end ≡ front → at ≡ end
range-left s front at end within inside e =
    let whole : length (slice_range s at end) ≡ end - at = length-seen s (record { start = at; end = end }) within inside in
    omega (arith, ap length e, length-append front (slice_range s at end), whole, within)

-- appending symbols to the buffer does not change the result
pub apply-more : (xs ys : List ℕ) (ps : List (ℕ × SymbolRange)) (e : List ℕ) → AreInside (length xs) ps → code_apply (images_at (xs ++ ys) ps) e ≡ code_apply (images_at xs ps) e
apply-more xs ys ps [] w = refl
apply-more xs ys ps (x ∷ e) w =
    ap (λ r. r ++ code_apply (images_at (xs ++ ys) ps) e) (image-more xs ys ps x w) ∙ ap (λ r. code_image (images_at xs ps) x ++ r) (apply-more xs ys ps e w)

apply-front : (σ : CodeImages) (e : List ℕ) (i : ℕ) → code_apply σ e ≡ code_apply σ (take i e) ++ code_apply σ (drop i e)
apply-front σ e zero = refl
apply-front σ [] (suc i) = refl
apply-front σ (x ∷ e) (suc i) =
    ap (λ r. code_image σ x ++ r) (apply-front σ e i) ∙ sym (append_assoc (code_image σ x) (code_apply σ (take i e)) (code_apply σ (drop i e)))

-- if the rest does not begin with the image of the next symbol, the whole is not the result
pub match-fails : (σ : CodeImages) (e whole rest : List ℕ) (i : ℕ) → i < length e → whole ≡ code_apply σ (take i e) ++ rest
    → ((more : List ℕ) → rest ≡ code_image σ (get_or e i 0) ++ more → ⊥) → whole ≡ code_apply σ e → ⊥
match-fails σ e whole rest i h front none all =
    none (code_apply σ (drop (suc i) e))
    (append_cancel_left (code_apply σ (take i e)) rest (code_image σ (get_or e i 0) ++ code_apply σ (drop (suc i) e))
    (sym front ∙ (all ∙ (apply-front σ e i ∙ ap (λ s. code_apply σ (take i e) ++ code_apply σ s) (drop-cons e i 0 h)))))

pub match-goes : (σ : CodeImages) (e whole rest more : List ℕ) (i : ℕ) → i < length e → whole ≡ code_apply σ (take i e) ++ rest
    → rest ≡ code_image σ (get_or e i 0) ++ more → whole ≡ code_apply σ (take (i + 1) e) ++ more
match-goes σ e whole rest more i h front one =
    front ∙ (ap (λ s. code_apply σ (take i e) ++ s) one ∙ (sym (append_assoc (code_apply σ (take i e)) (code_image σ (get_or e i 0)) more)
    ∙ ap (λ s. s ++ more) (sym (apply-take σ e i h))))
