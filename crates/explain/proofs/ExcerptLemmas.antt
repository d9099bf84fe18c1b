-- The beginning of an expression to which symbols are appended.
use Rattle.explain.proofs.Words.{◌≡◌, ℕ, zero, suc, ◌+◌, ◌-◌, ◌<◌, List, [], ◌∷◌, ◌++◌, length, take, get_or, refl, sym, ◌∙◌, ap, subst, arith, add-one, append-nil, append_assoc, length-append, CodeImages, code_image, code_apply}
use Rattle.explain.specs.Excerpts.{IsExcerpt}
use Rattle.explain.specs.declared.excerpt.Excerpt.{Excerpt}
use Rattle.explain.specs.declared.excerpt.TheConstants.{EXCERPT_LEN}

-- the first n symbols of two lists are those of the first one, and as many of the second as are
-- missing
take-two : (n : ℕ) (xs ys : List ℕ) → take n (xs ++ ys) ≡ take n xs ++ take (n - length (take n xs)) ys
take-two zero xs ys = refl
take-two (suc n) [] ys = let all : suc n - 0 ≡ suc n = omega arith in sym (ap (λ k. take k ys) all)
take-two (suc n) (x ∷ xs) ys =
    let less : suc n - length (x ∷ take n xs) ≡ n - length (take n xs) = omega arith in
    ap (λ l. x ∷ l) (take-two n xs ys) ∙ ap (λ k. (x ∷ take n xs) ++ take k ys) (sym less)

pub excerpt_more : (e more : List ℕ) (old new : Excerpt) → IsExcerpt e old → new.symbols.items ≡ old.symbols.items ++ take (EXCERPT_LEN - length old.symbols.items) more → new.len ≡ old.len + length more → IsExcerpt (e ++ more) new
excerpt_more e more old new is added longer = record {
  symbols = added
      ∙ (ap (λ l. l ++ take (EXCERPT_LEN - length l) more) is.symbols ∙ sym (take-two EXCERPT_LEN e more));
  len = let l = is.len in longer ∙ (ap (λ n. n + length more) l ∙ sym (length-append e more));
}

-- the image of one more symbol
more_taken : (σ : CodeImages) (e : List ℕ) (i : ℕ) → i < length e → code_apply σ (take (suc i) e) ≡ code_apply σ (take i e) ++ code_image σ (get_or e i 0)
more_taken σ [] i h = absurd (omega (arith, h))
more_taken σ (x ∷ e) zero h = append-nil (code_image σ x)
more_taken σ (x ∷ e) (suc i) h = ap (λ r. code_image σ x ++ r) (more_taken σ e i (omega (arith, h))) ∙ sym (append_assoc (code_image σ x) (code_apply σ (take i e)) (code_image σ (get_or e i 0)))

pub excerpt_next : (σ : CodeImages) (e more : List ℕ) (i : ℕ) (excerpt : Excerpt) → i < length e → more ≡ code_image σ (get_or e i 0) → IsExcerpt (code_apply σ (take i e) ++ more) excerpt → IsExcerpt (code_apply σ (take (i + 1) e)) excerpt
excerpt_next σ e more i excerpt inside is all =
    subst (λ l. IsExcerpt l excerpt) (ap (λ l. code_apply σ (take i e) ++ l) is ∙ sym (ap (λ n. code_apply σ (take n e)) (add-one i) ∙ more_taken σ e i inside)) all
