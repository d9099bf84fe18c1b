-- Images are read from results from the last hypothesis back, whatever the results begin with.
use Rattle.verify.proofs.Words.{◌≡◌, ℕ, suc, ◌<◌, nat_eq, Bool, true, false, cond, List, length, map, drop, get_or, slice_get, Some, refl, sym, ◌∙◌, ap, slice_get_within, get_or_from_slice_get, lookup, code_image, CodeImages, SymbolRange, symbols_in, images_at, Hypothesis, Float, Essential}
use Rattle.std.proofs.Math.Seq.{drop-cons}
use Rattle.subst.proofs.ImageRangesLemmas.{by_place, image-by_place}
use Rattle.verify.specs.HypothesisResults.{AreGiven, code_images_read}

abbrev pub no_range : SymbolRange
no_range = record { start = 0; end = 0 }

module _ (symbols : List ℕ) (hs : List Hypothesis) (places : List SymbolRange) (k : ℕ) (inside : k < length places) (old new : List (ℕ × SymbolRange))
    (after : AreGiven (drop (suc k) hs) (map (symbols_in symbols) (drop (suc k) places)) (images_at symbols old)) where
  rest : CodeImages
  rest = code_images_read (drop (suc k) hs) (map (symbols_in symbols) (drop (suc k) places))

  -- a `$f` sets the image of its variable
  pub given-float : (x : ℕ) (d q : SymbolRange) → slice_get hs k ≡ Some (Float x) → symbols_in symbols q ≡ drop 1 (symbols_in symbols (get_or places k d))
      → ((y : ℕ) → lookup (nat_eq y) new ≡ cond (nat_eq y x) (Some q) (lookup (nat_eq y) old))
      → AreGiven (drop k hs) (map (symbols_in symbols) (drop k places)) (images_at symbols new)
  given-float x d q float tail set = rw (drop-cons hs k (Float x) (slice_get_within hs k (Float x) float), drop-cons places k d inside, get_or_from_slice_get hs k (Float x) (Float x) float) (record { each = λ y. at y (nat_eq y x) refl })
    where
      at : (y : ℕ) (t : Bool) → nat_eq y x ≡ t → code_image (images_at symbols new) y ≡ cond (nat_eq y x) (drop 1 (symbols_in symbols (get_or places k d))) (code_image (code_images_read (drop (suc k) hs) (map (symbols_in symbols) (drop (suc k) places))) y)
      at y true e = image-by_place symbols new y ∙ (ap (by_place symbols y) (set y ∙ ap (λ t. cond t (Some q) (lookup (nat_eq y) old)) e) ∙ (tail ∙ sym (ap (λ t. cond t (drop 1 (symbols_in symbols (get_or places k d))) (code_image (code_images_read (drop (suc k) hs) (map (symbols_in symbols) (drop (suc k) places))) y)) e)))
      at y false e =
          image-by_place symbols new y
          ∙ (ap (by_place symbols y) (set y ∙ ap (λ t. cond t (Some q) (lookup (nat_eq y) old)) e)
          ∙ (sym (image-by_place symbols old y) ∙ (after.each y ∙ sym (ap (λ t. cond t (drop 1 (symbols_in symbols (get_or places k d))) (code_image (code_images_read (drop (suc k) hs) (map (symbols_in symbols) (drop (suc k) places))) y)) e))))

  -- a `$e` sets none
  pub given-skip : (p : ℕ) (d : SymbolRange) → slice_get hs k ≡ Some (Essential p) → new ≡ old → AreGiven (drop k hs) (map (symbols_in symbols) (drop k places)) (images_at symbols new)
  given-skip p d essential same = rw (drop-cons hs k (Essential p) (slice_get_within hs k (Essential p) essential), drop-cons places k d inside, get_or_from_slice_get hs k (Essential p) (Essential p) essential, same) (record { each = λ y. after.each y })
