-- The first piece of some bytes, and the pieces after it.
use Rattle.commands.proofs.Words.{◌≡◌, ℕ, ◌+◌, ◌-◌, ◌==◌, ◌≤◌, Bool, true, false, not, List, [], ◌∷◌, Some, None, cond, nat_lt, position, refl, slice_split, position_or_len, onto_first, sym, ◌∙◌, ap, arith, length, take, drop, length-drop, take_all, slice_split_first, slice_split-cons_no, ltb-true, ltb-false, split_at}

module _ (p : ℕ → Bool) (x : ℕ) (xs : List ℕ) where
  -- one more byte in front, which does not pass either
  whole_more : (b : Bool) → p x ≡ b → length (x ∷ xs) ≤ cond (not b) (1 + position_or_len p xs) 0 → (length xs ≤ position_or_len p xs → slice_split p xs ≡ xs ∷ [])
      → slice_split p (x ∷ xs) ≡ (x ∷ xs) ∷ []
  whole_more true e far rest = absurd (omega arith)
  whole_more false e far rest = slice_split-cons_no p x xs e ∙ ap (onto_first x) (rest (omega arith))

-- if no byte passes, all is one piece
whole : (p : ℕ → Bool) (bytes : List ℕ) → length bytes ≤ position_or_len p bytes → slice_split p bytes ≡ bytes ∷ []
whole p [] far = refl
whole p (x ∷ xs) far = whole_more p x xs (p x) refl far (whole p xs)

-- the first piece ends at the first separator, and the others follow it
pub split_found : (separator : ℕ) (bytes : List ℕ) (end : ℕ) → position (λ b. b == separator) bytes ≡ Some end
    → split_at separator bytes ≡ take end bytes ∷ split_at separator (take (length bytes - (end + 1)) (drop (end + 1) bytes))
split_found separator bytes end found = by (nat_lt at (length bytes)) refl found
  where
    p : ℕ → Bool
    p b = b == separator

    at : ℕ
    at = position_or_len p bytes

    by : (b : Bool) → nat_lt at (length bytes) ≡ b → cond b (Some at) None ≡ Some end
        → split_at separator bytes ≡ take end bytes ∷ split_at separator (take (length bytes - (end + 1)) (drop (end + 1) bytes))
    by true inside e =
        let same : at ≡ end = cc in
        let rest : take (length bytes - (end + 1)) (drop (end + 1) bytes) ≡ drop (end + 1) bytes = take_all _ _ (omega (arith, length-drop (end + 1) bytes)) in
        slice_split_first p bytes 0 (ltb-true at (length bytes) inside)
        ∙ (ap (λ n. take n bytes ∷ split_at separator (drop (n + 1) bytes)) same ∙ ap (λ r. take end bytes ∷ split_at separator r) (sym rest))
    by false outside e = absurd (cc)

-- if there is no separator, all is one piece
pub split_whole : (separator : ℕ) (bytes : List ℕ) → position (λ b. b == separator) bytes ≡ None → split_at separator bytes ≡ bytes ∷ []
split_whole separator bytes none = by (nat_lt at (length bytes)) refl none
  where
    p : ℕ → Bool
    p b = b == separator

    at : ℕ
    at = position_or_len p bytes

    by : (b : Bool) → nat_lt at (length bytes) ≡ b → cond b (Some at) None ≡ None → split_at separator bytes ≡ bytes ∷ []
    by true inside e = absurd (cc)
    by false outside e = whole p bytes (ltb-false at (length bytes) outside)
