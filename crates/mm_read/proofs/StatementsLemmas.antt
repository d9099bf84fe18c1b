-- Symbols and labels have no `$`, and keywords do; the parts of a shaped statement.
use Rattle.mm_read.proofs.Words.{◌≡◌, ℕ, ◌≤◌, Bool, true, false, not, ◌&&◌, ◌||◌, ◌==◌, List, [], ◌∷◌, ◌++◌, length, list_all, sym, ◌∙◌, ap, arith, true≢false, refl, and_parts, not-true, bytes_eq-Decides, Name, name_eq, is_empty, is_symbol, is_label, is_label_byte, has_byte, is_visible, are_symbols, has_two}

-- a symbol has no `$`
pub symbol_plain : (w : Name) → is_symbol w ≡ true → has_byte 36 w ≡ false
symbol_plain w h = not-true (has_byte 36 w) (and_parts (not (is_empty w) && list_all is_visible w) (not (has_byte 36 w)) h).1

-- a byte of a label is not a `$`
label_byte : (c : ℕ) → is_label_byte c ≡ true → (c == 36) ≡ false
label_byte c h = by (c == 36) refl
  where
    by : (b : Bool) → (c == 36) ≡ b → b ≡ false
    by true e = let is : c ≡ 36 = grind (arith, e) in absurd (true≢false (sym h ∙ ap is_label_byte is))
    by false e = refl

-- bytes of a label have no `$`
label_bytes : (w : Name) → list_all is_label_byte w ≡ true → has_byte 36 w ≡ false
label_bytes [] h = refl
label_bytes (c ∷ w) h =
    let parts : (is_label_byte c ≡ true) × (list_all is_label_byte w ≡ true) = and_parts (is_label_byte c) (list_all is_label_byte w) h in
    ap (λ b. b || has_byte 36 w) (label_byte c parts.0) ∙ label_bytes w parts.1

-- a label has no `$`
pub label_plain : (w : Name) → is_label w ≡ true → has_byte 36 w ≡ false
label_plain w h = label_bytes w (and_parts (not (is_empty w)) (list_all is_label_byte w) h).1

-- each of one or more symbols is a symbol
pub symbols_of : (ws : List Name) → are_symbols ws ≡ true → list_all is_symbol ws ≡ true
symbols_of ws h = (and_parts (not (is_empty ws)) (list_all is_symbol ws) h).1

-- `(xs ++ y ∷ ys) ++ zs` with the brackets moved
pub append_middle : {A : Type 0} (xs : List A) (y : A) (ys zs : List A) → (xs ++ y ∷ ys) ++ zs ≡ xs ++ y ∷ (ys ++ zs)
append_middle [] y ys zs = refl
append_middle (x ∷ xs) y ys zs = ap (λ r. x ∷ r) (append_middle xs y ys zs)

-- a list of at least one symbol is one or more symbols
pub are_symbols_of : (ws : List Name) → list_all is_symbol ws ≡ true → 1 ≤ length ws → are_symbols ws ≡ true
are_symbols_of [] h n = absurd (omega (arith, n))
are_symbols_of (w ∷ ws) h n = h

-- a list of length 2 or more has two
pub has_two_of : (ws : List Name) → 2 ≤ length ws → has_two ws ≡ true
has_two_of [] n = absurd (omega (arith, n))
has_two_of (w ∷ []) n = absurd (omega (arith, n))
has_two_of (w ∷ v ∷ ws) n = refl

-- a word without `$` is not a keyword
pub plain_is_no_key : (w k : Name) → has_byte 36 w ≡ false → has_byte 36 k ≡ true → name_eq w k ≡ false
plain_is_no_key w k plain has = by (name_eq w k) refl
  where
    by : (b : Bool) → name_eq w k ≡ b → b ≡ false
    by true e = absurd (true≢false (sym has ∙ (ap (has_byte 36) (sym ((bytes_eq-Decides w k).0 e)) ∙ plain)))
    by false e = refl
