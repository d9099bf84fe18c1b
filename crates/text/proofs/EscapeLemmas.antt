-- Escaped bytes are read as the original bytes.
use Rattle.std.specs.Prelude.{◌≡◌, ℕ, Bool, true, false, if◌then◌else◌, List, [], ◌∷◌, ◌++◌}
use Rattle.std.proofs.Common.{sym, subst, refl}
use Rattle.text.specs.Escapes.{is_markup, reference, html_byte, html_text, ReadsAs, reads_none, reads_plain, reads_reference}

one-more : (b : ℕ) (written text : List ℕ) → ReadsAs written text → (t : Bool) → is_markup b ≡ t → ReadsAs (html_byte b ++ written) (b ∷ text)
one-more b written text r true e =
    subst (λ (v : Bool). ReadsAs ((if v then reference b else b ∷ []) ++ written) (b ∷ text)) (sym e) (reads_reference b written text e r)
one-more b written text r false e =
    subst (λ (v : Bool). ReadsAs ((if v then reference b else b ∷ []) ++ written) (b ∷ text)) (sym e) (reads_plain b written text e r)

pub reads-back : (text : List ℕ) → ReadsAs (html_text text) text
reads-back [] = reads_none
reads-back (b ∷ text) = one-more b (html_text text) text (reads-back text) (is_markup b) refl
