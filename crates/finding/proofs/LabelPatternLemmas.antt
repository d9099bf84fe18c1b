-- The bytes of a pattern and of a label, one after another.
use Rattle.std.specs.Prelude.{◌≡◌, ℕ, List, [], ◌∷◌, ◌++◌, map}
use Rattle.std.proofs.Common.{ap, sym, ◌∙◌, append_assoc}
use Rattle.std.proofs.lemmas.List.{map-append}

-- one more element, whose view is that of the next byte
pub views_on : {A B : Type 0} (view : A → B) (of_byte : ℕ → B) (ending : List B) (b : ℕ) (others rest : List ℕ) (list new : List A) (x : A) (whole : List B)
    → rest ≡ b ∷ others → map view list ++ (map of_byte rest ++ ending) ≡ whole → new ≡ list ++ x ∷ [] → view x ≡ of_byte b
    → map view new ++ (map of_byte others ++ ending) ≡ whole
views_on view of_byte ending b others rest list new x whole is inv added same =
    ap (λ l. map view l ++ (map of_byte others ++ ending)) added
    ∙ (ap (λ l. l ++ (map of_byte others ++ ending)) (map-append view list (x ∷ []))
    ∙ (append_assoc (map view list) (view x ∷ []) (map of_byte others ++ ending)
    ∙ (ap (λ v. map view list ++ (v ∷ (map of_byte others ++ ending))) same
    ∙ (ap (λ r. map view list ++ (map of_byte r ++ ending)) (sym is) ∙ inv))))

-- the end is added
pub views_end : {A B : Type 0} (view : A → B) (of_byte : ℕ → B) (ending : B) (rest : List ℕ) (list new : List A) (x : A) (whole : List B)
    → rest ≡ [] → map view list ++ (map of_byte rest ++ ending ∷ []) ≡ whole → new ≡ list ++ x ∷ [] → view x ≡ ending → map view new ≡ whole
views_end view of_byte ending rest list new x whole none inv added same =
    ap (map view) added
    ∙ (map-append view list (x ∷ [])
    ∙ (ap (λ v. map view list ++ v ∷ []) same
    ∙ (ap (λ r. map view list ++ (map of_byte r ++ ending ∷ [])) (sym none) ∙ inv)))
