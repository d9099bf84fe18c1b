-- Words wrapped into lines, one after another.
use Rattle.proof_pages.proofs.BlockWords.{◌≡◌, ℕ, List, [], ◌∷◌, ◌++◌, map, sym, ◌∙◌, ap, append_assoc, append-nil, Span, Name, runs, word, runs_after, separator, column_after, wrapped_from, wrapped}

-- the text written so far followed by the rest of the words, wrapped, is the whole
abbrev pub IsWrapped : List ℕ → ℕ → ℕ → List ℕ → List ℕ → Type 0
IsWrapped text at column old lines = lines ++ wrapped_from column (map (word text) (runs_after text at)) ≡ old ++ wrapped (map (word text) (runs text))

-- one more word is written
pub wrapped_on : (text : List ℕ) (at column next : ℕ) (run : Span) (w : Name) (old lines spaced new : List ℕ) → IsWrapped text at column old lines
    → runs_after text at ≡ run ∷ runs_after text run.end → w ≡ word text run → spaced ≡ lines ++ separator column w → new ≡ spaced ++ w → next ≡ column_after column w
    → IsWrapped text run.end next old new
wrapped_on text at column next run w old lines spaced new is runs_are same separated added step =
    let rest : List Name = map (word text) (runs_after text run.end) in
    let here : map (word text) (runs_after text at) ≡ w ∷ rest = ap (map (word text)) runs_are ∙ ap (λ v. v ∷ rest) (sym same) in
    let whole : new ≡ (lines ++ separator column w) ++ w = added ∙ ap (λ l. l ++ w) separated in
    let later : new ++ wrapped_from next rest ≡ ((lines ++ separator column w) ++ w) ++ wrapped_from (column_after column w) rest
    = ap (λ l. l ++ wrapped_from next rest) whole ∙ ap (λ k. ((lines ++ separator column w) ++ w) ++ wrapped_from k rest) step in
    let joined : ((lines ++ separator column w) ++ w) ++ wrapped_from (column_after column w) rest ≡ lines ++ wrapped_from column (w ∷ rest)
    = ap (λ l. l ++ wrapped_from (column_after column w) rest) (append_assoc lines (separator column w) w) ∙ append_assoc lines (separator column w ++ w) (wrapped_from (column_after column w) rest) in
    later ∙ (joined ∙ (ap (λ ws. lines ++ wrapped_from column ws) (sym here) ∙ is))

-- the end of the last line
pub wrapped_end : (text : List ℕ) (at column : ℕ) (old lines new : List ℕ) → IsWrapped text at column old lines → runs_after text at ≡ []
    → new ≡ lines ++ wrapped_from column [] → new ≡ old ++ wrapped (map (word text) (runs text))
wrapped_end text at column old lines new is none e = e ∙ (ap (λ r. lines ++ wrapped_from column (map (word text) r)) (sym none) ∙ is)
