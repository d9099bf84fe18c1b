-- Words with one space between two, written piece by piece.
use Rattle.mm_read.proofs.Words.{◌≡◌, ℕ, true, if◌then◌else◌, List, [], ◌∷◌, ◌++◌, codes, sym, ◌∙◌, ap, refl, append_assoc, Name, is_empty, spaced, words_of, spaced-words_of, are_symbols}

-- the text of joined lists is that of the first, a space, and that of the second
pub spaced-append : (w : Name) (ws : List Name) (v : Name) (vs : List Name) → spaced ((w ∷ ws) ++ v ∷ vs) ≡ spaced (w ∷ ws) ++ 32 ∷ spaced (v ∷ vs)
spaced-append w [] v vs = refl
spaced-append w (u ∷ ws) v vs =
    ap (λ r. w ++ 32 ∷ r) (spaced-append u ws v vs) ∙ sym (append_assoc w (32 ∷ spaced (u ∷ ws)) (32 ∷ spaced (v ∷ vs)))

-- the text of a word, symbols and other words
pub spaced-before : (k : Name) (ws : List Name) (v : Name) (vs : List Name) → are_symbols ws ≡ true → spaced (k ∷ (ws ++ v ∷ vs)) ≡ k ++ 32 ∷ (spaced ws ++ 32 ∷ spaced (v ∷ vs))
spaced-before k [] v vs h = cc
spaced-before k (w ∷ ws) v vs h = ap (λ r. k ++ 32 ∷ r) (spaced-append w ws v vs)

-- ---- the pieces of a line

-- the end of the line, after a word and a text
line_end : (k : Name) (text end : List ℕ) → (k ++ 32 ∷ (text ++ end)) ++ 10 ∷ [] ≡ k ++ 32 ∷ (text ++ (end ++ 10 ∷ []))
line_end k text end = append_assoc k (32 ∷ (text ++ end)) (10 ∷ []) ∙ ap (λ r. k ++ 32 ∷ r) (append_assoc text end (10 ∷ []))

-- the line of a `$c`, `$v` or `$d`
pub line-list : (k : Name) (ws : List Name) (text : List ℕ) → are_symbols ws ≡ true → text ≡ spaced ws
    → k ++ 32 ∷ (text ++ (codes " $." ++ 10 ∷ [])) ≡ spaced (k ∷ (ws ++ codes "$." ∷ [])) ++ 10 ∷ []
line-list k ws text h e =
    ap (λ t. k ++ 32 ∷ (t ++ (codes " $." ++ 10 ∷ []))) e ∙ sym (ap (λ r. r ++ 10 ∷ []) (spaced-before k ws (codes "$.") [] h) ∙ line_end k (spaced ws) (codes " $."))

-- the line of a `$e` or `$a`
pub line-labelled : (label k : Name) (ws : List Name) (text : List ℕ) → are_symbols ws ≡ true → text ≡ spaced ws
    → label ++ 32 ∷ (k ++ 32 ∷ (text ++ (codes " $." ++ 10 ∷ []))) ≡ spaced (label ∷ k ∷ (ws ++ codes "$." ∷ [])) ++ 10 ∷ []
line-labelled label k ws text h e =
    ap (λ r. label ++ 32 ∷ r) (line-list k ws text h e) ∙ sym (append_assoc label (32 ∷ spaced (k ∷ (ws ++ codes "$." ∷ []))) (10 ∷ []))

-- the line of a `$p` with an empty proof
pub line-unproved : (label : Name) (ws : List Name) (text : List ℕ) → are_symbols ws ≡ true → text ≡ spaced ws
    → label ++ (codes " $p " ++ (text ++ (codes " $= $." ++ 10 ∷ []))) ≡ spaced (label ∷ codes "$p" ∷ (ws ++ codes "$=" ∷ codes "$." ∷ [])) ++ 10 ∷ []
line-unproved label ws text h e =
    ap (λ t. label ++ (codes " $p " ++ (t ++ (codes " $= $." ++ 10 ∷ [])))) e
    ∙ (ap (λ r. label ++ 32 ∷ r) (sym (ap (λ r. r ++ 10 ∷ []) (spaced-before (codes "$p") ws (codes "$=") (codes "$." ∷ []) h) ∙ line_end (codes "$p") (spaced ws) (codes " $= $.")))
    ∙ sym (append_assoc label (32 ∷ spaced (codes "$p" ∷ (ws ++ codes "$=" ∷ codes "$." ∷ []))) (10 ∷ [])))

-- the line of a `$p` with a proof
pub line-proved : (label : Name) (ws : List Name) (text : List ℕ) (w : Name) (proof : List Name) → are_symbols ws ≡ true → text ≡ spaced ws
    → label ++ (codes " $p " ++ (text ++ (codes " $= " ++ (spaced (w ∷ proof) ++ (codes " $." ++ 10 ∷ [])))))
    ≡ spaced (label ∷ codes "$p" ∷ (ws ++ codes "$=" ∷ (w ∷ proof ++ codes "$." ∷ []))) ++ 10 ∷ []
line-proved label ws text w proof h e =
    ap (λ t. label ++ (codes " $p " ++ (t ++ (codes " $= " ++ (spaced (w ∷ proof) ++ (codes " $." ++ 10 ∷ [])))))) e
    ∙ (ap (λ r. label ++ 32 ∷ r) (sym inner) ∙ sym (append_assoc label (32 ∷ spaced (codes "$p" ∷ (ws ++ codes "$=" ∷ (w ∷ proof ++ codes "$." ∷ [])))) (10 ∷ [])))
  where
    -- the text of `$=`, the proof and `$.`
    tail : spaced (codes "$=" ∷ (w ∷ proof ++ codes "$." ∷ [])) ≡ codes "$= " ++ (spaced (w ∷ proof) ++ codes " $.")
    tail = ap (λ r. codes "$= " ++ r) (spaced-append w proof (codes "$.") [])

    inner : spaced (codes "$p" ∷ (ws ++ codes "$=" ∷ (w ∷ proof ++ codes "$." ∷ []))) ++ 10 ∷ []
        ≡ codes "$p" ++ 32 ∷ (spaced ws ++ (codes " $= " ++ (spaced (w ∷ proof) ++ (codes " $." ++ 10 ∷ []))))
    inner =
        ap (λ r. r ++ 10 ∷ []) (spaced-before (codes "$p") ws (codes "$=") (w ∷ proof ++ codes "$." ∷ []) h ∙ ap (λ r. codes "$p" ++ 32 ∷ (spaced ws ++ 32 ∷ r)) tail)
        ∙ (line_end (codes "$p") (spaced ws) (codes " $= " ++ (spaced (w ∷ proof) ++ codes " $."))
        ∙ ap (λ r. codes "$p " ++ (spaced ws ++ (codes " $= " ++ r))) (append_assoc (spaced (w ∷ proof)) (codes " $.") (10 ∷ [])))

-- the line of a `$p` by the text of its proof, with a space before it if it is not empty
pub line-provable : (label : Name) (ws : List Name) (text gap proof : List ℕ) → are_symbols ws ≡ true → text ≡ spaced ws
    → gap ≡ (if is_empty proof then [] else codes " ")
    → label ++ (codes " $p " ++ (text ++ (codes " $=" ++ (gap ++ (proof ++ (codes " $." ++ 10 ∷ []))))))
    ≡ spaced (label ∷ codes "$p" ∷ (ws ++ codes "$=" ∷ (words_of proof ++ codes "$." ∷ []))) ++ 10 ∷ []
line-provable label ws text gap [] h e g = ap (λ r. label ++ (codes " $p " ++ (text ++ (codes " $=" ++ (r ++ (codes " $." ++ 10 ∷ [])))))) g ∙ line-unproved label ws text h e
line-provable label ws text gap (b ∷ proof) h e g =
    ap (λ r. label ++ (codes " $p " ++ (text ++ (codes " $=" ++ (r ++ (b ∷ proof ++ (codes " $." ++ 10 ∷ []))))))) g ∙ by (words_of (b ∷ proof)) refl
  where
    by : (list : List Name) → words_of (b ∷ proof) ≡ list
        → label ++ (codes " $p " ++ (text ++ (codes " $= " ++ (b ∷ proof ++ (codes " $." ++ 10 ∷ [])))))
        ≡ spaced (label ∷ codes "$p" ∷ (ws ++ codes "$=" ∷ (words_of (b ∷ proof) ++ codes "$." ∷ []))) ++ 10 ∷ []
    by [] is_list = let none : [] ≡ b ∷ proof = sym (ap spaced is_list) ∙ spaced-words_of (b ∷ proof) in cc
    by (w ∷ list) is_list =
        ap (λ r. label ++ (codes " $p " ++ (text ++ (codes " $= " ++ (r ++ (codes " $." ++ 10 ∷ [])))))) (sym (spaced-words_of (b ∷ proof)) ∙ ap spaced is_list)
        ∙ (line-proved label ws text w list h e
        ∙ ap (λ r. spaced (label ∷ codes "$p" ∷ (ws ++ codes "$=" ∷ (r ++ codes "$." ∷ []))) ++ 10 ∷ []) (sym is_list))
