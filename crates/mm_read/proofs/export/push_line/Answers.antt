use Rattle.mm_read.proofs.Words.{◌≡◌, [], ◌∷◌, ◌++◌, OnOk, subst, codes, sym, ap, ◌∙◌, spaced, words_of, line_of, words_of-spaced}
use Rattle.mm_read.proofs.export.push_line.Goals as goal

pub returns-in-Prove-clause-line : goal.returns-in-Prove-clause-line
returns-in-Prove-clause-line c =
    let proof : words_of c.as_text.result.now ≡ c.in-Prove.proof = ap words_of c.as_text.ensures.text ∙ words_of-spaced c.in-Prove.proof c.as_text.ensures.words in
    subst (λ s. OnOk c.push_provable.result (c.push_provable.new.text.items ≡ c.args.text.now.items ++ line_of s)) (sym c.in-Prove.is)
    (subst
    (λ words. OnOk c.push_provable.result (c.push_provable.new.text.items
    ≡ c.args.text.now.items ++ (spaced (c.in-Prove.label ∷ codes "$p" ∷ (c.in-Prove.expr ++ codes "$=" ∷ (words ++ codes "$." ∷ []))) ++ 10 ∷ [])))
    proof c.push_provable.ensures.line)
