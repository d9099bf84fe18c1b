use Rattle.mm_read.proofs.Words.{◌≡◌, [], ◌∷◌, ◌++◌, OnOk, subst, codes, sym, spaced, words_of-one, line_of, with_proof}
use Rattle.mm_read.proofs.export.push_line_with_proof.Goals as goal

pub returns-in-Prove-clause-line : goal.returns-in-Prove-clause-line
returns-in-Prove-clause-line c =
    subst (λ s. OnOk c.push_provable.result (c.push_provable.new.text.items ≡ c.args.text.now.items ++ line_of (with_proof s (c.args.proof.now ∷ [])))) (sym c.in-Prove.is)
    (subst
    (λ words. OnOk c.push_provable.result (c.push_provable.new.text.items
    ≡ c.args.text.now.items ++ (spaced (c.in-Prove.label ∷ codes "$p" ∷ (c.in-Prove.expr ++ codes "$=" ∷ (words ++ codes "$." ∷ []))) ++ 10 ∷ [])))
    (words_of-one c.args.proof.now c.requires.word) c.push_provable.ensures.line)
