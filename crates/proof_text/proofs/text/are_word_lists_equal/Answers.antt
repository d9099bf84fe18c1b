use Rattle.std.proofs.Common.{rules, ◌≡◌, true, sym, ◌∙◌}
use Rattle.proof_text.proofs.TextLemmas.{same-words}
use Rattle.proof_text.proofs.text.are_word_lists_equal.Goals as goal

pub returns : goal.returns
returns c =
    let e : c.eq.result ≡ true → c.as_text.result.now ≡ c.as_text-2.result.now = search rules in
    λ same. same-words c.args.left.now c.args.right.now c.as_text.ensures.words c.as_text-2.ensures.words (sym c.as_text.ensures.text ∙ (e same ∙ c.as_text-2.ensures.text))
