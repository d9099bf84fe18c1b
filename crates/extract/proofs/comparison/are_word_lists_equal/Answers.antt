use Rattle.std.proofs.Common.{rules, ◌≡◌, true, sym, ◌∙◌}
use Rattle.extract.proofs.SameLemmas.{same-words}
use Rattle.extract.proofs.comparison.are_word_lists_equal.Goals as goal

pub returns : goal.returns
returns c =
    let e : c.eq.result ≡ true → c.as_text.result.now ≡ c.as_text-2.result.now = search rules in
    λ yes. same-words c.args.left.now c.args.right.now c.as_text.ensures.words c.as_text-2.ensures.words (sym c.as_text.ensures.text ∙ (e yes ∙ c.as_text-2.ensures.text))
