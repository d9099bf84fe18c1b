use Rattle.std.proofs.Common.{◌≡◌, [], ◌∷◌, ◌++◌, OnOk, subst, codes, ap, ◌∙◌}
use Rattle.mm_read.proofs.SpacedLemmas.{line-labelled}
use Rattle.mm_read.proofs.export.push_labelled.Goals as goal

pub returns-clause-line : goal.returns-clause-line
returns-clause-line c =
    subst (λ line. OnOk c.push_parts.result (c.push_parts.new.text.items ≡ c.args.text.now.items ++ line))
    (ap (λ l. l ++ 32 ∷ (c.args.keyword.now ++ 32 ∷ (c.as_text.result.now ++ (codes " $." ++ 10 ∷ [])))) c.as_bytes.ensures.bytes
    ∙ line-labelled c.args.label.now c.args.keyword.now c.args.expr.now _ c.requires c.as_text.ensures.text) c.push_parts.ensures.ok
