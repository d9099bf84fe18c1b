use Rattle.std.proofs.Common.{◌≡◌, [], ◌∷◌, ◌++◌, OnOk, subst, codes, ap, ◌∙◌}
use Rattle.mm_read.proofs.SpacedLemmas.{line-provable}
use Rattle.mm_read.proofs.export.push_provable.Goals as goal

pub returns-clause-line : goal.returns-clause-line
returns-clause-line c =
    subst (λ line. OnOk c.push_parts.result (c.push_parts.new.text.items ≡ c.args.text.now.items ++ line))
    (ap (λ l. l ++ (codes " $p " ++ (c.as_text.result.now ++ (codes " $=" ++ (c.gap_before.result.now ++ (c.args.proof.now ++ (codes " $." ++ 10 ∷ []))))))) c.as_bytes.ensures.bytes
    ∙ line-provable c.args.label.now c.args.expr.now _ _ c.args.proof.now c.requires c.as_text.ensures.text c.gap_before.ensures) c.push_parts.ensures.ok
