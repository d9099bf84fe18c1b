use Rattle.std.proofs.Common.{sym, ◌∙◌}
use Rattle.extract.proofs.SameLemmas.{among-here}
use Rattle.extract.proofs.label_search.is_among.Goals as goal

pub returns-then-equals_bytes : goal.returns-then-equals_bytes
returns-then-equals_bytes c =
    sym (among-here (λ label. label.now) c.args.labels.now c.args.label.now c.loop-other.other-index _ c.loop-other-test.true (sym c.equals_bytes.ensures ∙ c.if-equals_bytes.true))
