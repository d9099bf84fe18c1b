use Rattle.std.proofs.Common.{◌∙◌, ap, is_some}
use Rattle.frame.proofs.OneFrameLemmas.{code-has}
use Rattle.frame.proofs.one_frame.has.Goals as goal

pub returns : goal.returns
returns c = c.is_some.ensures ∙ (ap is_some c.find.ensures.code ∙ code-has c.args.used.now c.args.name.now)
