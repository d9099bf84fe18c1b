use Rattle.frame.proofs.Words.{sym, ◌∙◌}
use Rattle.frame.proofs.PairListLemmas.{pushed-once}
use Rattle.frame.proofs.pair_buffer.add_number.Goals as goal

pub returns-clause-once : goal.returns-clause-once
returns-clause-once c = pushed-once c.push.result c.args.found.now c.push.new.self c.args.number (sym c.index_of.ensures.member ∙ (sym c.is_some.ensures ∙ c.if-is_some.false)) c.push.ensures.ok c.push.ensures.err
