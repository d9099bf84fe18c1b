use Rattle.frame.proofs.OneFrameLemmas.{recorded}
use Rattle.frame.proofs.one_frame.record_name.Goals as goal

pub returns : goal.returns
returns c = λ x. recorded c.args.used.now c.find_or_add.new.self x c.args.name.now c.in_ok-find_or_add.field-0 c.in_ok-find_or_add.ensures.name.1 c.in_ok-find_or_add.ensures.known c.in_ok-find_or_add.ensures.fresh
