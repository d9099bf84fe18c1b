use Rattle.net.proofs.HistoryLemmas.{resumed_new, new_parts-count}
use Rattle.net.proofs.net.Net.new.Goals as goal

pub resume-requires : goal.resume-requires
resume-requires g c = new_parts-count c.args.weights c.in_ok-records.records.items c.in_ok-records.ensures

pub returns-clause-new : goal.returns-clause-new
returns-clause-new g c = resumed_new c.args.weights c.args.event_limit _ c.resume.result c.resume.ensures.resumed c.in_ok-records.ensures
