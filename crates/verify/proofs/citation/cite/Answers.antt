use Rattle.verify.proofs.Words.{IfOk-weaker}
use Rattle.subst.proofs.PastLemmas.{err_weaker}
use Rattle.verify.proofs.ItemCountLemmas.{fit-entry, past-entry}
use Rattle.verify.proofs.citation.cite.Goals as goal

pub cite_by_view-requires-clause-cited : goal.cite_by_view-requires-clause-cited
cite_by_view-requires-clause-cited c = c.in_ok-cited.ensures

pub returns-clause-counted : goal.returns-clause-counted
returns-clause-counted c =
    IfOk-weaker c.cite_by_view.result _ _
    (λ ok fit. fit-entry c.args.context.now c.args.buffers.now.results c.cite_by_view.new.results c.args.meter.now c.cite_by_view.new.meter c.args.position c.size.result c.add.new.self ok c.in_ok-add.ensures.counted c.size.ensures fit)
    c.cite_by_view.ensures.counted

pub returns-clause-costly : goal.returns-clause-costly
returns-clause-costly c =
    err_weaker c.cite_by_view.result _ _
    (λ stop costly is. past-entry c.args.context.now c.args.buffers.now.results c.args.buffers.now.results c.args.meter.now c.args.meter.now c.args.position c.size.result c.add.new.self c.in_ok-add.ensures.counted c.size.ensures (costly is))
    c.cite_by_view.ensures.costly
