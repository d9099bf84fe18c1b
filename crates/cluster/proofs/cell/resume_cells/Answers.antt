use Rattle.cluster.proofs.Words.{◌∙◌, Carried}
use Rattle.cluster.proofs.CellsLemmas.{count_resumed, new_belong}
use Rattle.cluster.proofs.cell.resume_cells.Goals as goal

pub returns-clause-belong : goal.returns-clause-belong
returns-clause-belong g c =
    new_belong c.args.work_limit c.args.weights c.in_ok-cells.cells.items c.in_ok-switch.switch c.in_ok-cells.ensures
    (count_resumed Carried g.K.Keep.kept g.K.Keep.failures c.args.keeps.items c.in_ok-switch.switch.begins c.in_ok-switch.switch.stores c.in_ok-switch.ensures.resumed.stores ∙ c.requires)
