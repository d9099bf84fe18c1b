use Rattle.cluster.proofs.Words.{length, ap, ◌∙◌, Carried, SwitchView}
use Rattle.cluster.proofs.CellsLemmas.{count_new_views, new_belong}
use Rattle.cluster.proofs.cell.cells.Goals as goal

pub returns-clause-belong : goal.returns-clause-belong
returns-clause-belong g c =
    new_belong c.args.work_limit c.args.weights c.in_ok-cells.cells.items c.in_ok-switch.switch c.in_ok-cells.ensures
    (ap (λ (s : SwitchView Carried). length s.stores) c.in_ok-switch.ensures.new ∙ count_new_views Carried g.K.Keep.failures c.args.keeps.items ∙ c.requires.count)
