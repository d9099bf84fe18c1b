use Rattle.switch.proofs.Words.{List, ap, refl, ◌∙◌, History, count_shown, StoreState, views_of}
use Rattle.switch.proofs.StoresLemmas.{views_new}
use Rattle.switch.proofs.SwitchLemmas.{starts}
use Rattle.switch.proofs.CallLemmas.{view_is_same}
use Rattle.switch.proofs.switch.Switch.new.Goals as goal

pub invariant_of-result : goal.invariant_of-result
invariant_of-result g c =
    starts g.V.Value.bytes g.K.Keep.kept g.K.Keep.failures c.in_ok-net.net c.args.weights c.args.event_limit c.args.keeps.items c.in_ok-stores.stores.items c.in_ok-net.ensures.world c.in_ok-net.ensures.new
    (count_shown g.V.Value.bytes c.in_ok-net.net.history c.in_ok-net.net.history c.in_ok-net.net.cores c.in_ok-net.net.packets c.in_ok-net.ensures.world refl) c.requires.count c.requires.new c.in_ok-stores.ensures

pub returns-clause-new : goal.returns-clause-new
returns-clause-new g c =
    view_is_same _ _ _ _ _ _ _ _ _ _ (ap (λ (t : History g.row.V.Denot). t.weights) c.in_ok-net.ensures.new) (ap (λ (t : History g.row.V.Denot). t.event_limit) c.in_ok-net.ensures.new) (ap (λ (t : History g.row.V.Denot). t.begins) c.in_ok-net.ensures.new) (ap (λ (t : History g.row.V.Denot). t.events) c.in_ok-net.ensures.new)
    (ap (λ (stores : List (StoreState g.row.V.Denot)). views_of stores) c.in_ok-stores.ensures ∙ views_new g.K.Keep.kept g.K.Keep.failures c.args.keeps.items c.requires.new)
