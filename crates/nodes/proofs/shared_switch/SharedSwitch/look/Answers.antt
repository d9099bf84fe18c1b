use Rattle.std.proofs.Common.{subst}
use Rattle.nodes.specs.Moments.{IsSwitchAt}
use Rattle.nodes.specs.Shared.{SharedSwitchView}
use Rattle.nodes.proofs.SharedLemmas.{switch_looked}
use Rattle.nodes.proofs.shared_switch.SharedSwitch.look.Goals as goal

pub returns-clause-at : goal.returns-clause-at
returns-clause-at g c t =
    let s = c.look.ensures.same t in
    subst (λ (v : SharedSwitchView). IsSwitchAt c.look.new.front v.switch) c.self.view_is
    (switch_looked c.self.inside.switch c.self.inside.account c.self.invariant s.0 c.look.new.front c.look.ensures.account s.1)
