use Rattle.std.proofs.Common.{◌≡◌, true, List, sym, ◌∙◌, subst}
use Rattle.nodes.specs.declared.moment.Moment.{Moment}
use Rattle.nodes.specs.Moments.{IsSwitchAt}
use Rattle.nodes.proofs.SharedLemmas.{switch_looked, goes_in, event_on, happened, was_refused}
use Rattle.nodes.proofs.shared_switch.SharedSwitch.play_event.Goals as goal

pub record_switch-requires-clause-goes_on : goal.record_switch-requires-clause-goes_on
record_switch-requires-clause-goes_on g c b =
    let s = c.look.ensures.same c.if-not-look.false in
    let at = switch_looked c.self.inside.switch c.self.inside.account c.self.invariant s.0 c.look.new.front c.look.ensures.account s.1 in
    goes_in c.self.inside.switch c.self.inside.account c.self.invariant c.play-answer.new.self
    (event_on c.look.new.front c.self.inside.switch c.play-answer.new.self c.args.event c.play-answer.result c.play-answer.ensures.plays c.look.ensures.run at) b

pub returns-clause-played : goal.returns-clause-played
returns-clause-played g c =
    let s = c.look.ensures.same c.if-not-look.false in
    let at = switch_looked c.self.inside.switch c.self.inside.account c.self.invariant s.0 c.look.new.front c.look.ensures.account s.1 in
    let b : c.record_switch.new.account.belongs ≡ true = sym c.record_switch.ensures.belongs ∙ c.if-not-record_switch.false in
    let now : IsSwitchAt c.record_switch.new.front c.play-answer.new.self = subst (λ (ms : List Moment). IsSwitchAt ms c.play-answer.new.self) (sym (c.record_switch.ensures.history b)) (c.record_switch.ensures.at b) in
    happened c.args.front.now c.look.new.front c.record_switch.new.front c.self.inside.switch c.play-answer.new.self c.args.event c.play-answer.result c.play-answer.ensures.plays
    c.look.ensures.seen c.record_switch.ensures.seen c.look.ensures.run at now

pub returns-clause-refused : goal.returns-clause-refused
returns-clause-refused g c =
    let s = c.look.ensures.same c.if-not-look.false in
    let at = switch_looked c.self.inside.switch c.self.inside.account c.self.invariant s.0 c.look.new.front c.look.ensures.account s.1 in
    was_refused c.args.front.now c.look.new.front c.record_switch.new.front c.self.inside.switch c.play-answer.new.self c.args.event c.play-answer.result c.play-answer.ensures.plays
    c.look.ensures.seen c.record_switch.ensures.seen at
