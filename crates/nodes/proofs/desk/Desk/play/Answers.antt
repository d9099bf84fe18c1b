use Rattle.std.proofs.Common.{true, sym, subst}
use Rattle.nodes.specs.Words.{IsPrefixOf}
use Rattle.nodes.specs.Moments.{IsStoppedAt}
use Rattle.nodes.specs.Desk.{DeskView, IsPlayFault}
use Rattle.nodes.proofs.PrefixLemmas.{prefix_trans}
use Rattle.nodes.proofs.DeskLemmas.{handed, happens_before, not_stopped, play_fault}
use Rattle.nodes.proofs.desk.Desk.play.Goals as goal

pub returns-in_err-hints-clause-seen : goal.returns-in_err-hints-clause-seen
returns-in_err-hints-clause-seen g c = prefix_trans c.args.self.now.seen c.is_stopped.new.front c.play.new.front (subst (λ (v : DeskView). IsPrefixOf v.seen c.is_stopped.new.front) c.self.view_is c.is_stopped.ensures.seen) c.in_err-hints.ensures.seen

pub returns-in_err-hints-clause-refused : goal.returns-in_err-hints-clause-refused
returns-in_err-hints-clause-refused g c =
    handed (IsPlayFault c.args.self.now.seen c.play.new.front c.args.event) c.from_residual-in_err-hints.result c.in_err-hints.field-0.0 c.from_residual-in_err-hints.ensures.1
    (play_fault c.args.self.now.seen c.is_stopped.new.front c.play.new.front c.args.event c.in_err-hints.field-0.0 (subst (λ (v : DeskView). IsPrefixOf v.seen c.is_stopped.new.front) c.self.view_is c.is_stopped.ensures.seen) c.in_err-hints.ensures.refused)

pub returns-in_err-hints-clause-stopped : goal.returns-in_err-hints-clause-stopped
returns-in_err-hints-clause-stopped g c was = absurd (not_stopped c.self.inside.front c.is_stopped.new.front c.in_ok-is_stopped.field-0 c.is_stopped.ensures.seen c.if-branch.false c.in_ok-is_stopped.ensures.stopped (subst (λ (v : DeskView). IsStoppedAt v.seen true) (sym c.self.view_is) was))

pub returns-clause-seen : goal.returns-clause-seen
returns-clause-seen g c = prefix_trans c.args.self.now.seen c.is_stopped.new.front c.play.new.front (subst (λ (v : DeskView). IsPrefixOf v.seen c.is_stopped.new.front) c.self.view_is c.is_stopped.ensures.seen) c.in_ok-hints.ensures.seen

pub returns-clause-played : goal.returns-clause-played
returns-clause-played g c = happens_before c.args.self.now.seen c.is_stopped.new.front c.play.new.front c.args.event (subst (λ (v : DeskView). IsPrefixOf v.seen c.is_stopped.new.front) c.self.view_is c.is_stopped.ensures.seen) c.is_stopped.ensures.run c.in_ok-hints.ensures.played

pub returns-clause-stopped : goal.returns-clause-stopped
returns-clause-stopped g c was = absurd (not_stopped c.self.inside.front c.is_stopped.new.front c.in_ok-is_stopped.field-0 c.is_stopped.ensures.seen c.if-branch.false c.in_ok-is_stopped.ensures.stopped (subst (λ (v : DeskView). IsStoppedAt v.seen true) (sym c.self.view_is) was))
