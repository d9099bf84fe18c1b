use Rattle.std.proofs.Common.{true, sym, subst}
use Rattle.nodes.specs.Words.{IsPrefixOf}
use Rattle.nodes.specs.Moments.{IsStoppedAt}
use Rattle.nodes.specs.Desk.{DeskView}
use Rattle.nodes.proofs.PrefixLemmas.{prefix_trans}
use Rattle.nodes.proofs.MomentLemmas.{stopped_stays}
use Rattle.nodes.proofs.DeskLemmas.{not_stopped}
use Rattle.nodes.proofs.node_threads.Cluster.stop.Goals as goal

pub returns-in_err-handled-clause-stopped : goal.returns-in_err-handled-clause-stopped
returns-in_err-handled-clause-stopped g c was = absurd (not_stopped c.self.inside.front c.is_stopped.new.front c.in_ok-is_stopped.field-0 c.is_stopped.ensures.seen c.if-branch.false c.in_ok-is_stopped.ensures.stopped (subst (λ (v : DeskView). IsStoppedAt v.seen true) (sym c.self.view_is) was))

pub returns-then-not-join_threads-clause-seen : goal.returns-then-not-join_threads-clause-seen
returns-then-not-join_threads-clause-seen g c =
    prefix_trans c.args.self.now.seen c.is_stopped.new.front c.join_threads.new.self.seen (subst (λ (v : DeskView). IsPrefixOf v.seen c.is_stopped.new.front) c.self.view_is c.is_stopped.ensures.seen) c.join_threads.ensures.seen

pub returns-then-not-look-clause-seen : goal.returns-then-not-look-clause-seen
returns-then-not-look-clause-seen g c =
    prefix_trans c.args.self.now.seen c.is_stopped.new.front c.look.new.front (subst (λ (v : DeskView). IsPrefixOf v.seen c.is_stopped.new.front) c.self.view_is c.is_stopped.ensures.seen)
    (prefix_trans c.is_stopped.new.front c.join_threads.new.self.seen c.look.new.front c.join_threads.ensures.seen (subst (λ (v : DeskView). IsPrefixOf v.seen c.look.new.front) c.self-2.view_is c.look.ensures.seen))

pub returns-clause-seen : goal.returns-clause-seen
returns-clause-seen g c =
    prefix_trans c.args.self.now.seen c.is_stopped.new.front c.look.new.front (subst (λ (v : DeskView). IsPrefixOf v.seen c.is_stopped.new.front) c.self.view_is c.is_stopped.ensures.seen)
    (prefix_trans c.is_stopped.new.front c.join_threads.new.self.seen c.look.new.front c.join_threads.ensures.seen (subst (λ (v : DeskView). IsPrefixOf v.seen c.look.new.front) c.self-2.view_is c.look.ensures.seen))

pub returns-clause-ended : goal.returns-clause-ended
returns-clause-ended g c =
    stopped_stays c.join_threads.new.self.seen c.look.new.front (subst (λ (v : DeskView). IsPrefixOf v.seen c.look.new.front) c.self-2.view_is c.look.ensures.seen) (c.join_threads.ensures.stopped c.if-not-join_threads.false)

pub returns-clause-stopped : goal.returns-clause-stopped
returns-clause-stopped g c was = absurd (not_stopped c.self.inside.front c.is_stopped.new.front c.in_ok-is_stopped.field-0 c.is_stopped.ensures.seen c.if-branch.false c.in_ok-is_stopped.ensures.stopped (subst (λ (v : DeskView). IsStoppedAt v.seen true) (sym c.self.view_is) was))
