use Rattle.switch.proofs.Words.{arith}
use Rattle.switch.proofs.BelongsLemmas.{on_err}
use Rattle.switch.proofs.ReloadLemmas.{not_up, in_range, among_nodes, is_idle, failed_switch, failed_view, again_switch, again_view}
use Rattle.switch.proofs.switch.Switch.load_again.Goals as goal

pub index_mut-requires : goal.index_mut-requires
index_mut-requires g c = let low = in_range g.V.Value.bytes _ _ c.self.invariant _ c.self.view_is c.args.k c.requires in omega (arith, low, c.self.inside.stores.ok.0)

pub bring_up-requires : goal.bring_up-requires
bring_up-requires g c = not_up g.V.Value.bytes _ _ c.self.invariant _ c.self.view_is c.args.k c.requires c.index_mut.result.now c.index_mut.ensures.value

pub invariant_of-self : goal.invariant_of-self
invariant_of-self g c = failed_switch g.V.Value.bytes _ _ c.self.invariant _ c.self.view_is c.args.k c.requires c.index_mut.result.now c.index_mut.ensures.value c.bring_up.new.self c.in_err-_pending.ensures.failed

pub returns-in_err-_pending-clause-failed : goal.returns-in_err-_pending-clause-failed
returns-in_err-_pending-clause-failed g c = on_err c.from_residual.result (failed_view g.V.Value.bytes _ _ c.self.invariant _ c.self.view_is c.args.k c.requires c.index_mut.result.now c.index_mut.ensures.value c.bring_up.new.self c.in_err-_pending.ensures.failed)

pub begin_again-requires-clause-node : goal.begin_again-requires-clause-node
begin_again-requires-clause-node g c = among_nodes g.V.Value.bytes _ _ c.self.invariant _ c.self.view_is c.args.k c.requires

pub begin_again-requires-clause-idle : goal.begin_again-requires-clause-idle
begin_again-requires-clause-idle g c = is_idle g.V.Value.bytes _ _ c.self.invariant _ c.self.view_is c.args.k c.requires c.index_mut.result.now c.index_mut.ensures.value

pub invariant_of-self-2 : goal.invariant_of-self-2
invariant_of-self-2 g c = again_switch g.V.Value.bytes _ _ c.self.invariant _ c.self.view_is c.args.k c.requires c.index_mut.result.now c.index_mut.ensures.value c.bring_up.new.self c.in_ok-_pending.ensures.up c.in_ok-_pending.record.kept c.in_ok-_pending.ensures.loaded c.begin_again.new.self c.begin_again.ensures

pub returns-clause-loaded : goal.returns-clause-loaded
returns-clause-loaded g c = again_view g.V.Value.bytes _ _ c.self.invariant _ c.self.view_is c.args.k c.requires c.index_mut.result.now c.index_mut.ensures.value c.bring_up.new.self c.in_ok-_pending.ensures.up c.in_ok-_pending.record.kept c.in_ok-_pending.ensures.loaded c.begin_again.new.self c.begin_again.ensures
