use Rattle.switch.proofs.Words.{inl, inr}
use Rattle.switch.proofs.ReloadLemmas.{loaded_up}
use Rattle.switch.proofs.TieLemmas.{answers}
use Rattle.switch.proofs.switch.Switch.restart_unloaded.Goals as goal

pub returns-in_err-load_again : goal.returns-in_err-load_again
returns-in_err-load_again g c = inl (answers c.from_residual.result _ c.from_residual.ensures.1, c.in_err-load_again.ensures.failed)

pub restart_up-requires : goal.restart_up-requires
restart_up-requires g c = loaded_up g.V.Value.bytes _ _ _ c.in_ok-load_again.ensures.loaded

pub returns : goal.returns
returns g c = inr (c.load_again.new.self, c.in_ok-load_again.ensures.loaded, c.restart_up.ensures)
