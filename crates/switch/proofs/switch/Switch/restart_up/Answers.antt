use Rattle.switch.proofs.Words.{Option, None, refl, ap, sym, subst, ◌∙◌, arith, Change, changed_by, Restart, StagedEvent, IsStaged, IsTaken, with_record, StoreState}
use Rattle.switch.proofs.SwitchLemmas.{still_switch}
use Rattle.switch.proofs.CallLemmas.{still_view, ready_fails}
use Rattle.switch.proofs.DispatchLemmas.{in_stores, kept_is, call_failed, call_played}
use Rattle.switch.proofs.LoadLemmas.{load_change, loaded_change, loaded_staged}
use Rattle.switch.proofs.TieLemmas.{answers, up_err}
use Rattle.switch.proofs.switch.Switch.restart_up.Goals as goal

pub invariant_of-self : goal.invariant_of-self
invariant_of-self g c = still_switch g.V.Value.bytes _ _ c.self.invariant c.stage.new.self c.stage.ensures.only_capacity

pub returns-in_err-staged : goal.returns-in_err-staged
returns-in_err-staged g c =
    up_err g.V.Value.bytes _ _ _ _ (answers c.from_residual.result c.in_err-staged.field-0.0 c.from_residual.ensures.1) (Restart c.args.k) (ready_fails g.V.Value.bytes _ _ c.self.invariant _ c.self.view_is (Restart c.args.k) c.in_err-staged.field-0.0 c.stage.result c.in_err-staged.was _ (still_view _ _ c.self.inside.stores.items c.stage.ensures.only_capacity) c.stage.ensures.refused c.stage.ensures.only_memory)

pub index_mut-requires : goal.index_mut-requires
index_mut-requires g c =
    let low = in_stores g.V.Value.bytes _ _ c.stage.ensures.only_capacity c.self.inside.stores.items c.self.invariant _ c.self.view_is c.in_ok-staged.staged c.in_ok-staged.ensures.staged c.at-at.result c.at-at.ensures in
    omega (arith, low, c.self.inside.stores.ok.0)

pub invariant_of-self-in_err-record : goal.invariant_of-self-in_err-record
invariant_of-self-in_err-record g c = (call_failed g.V.Value.bytes _ _ c.stage.ensures.only_capacity c.self.inside.stores.items c.self.invariant _ c.self.view_is c.in_ok-staged.staged c.in_ok-staged.ensures.staged c.at-at.result c.at-at.ensures (Restart c.args.k) c.in_ok-staged.ensures.event c.in_ok-staged.ensures.few c.index_mut.result.now c.index_mut.ensures.value (λ x d. c.requires)
    None None (sym (load_change c.args.k c.in_ok-staged.staged.work c.in_ok-staged.ensures.kind)) refl refl tt c.load.new.self c.in_err-record.ensures.failed).0

pub returns-in_err-record : goal.returns-in_err-record
returns-in_err-record g c = up_err g.V.Value.bytes _ _ _ _ (answers c.from_residual-in_err-record.result _ c.from_residual-in_err-record.ensures.1) (Restart c.args.k) (call_failed g.V.Value.bytes _ _ c.stage.ensures.only_capacity c.self.inside.stores.items c.self.invariant _ c.self.view_is c.in_ok-staged.staged c.in_ok-staged.ensures.staged c.at-at.result c.at-at.ensures (Restart c.args.k) c.in_ok-staged.ensures.event c.in_ok-staged.ensures.few c.index_mut.result.now c.index_mut.ensures.value (λ x d. c.requires)
    None None (sym (load_change c.args.k c.in_ok-staged.staged.work c.in_ok-staged.ensures.kind)) refl refl tt c.load.new.self c.in_err-record.ensures.failed).1

pub commit-requires-clause-staged : goal.commit-requires-clause-staged
commit-requires-clause-staged g c =
    let staged : IsStaged g.V.Value.bytes c.stage.new.self (with_record c.in_ok-staged.staged c.in_ok-record.record.kept) = loaded_staged g.V.Value.bytes _ c.in_ok-staged.staged c.in_ok-staged.ensures.staged c.args.k c.in_ok-record.record.kept c.in_ok-staged.ensures.kind (c.in_ok-record.ensures.loaded ∙ kept_is g.V.Value.bytes _ _ c.stage.ensures.only_capacity c.self.inside.stores.items c.self.invariant _ c.self.view_is c.in_ok-staged.staged c.in_ok-staged.ensures.staged c.at-at.result c.at-at.ensures (Restart c.args.k) c.in_ok-staged.ensures.event c.in_ok-staged.ensures.few c.index_mut.result.now c.index_mut.ensures.value (λ x d. c.requires)) in
    subst (λ (x : StagedEvent g.row.V.Denot). IsStaged g.V.Value.bytes c.stage.new.self x) (sym c.load-2.ensures) staged

pub invariant_of-self-2 : goal.invariant_of-self-2
invariant_of-self-2 g c =
    (let staged : IsStaged g.V.Value.bytes c.stage.new.self (with_record c.in_ok-staged.staged c.in_ok-record.record.kept) = loaded_staged g.V.Value.bytes _ c.in_ok-staged.staged c.in_ok-staged.ensures.staged c.args.k c.in_ok-record.record.kept c.in_ok-staged.ensures.kind (c.in_ok-record.ensures.loaded ∙ kept_is g.V.Value.bytes _ _ c.stage.ensures.only_capacity c.self.inside.stores.items c.self.invariant _ c.self.view_is c.in_ok-staged.staged c.in_ok-staged.ensures.staged c.at-at.result c.at-at.ensures (Restart c.args.k) c.in_ok-staged.ensures.event c.in_ok-staged.ensures.few c.index_mut.result.now c.index_mut.ensures.value (λ x d. c.requires)) in
    let store = c.index_mut.result.now in
    let stored = c.in_ok-record.ensures.same ∙ ap (λ (x : Option (Change g.row.V.Denot)). let s : StoreState g.row.V.Denot = record store { kept = changed_by store.kept x } in s) (sym (loaded_change c.args.k c.in_ok-staged.staged.work c.in_ok-record.record.kept c.in_ok-staged.ensures.kind)) in
    call_played g.V.Value.bytes _ _ c.stage.ensures.only_capacity c.self.inside.stores.items c.self.invariant _ c.self.view_is (with_record c.in_ok-staged.staged c.in_ok-record.record.kept) staged c.at-at.result c.at-at.ensures (Restart c.args.k) c.in_ok-staged.ensures.event c.in_ok-staged.ensures.few c.index_mut.result.now c.index_mut.ensures.value (λ x d. c.requires)
    c.load.new.self stored c.commit.new.self (subst (λ (x : StagedEvent g.row.V.Denot). IsTaken c.stage.new.self c.commit.new.self x) c.load-2.ensures c.commit.ensures.taken) c.commit.result c.commit.ensures.posted).0

pub returns : goal.returns
returns g c =
    (let staged : IsStaged g.V.Value.bytes c.stage.new.self (with_record c.in_ok-staged.staged c.in_ok-record.record.kept) = loaded_staged g.V.Value.bytes _ c.in_ok-staged.staged c.in_ok-staged.ensures.staged c.args.k c.in_ok-record.record.kept c.in_ok-staged.ensures.kind (c.in_ok-record.ensures.loaded ∙ kept_is g.V.Value.bytes _ _ c.stage.ensures.only_capacity c.self.inside.stores.items c.self.invariant _ c.self.view_is c.in_ok-staged.staged c.in_ok-staged.ensures.staged c.at-at.result c.at-at.ensures (Restart c.args.k) c.in_ok-staged.ensures.event c.in_ok-staged.ensures.few c.index_mut.result.now c.index_mut.ensures.value (λ x d. c.requires)) in
    let store = c.index_mut.result.now in
    let stored = c.in_ok-record.ensures.same ∙ ap (λ (x : Option (Change g.row.V.Denot)). let s : StoreState g.row.V.Denot = record store { kept = changed_by store.kept x } in s) (sym (loaded_change c.args.k c.in_ok-staged.staged.work c.in_ok-record.record.kept c.in_ok-staged.ensures.kind)) in
    call_played g.V.Value.bytes _ _ c.stage.ensures.only_capacity c.self.inside.stores.items c.self.invariant _ c.self.view_is (with_record c.in_ok-staged.staged c.in_ok-record.record.kept) staged c.at-at.result c.at-at.ensures (Restart c.args.k) c.in_ok-staged.ensures.event c.in_ok-staged.ensures.few c.index_mut.result.now c.index_mut.ensures.value (λ x d. c.requires)
    c.load.new.self stored c.commit.new.self (subst (λ (x : StagedEvent g.row.V.Denot). IsTaken c.stage.new.self c.commit.new.self x) c.load-2.ensures c.commit.ensures.taken) c.commit.result c.commit.ensures.posted).1
