use Rattle.switch.proofs.Words.{◌≡◌, ◌+◌, ℕ, List, length, ap, refl, sym, subst, ◌∙◌, arith, Event, Packet, StagedEvent, HasSpareCapacity, IsStaged, IsTaken, posts_of, StoreState, pending_of, pending_posts, staged_still, still_more}
use Rattle.switch.proofs.StoresLemmas.{same_at}
use Rattle.switch.proofs.SwitchLemmas.{still_switch}
use Rattle.switch.proofs.CallLemmas.{still_view}
use Rattle.switch.proofs.DispatchLemmas.{in_stores, none_owed}
use Rattle.switch.proofs.OwedLemmas.{room_still}
use Rattle.switch.proofs.RecoveryLemmas.{not_up, no_memory, stays_down, stays_acts, can_commit_owed, low_m, staged_m, room_m, recovered, recovered_acts}
use Rattle.switch.proofs.RecoveryRefused.{recover_spent, recover_unready}
use Rattle.switch.proofs.TieLemmas.{answers, answers_memory, down_err}
use Rattle.switch.proofs.switch.Switch.restart_down.Goals as goal

pub returns-then-is_unloaded-clause-effect : goal.returns-then-is_unloaded-clause-effect
returns-then-is_unloaded-clause-effect g c = none_owed g.V.Value.bytes c.args.self.now _ c.args.k _ (sym c.is_unloaded.ensures ∙ c.if-is_unloaded.true)

pub restart_unloaded-requires : goal.restart_unloaded-requires
restart_unloaded-requires g c = sym c.is_unloaded.ensures ∙ c.if-is_unloaded.true

pub returns-then-left-lt2-clause-effect : goal.returns-then-left-lt2-clause-effect
returns-then-left-lt2-clause-effect g c = recover_spent g.V.Value.bytes _ _ c.self.invariant _ c.self.view_is c.args.k (omega (arith, c.if-left-lt2.true, c.event_limit.ensures, c.history.ensures.few, ap (λ (es : List (Event g.row.V.Denot)). length es) c.history.ensures.events))

pub invariant_of-self : goal.invariant_of-self
invariant_of-self g c = (still_switch g.V.Value.bytes _ _ c.self.invariant c.stage.new.self c.stage.ensures.only_capacity)

pub returns-in_err-staged-clause-effect : goal.returns-in_err-staged-clause-effect
returns-in_err-staged-clause-effect g c =
    down_err g.V.Value.bytes _ _ _ _ (answers c.from_residual.result c.in_err-staged.field-0.0 c.from_residual.ensures.1) c.args.k
    (recover_unready g.V.Value.bytes _ _ c.self.invariant _ c.self.view_is c.args.k c.requires (omega (arith, c.if-left-lt2.false, c.event_limit.ensures, c.history.ensures.few, ap (λ (es : List (Event g.row.V.Denot)). length es) c.history.ensures.events)) c.in_err-staged.field-0.0 c.stage.result c.in_err-staged.was _ (still_view _ _ c.self.inside.stores.items c.stage.ensures.only_capacity) c.stage.ensures.only_memory)

pub index-requires : goal.index-requires
index-requires g c =
    let low = (in_stores g.V.Value.bytes _ _ c.stage.ensures.only_capacity c.self.inside.stores.items c.self.invariant _ c.self.view_is c.in_ok-staged.staged c.in_ok-staged.ensures.staged c.at-at.result c.at-at.ensures) in
    omega (arith, low, c.self.inside.stores.ok.0)

pub invariant_of-self-in_default : goal.invariant_of-self-in_default
invariant_of-self-in_default g c = (still_switch g.V.Value.bytes _ _ c.self.invariant c.stage.new.self c.stage.ensures.only_capacity)

pub returns-in_default-clause-effect : goal.returns-in_default-clause-effect
returns-in_default-clause-effect g c =
    no_memory g.V.Value.bytes c.stage.new.self c.self.inside.stores.items (still_switch g.V.Value.bytes _ _ c.self.invariant c.stage.new.self c.stage.ensures.only_capacity) _ (still_view _ _ c.self.inside.stores.items c.stage.ensures.only_capacity ∙ c.self.view_is) c.in_ok-staged.staged c.in_ok-staged.ensures.staged c.args.k c.in_ok-staged.ensures.event c.in_ok-staged.ensures.kind c.at-at.result c.at-at.ensures c.index.result.now c.index.ensures (in_stores g.V.Value.bytes _ _ c.stage.ensures.only_capacity c.self.inside.stores.items c.self.invariant _ c.self.view_is c.in_ok-staged.staged c.in_ok-staged.ensures.staged c.at-at.result c.at-at.ensures) c.requires (sym c.is_unloaded.ensures ∙ c.if-is_unloaded.false) (room_still _ _ c.stage.ensures.only_capacity (omega (arith, ap (λ (es : List (Event g.row.V.Denot)). length es) c.history.ensures.events, c.if-left-lt2.false, c.event_limit.ensures, c.history.ensures.few))) _ refl

pub invariant_of-self-in_err-reserve : goal.invariant_of-self-in_err-reserve
invariant_of-self-in_err-reserve g c = (still_switch g.V.Value.bytes _ _ c.self.invariant c.reserve.new.self (still_more _ _ _ c.stage.ensures.only_capacity c.reserve.ensures.only_capacity))

pub returns-in_err-reserve-clause-effect : goal.returns-in_err-reserve-clause-effect
returns-in_err-reserve-clause-effect g c =
    down_err g.V.Value.bytes _ _ _ _ (answers_memory c.from_residual-in_err-reserve.result c.in_err-reserve.field-0.0 c.from_residual-in_err-reserve.ensures.1 c.in_err-reserve.ensures.only_memory) c.args.k
    (no_memory g.V.Value.bytes c.reserve.new.self c.self.inside.stores.items (still_switch g.V.Value.bytes _ _ c.self.invariant c.reserve.new.self (still_more _ _ _ c.stage.ensures.only_capacity c.reserve.ensures.only_capacity)) _ (still_view _ _ c.self.inside.stores.items (still_more _ _ _ c.stage.ensures.only_capacity c.reserve.ensures.only_capacity) ∙ c.self.view_is) c.in_ok-staged.staged (staged_still g.V.Value.bytes _ _ c.in_ok-staged.staged c.reserve.ensures.only_capacity c.in_ok-staged.ensures.staged) c.args.k c.in_ok-staged.ensures.event c.in_ok-staged.ensures.kind c.at-at.result c.at-at.ensures c.index.result.now c.index.ensures (in_stores g.V.Value.bytes _ _ c.stage.ensures.only_capacity c.self.inside.stores.items c.self.invariant _ c.self.view_is c.in_ok-staged.staged c.in_ok-staged.ensures.staged c.at-at.result c.at-at.ensures) c.requires (sym c.is_unloaded.ensures ∙ c.if-is_unloaded.false) (room_still _ _ c.reserve.ensures.only_capacity (room_still _ _ c.stage.ensures.only_capacity (omega (arith, ap (λ (es : List (Event g.row.V.Denot)). length es) c.history.ensures.events, c.if-left-lt2.false, c.event_limit.ensures, c.history.ensures.few)))) _ refl)

pub index_mut-requires : goal.index_mut-requires
index_mut-requires g c =
    let low = (in_stores g.V.Value.bytes _ _ c.stage.ensures.only_capacity c.self.inside.stores.items c.self.invariant _ c.self.view_is c.in_ok-staged.staged c.in_ok-staged.ensures.staged c.at-at.result c.at-at.ensures) in
    omega (arith, low, c.self.inside.stores.ok.0)

pub bring_up-requires : goal.bring_up-requires
bring_up-requires g c =
    not_up g.V.Value.bytes c.reserve.new.self c.self.inside.stores.items (still_switch g.V.Value.bytes _ _ c.self.invariant c.reserve.new.self (still_more _ _ _ c.stage.ensures.only_capacity c.reserve.ensures.only_capacity)) _ (still_view _ _ c.self.inside.stores.items (still_more _ _ _ c.stage.ensures.only_capacity c.reserve.ensures.only_capacity) ∙ c.self.view_is) c.in_ok-staged.staged (staged_still g.V.Value.bytes _ _ c.in_ok-staged.staged c.reserve.ensures.only_capacity c.in_ok-staged.ensures.staged) c.args.k c.in_ok-staged.ensures.event c.in_ok-staged.ensures.kind c.at-at.result c.at-at.ensures c.index_mut.result.now c.index_mut.ensures.value (in_stores g.V.Value.bytes _ _ c.stage.ensures.only_capacity c.self.inside.stores.items c.self.invariant _ c.self.view_is c.in_ok-staged.staged c.in_ok-staged.ensures.staged c.at-at.result c.at-at.ensures) c.requires (sym c.is_unloaded.ensures ∙ c.if-is_unloaded.false) (room_still _ _ c.reserve.ensures.only_capacity (room_still _ _ c.stage.ensures.only_capacity (omega (arith, ap (λ (es : List (Event g.row.V.Denot)). length es) c.history.ensures.events, c.if-left-lt2.false, c.event_limit.ensures, c.history.ensures.few))))

pub invariant_of-self-in_err-pending : goal.invariant_of-self-in_err-pending
invariant_of-self-in_err-pending g c =
    stays_down g.V.Value.bytes c.reserve.new.self c.self.inside.stores.items (still_switch g.V.Value.bytes _ _ c.self.invariant c.reserve.new.self (still_more _ _ _ c.stage.ensures.only_capacity c.reserve.ensures.only_capacity)) _ (still_view _ _ c.self.inside.stores.items (still_more _ _ _ c.stage.ensures.only_capacity c.reserve.ensures.only_capacity) ∙ c.self.view_is) c.in_ok-staged.staged (staged_still g.V.Value.bytes _ _ c.in_ok-staged.staged c.reserve.ensures.only_capacity c.in_ok-staged.ensures.staged) c.args.k c.in_ok-staged.ensures.event c.in_ok-staged.ensures.kind c.at-at.result c.at-at.ensures c.index_mut.result.now c.index_mut.ensures.value (in_stores g.V.Value.bytes _ _ c.stage.ensures.only_capacity c.self.inside.stores.items c.self.invariant _ c.self.view_is c.in_ok-staged.staged c.in_ok-staged.ensures.staged c.at-at.result c.at-at.ensures) c.requires (sym c.is_unloaded.ensures ∙ c.if-is_unloaded.false) (room_still _ _ c.reserve.ensures.only_capacity (room_still _ _ c.stage.ensures.only_capacity (omega (arith, ap (λ (es : List (Event g.row.V.Denot)). length es) c.history.ensures.events, c.if-left-lt2.false, c.event_limit.ensures, c.history.ensures.few)))) c.bring_up.new.self c.in_err-pending.ensures.failed

pub returns-in_err-pending-clause-effect : goal.returns-in_err-pending-clause-effect
returns-in_err-pending-clause-effect g c =
    down_err g.V.Value.bytes _ _ _ _ (answers c.from_residual-in_err-pending.result _ c.from_residual-in_err-pending.ensures.1) c.args.k
    (stays_acts g.V.Value.bytes c.reserve.new.self c.self.inside.stores.items (still_switch g.V.Value.bytes _ _ c.self.invariant c.reserve.new.self (still_more _ _ _ c.stage.ensures.only_capacity c.reserve.ensures.only_capacity)) _ (still_view _ _ c.self.inside.stores.items (still_more _ _ _ c.stage.ensures.only_capacity c.reserve.ensures.only_capacity) ∙ c.self.view_is) c.in_ok-staged.staged (staged_still g.V.Value.bytes _ _ c.in_ok-staged.staged c.reserve.ensures.only_capacity c.in_ok-staged.ensures.staged) c.args.k c.in_ok-staged.ensures.event c.in_ok-staged.ensures.kind c.at-at.result c.at-at.ensures c.index_mut.result.now c.index_mut.ensures.value (in_stores g.V.Value.bytes _ _ c.stage.ensures.only_capacity c.self.inside.stores.items c.self.invariant _ c.self.view_is c.in_ok-staged.staged c.in_ok-staged.ensures.staged c.at-at.result c.at-at.ensures) c.requires (sym c.is_unloaded.ensures ∙ c.if-is_unloaded.false) (room_still _ _ c.reserve.ensures.only_capacity (room_still _ _ c.stage.ensures.only_capacity (omega (arith, ap (λ (es : List (Event g.row.V.Denot)). length es) c.history.ensures.events, c.if-left-lt2.false, c.event_limit.ensures, c.history.ensures.few)))) c.bring_up.new.self c.in_err-pending.ensures.failed)

pub commit_pending-requires : goal.commit_pending-requires
commit_pending-requires g c =
    let low = (in_stores g.V.Value.bytes _ _ c.stage.ensures.only_capacity c.self.inside.stores.items c.self.invariant _ c.self.view_is c.in_ok-staged.staged c.in_ok-staged.ensures.staged c.at-at.result c.at-at.ensures) in
    let same : c.index.result.now ≡ c.index_mut.result.now = same_at c.self.inside.stores.items c.at-at.result c.index.result.now c.index_mut.result.now low c.index.ensures c.index_mut.ensures.value in
    let count : c.count_pending_posts.result ≡ length (pending_posts (pending_of c.index_mut.result.now.status)) = c.count_pending_posts.ensures ∙ ap (λ (s : StoreState g.row.V.Denot). length (pending_posts (pending_of s.status))) same in
    let all : length c.posts.result.now ≡ length (posts_of c.in_ok-staged.staged.work) = ap (λ (ps : List (Packet g.row.V.Denot)). length ps) c.posts.ensures in
    let sum : c.in-Some.packets ≡ c.count_pending_posts.result + length c.posts.result.now = c.in-Some.ensures.1 in
    let room = subst (λ (i : ℕ). HasSpareCapacity c.reserve.new.self i 2) sum c.in_ok-reserve.ensures.capacity in
    can_commit_owed g.V.Value.bytes c.reserve.new.self c.self.inside.stores.items (still_switch g.V.Value.bytes _ _ c.self.invariant c.reserve.new.self (still_more _ _ _ c.stage.ensures.only_capacity c.reserve.ensures.only_capacity)) _ (still_view _ _ c.self.inside.stores.items (still_more _ _ _ c.stage.ensures.only_capacity c.reserve.ensures.only_capacity) ∙ c.self.view_is) c.in_ok-staged.staged (staged_still g.V.Value.bytes _ _ c.in_ok-staged.staged c.reserve.ensures.only_capacity c.in_ok-staged.ensures.staged) c.args.k c.in_ok-staged.ensures.event c.in_ok-staged.ensures.kind c.at-at.result c.at-at.ensures c.index_mut.result.now c.index_mut.ensures.value (in_stores g.V.Value.bytes _ _ c.stage.ensures.only_capacity c.self.inside.stores.items c.self.invariant _ c.self.view_is c.in_ok-staged.staged c.in_ok-staged.ensures.staged c.at-at.result c.at-at.ensures) c.requires (sym c.is_unloaded.ensures ∙ c.if-is_unloaded.false) (room_still _ _ c.reserve.ensures.only_capacity (room_still _ _ c.stage.ensures.only_capacity (omega (arith, ap (λ (es : List (Event g.row.V.Denot)). length es) c.history.ensures.events, c.if-left-lt2.false, c.event_limit.ensures, c.history.ensures.few)))) c.in_ok-pending.pending c.in_ok-pending.ensures.pending _ _ count room

pub commit-requires-clause-staged : goal.commit-requires-clause-staged
commit-requires-clause-staged g c =
    subst (λ (x : StagedEvent g.row.V.Denot). IsStaged g.V.Value.bytes c.commit_pending.new.net x) (sym c.load.ensures) (staged_m g.V.Value.bytes c.reserve.new.self c.self.inside.stores.items (still_switch g.V.Value.bytes _ _ c.self.invariant c.reserve.new.self (still_more _ _ _ c.stage.ensures.only_capacity c.reserve.ensures.only_capacity)) _ (still_view _ _ c.self.inside.stores.items (still_more _ _ _ c.stage.ensures.only_capacity c.reserve.ensures.only_capacity) ∙ c.self.view_is) c.in_ok-staged.staged (staged_still g.V.Value.bytes _ _ c.in_ok-staged.staged c.reserve.ensures.only_capacity c.in_ok-staged.ensures.staged) c.args.k c.in_ok-staged.ensures.event c.in_ok-staged.ensures.kind c.at-at.result c.at-at.ensures c.index_mut.result.now c.index_mut.ensures.value (in_stores g.V.Value.bytes _ _ c.stage.ensures.only_capacity c.self.inside.stores.items c.self.invariant _ c.self.view_is c.in_ok-staged.staged c.in_ok-staged.ensures.staged c.at-at.result c.at-at.ensures) c.requires (sym c.is_unloaded.ensures ∙ c.if-is_unloaded.false) (room_still _ _ c.reserve.ensures.only_capacity (room_still _ _ c.stage.ensures.only_capacity (omega (arith, ap (λ (es : List (Event g.row.V.Denot)). length es) c.history.ensures.events, c.if-left-lt2.false, c.event_limit.ensures, c.history.ensures.few)))) c.bring_up.new.self c.in_ok-pending.ensures.up c.commit_pending.new.net c.in_ok-pending.pending c.in_ok-pending.ensures.pending c.commit_pending.ensures c.in_ok-pending.record.kept c.in_ok-pending.ensures.loaded)

pub commit-requires-clause-capacity : goal.commit-requires-clause-capacity
commit-requires-clause-capacity g c =
    let low = (in_stores g.V.Value.bytes _ _ c.stage.ensures.only_capacity c.self.inside.stores.items c.self.invariant _ c.self.view_is c.in_ok-staged.staged c.in_ok-staged.ensures.staged c.at-at.result c.at-at.ensures) in
    let same : c.index.result.now ≡ c.index_mut.result.now = same_at c.self.inside.stores.items c.at-at.result c.index.result.now c.index_mut.result.now low c.index.ensures c.index_mut.ensures.value in
    let count : c.count_pending_posts.result ≡ length (pending_posts (pending_of c.index_mut.result.now.status)) = c.count_pending_posts.ensures ∙ ap (λ (s : StoreState g.row.V.Denot). length (pending_posts (pending_of s.status))) same in
    let all : length c.posts.result.now ≡ length (posts_of c.in_ok-staged.staged.work) = ap (λ (ps : List (Packet g.row.V.Denot)). length ps) c.posts.ensures in
    let sum : c.in-Some.packets ≡ c.count_pending_posts.result + length c.posts.result.now = c.in-Some.ensures.1 in
    let room = subst (λ (i : ℕ). HasSpareCapacity c.reserve.new.self i 2) sum c.in_ok-reserve.ensures.capacity in
    subst (λ (x : StagedEvent g.row.V.Denot). HasSpareCapacity c.commit_pending.new.net (length (posts_of x.work)) 1) (sym c.load.ensures) (room_m g.V.Value.bytes c.reserve.new.self c.self.inside.stores.items (still_switch g.V.Value.bytes _ _ c.self.invariant c.reserve.new.self (still_more _ _ _ c.stage.ensures.only_capacity c.reserve.ensures.only_capacity)) _ (still_view _ _ c.self.inside.stores.items (still_more _ _ _ c.stage.ensures.only_capacity c.reserve.ensures.only_capacity) ∙ c.self.view_is) c.in_ok-staged.staged (staged_still g.V.Value.bytes _ _ c.in_ok-staged.staged c.reserve.ensures.only_capacity c.in_ok-staged.ensures.staged) c.args.k c.in_ok-staged.ensures.event c.in_ok-staged.ensures.kind c.at-at.result c.at-at.ensures c.index_mut.result.now c.index_mut.ensures.value (in_stores g.V.Value.bytes _ _ c.stage.ensures.only_capacity c.self.inside.stores.items c.self.invariant _ c.self.view_is c.in_ok-staged.staged c.in_ok-staged.ensures.staged c.at-at.result c.at-at.ensures) c.requires (sym c.is_unloaded.ensures ∙ c.if-is_unloaded.false) (room_still _ _ c.reserve.ensures.only_capacity (room_still _ _ c.stage.ensures.only_capacity (omega (arith, ap (λ (es : List (Event g.row.V.Denot)). length es) c.history.ensures.events, c.if-left-lt2.false, c.event_limit.ensures, c.history.ensures.few)))) c.bring_up.new.self c.in_ok-pending.ensures.up c.commit_pending.new.net c.in_ok-pending.pending c.in_ok-pending.ensures.pending c.commit_pending.ensures c.in_ok-pending.record.kept c.in_ok-pending.ensures.loaded _ _ count all room)

pub commit-requires-clause-few : goal.commit-requires-clause-few
commit-requires-clause-few g c =
    low_m g.V.Value.bytes c.reserve.new.self c.self.inside.stores.items (still_switch g.V.Value.bytes _ _ c.self.invariant c.reserve.new.self (still_more _ _ _ c.stage.ensures.only_capacity c.reserve.ensures.only_capacity)) _ (still_view _ _ c.self.inside.stores.items (still_more _ _ _ c.stage.ensures.only_capacity c.reserve.ensures.only_capacity) ∙ c.self.view_is) c.in_ok-staged.staged (staged_still g.V.Value.bytes _ _ c.in_ok-staged.staged c.reserve.ensures.only_capacity c.in_ok-staged.ensures.staged) c.args.k c.in_ok-staged.ensures.event c.in_ok-staged.ensures.kind c.at-at.result c.at-at.ensures c.index_mut.result.now c.index_mut.ensures.value (in_stores g.V.Value.bytes _ _ c.stage.ensures.only_capacity c.self.inside.stores.items c.self.invariant _ c.self.view_is c.in_ok-staged.staged c.in_ok-staged.ensures.staged c.at-at.result c.at-at.ensures) c.requires (sym c.is_unloaded.ensures ∙ c.if-is_unloaded.false) (room_still _ _ c.reserve.ensures.only_capacity (room_still _ _ c.stage.ensures.only_capacity (omega (arith, ap (λ (es : List (Event g.row.V.Denot)). length es) c.history.ensures.events, c.if-left-lt2.false, c.event_limit.ensures, c.history.ensures.few)))) c.bring_up.new.self c.in_ok-pending.ensures.up c.commit_pending.new.net c.in_ok-pending.pending c.in_ok-pending.ensures.pending c.commit_pending.ensures

pub invariant_of-self-2 : goal.invariant_of-self-2
invariant_of-self-2 g c =
    recovered g.V.Value.bytes c.reserve.new.self c.self.inside.stores.items (still_switch g.V.Value.bytes _ _ c.self.invariant c.reserve.new.self (still_more _ _ _ c.stage.ensures.only_capacity c.reserve.ensures.only_capacity)) _ (still_view _ _ c.self.inside.stores.items (still_more _ _ _ c.stage.ensures.only_capacity c.reserve.ensures.only_capacity) ∙ c.self.view_is) c.in_ok-staged.staged (staged_still g.V.Value.bytes _ _ c.in_ok-staged.staged c.reserve.ensures.only_capacity c.in_ok-staged.ensures.staged) c.args.k c.in_ok-staged.ensures.event c.in_ok-staged.ensures.kind c.at-at.result c.at-at.ensures c.index_mut.result.now c.index_mut.ensures.value (in_stores g.V.Value.bytes _ _ c.stage.ensures.only_capacity c.self.inside.stores.items c.self.invariant _ c.self.view_is c.in_ok-staged.staged c.in_ok-staged.ensures.staged c.at-at.result c.at-at.ensures) c.requires (sym c.is_unloaded.ensures ∙ c.if-is_unloaded.false) (room_still _ _ c.reserve.ensures.only_capacity (room_still _ _ c.stage.ensures.only_capacity (omega (arith, ap (λ (es : List (Event g.row.V.Denot)). length es) c.history.ensures.events, c.if-left-lt2.false, c.event_limit.ensures, c.history.ensures.few)))) c.bring_up.new.self c.in_ok-pending.ensures.up c.commit_pending.new.net c.in_ok-pending.pending c.in_ok-pending.ensures.pending c.commit_pending.ensures c.in_ok-pending.record.kept c.in_ok-pending.ensures.loaded c.commit.new.self (subst (λ (x : StagedEvent g.row.V.Denot). IsTaken c.commit_pending.new.net c.commit.new.self x) c.load.ensures c.commit.ensures.taken)

pub returns-clause-effect : goal.returns-clause-effect
returns-clause-effect g c =
    recovered_acts g.V.Value.bytes c.reserve.new.self c.self.inside.stores.items (still_switch g.V.Value.bytes _ _ c.self.invariant c.reserve.new.self (still_more _ _ _ c.stage.ensures.only_capacity c.reserve.ensures.only_capacity)) _ (still_view _ _ c.self.inside.stores.items (still_more _ _ _ c.stage.ensures.only_capacity c.reserve.ensures.only_capacity) ∙ c.self.view_is) c.in_ok-staged.staged (staged_still g.V.Value.bytes _ _ c.in_ok-staged.staged c.reserve.ensures.only_capacity c.in_ok-staged.ensures.staged) c.args.k c.in_ok-staged.ensures.event c.in_ok-staged.ensures.kind c.at-at.result c.at-at.ensures c.index_mut.result.now c.index_mut.ensures.value (in_stores g.V.Value.bytes _ _ c.stage.ensures.only_capacity c.self.inside.stores.items c.self.invariant _ c.self.view_is c.in_ok-staged.staged c.in_ok-staged.ensures.staged c.at-at.result c.at-at.ensures) c.requires (sym c.is_unloaded.ensures ∙ c.if-is_unloaded.false) (room_still _ _ c.reserve.ensures.only_capacity (room_still _ _ c.stage.ensures.only_capacity (omega (arith, ap (λ (es : List (Event g.row.V.Denot)). length es) c.history.ensures.events, c.if-left-lt2.false, c.event_limit.ensures, c.history.ensures.few)))) c.bring_up.new.self c.in_ok-pending.ensures.up c.commit_pending.new.net c.in_ok-pending.pending c.in_ok-pending.ensures.pending c.commit_pending.ensures c.in_ok-pending.record.kept c.in_ok-pending.ensures.loaded c.commit.new.self (subst (λ (x : StagedEvent g.row.V.Denot). IsTaken c.commit_pending.new.net c.commit.new.self x) c.load.ensures c.commit.ensures.taken) c.commit.result c.commit.ensures.posted
