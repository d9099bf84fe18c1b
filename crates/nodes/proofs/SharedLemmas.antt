-- What lies under a lock, and what the history says of it.
use Rattle.std.proofs.Common.{◌≡◌, ℕ, zero, suc, ◌+◌, ◌<◌, ◌≤◌, nat_lt, Bool, true, false, List, [], ◌∷◌, ◌++◌, length, Option, Some, None, Result, Ok, Err, slice_get, refl, ap, sym, ◌∙◌, subst, arith, inl, inr}
use Rattle.std.proofs.lemmas.Bool.Decides.{nat_tests}
use Rattle.std.specs.Prelude.{◌⊎◌, IfErr, IsOk, OnOk}
use Rattle.net.specs.declared.event.Event.TheVariants.{Deliver}
use Rattle.net.specs.declared.fault.StepFault.TheVariants.{Apart, NoNode}
use Rattle.cluster.specs.Cell.{AddsEntry, TakesOver, new_cell, next_log_entry, work_limit_of}
use Rattle.nodes.specs.Words.{Carried, Cell, Event, StepFault, SwitchView, World, IsCell, IsMoment, IsPrefixOf, Plays, UnloadedAreIdle, carried_size, history_of, log, log_after, log_entry, world_of}
use Rattle.nodes.specs.declared.moment.Moment.{Moment}
use Rattle.nodes.specs.declared.moment.Moment.TheVariants.{SwitchIs, CellIs, Ended}
use Rattle.nodes.specs.Moments.{count_of, last_at, IsSwitchAt, IsCellAt, IsStoppedAt}
use Rattle.nodes.specs.Runs.{GoesOnFrom, IsRun, WasLearned}
use Rattle.nodes.specs.Account.{AccountView, MayRecord, Records}
use Rattle.nodes.specs.Shared.{AreSharedSenders, GoesOnIn, IsCellTied, IsNodeCell, IsSharedCell, IsSharedSwitch, TookOver}
use Rattle.nodes.specs.Desk.{Happens, IsRefusedIn, Stands}
use Rattle.switch.specs.Switch.{DeliversInTurn, DeliversTogether, EndsGroupAt, StoreView, with_group, with_group_of}
use Rattle.nodes.proofs.PrefixLemmas.{prefix_self, prefix_trans}
use Rattle.nodes.proofs.MomentLemmas.{last-none, last-own, last_stays, none_between}
use Rattle.nodes.proofs.GoesOnLemmas.{goes_same, goes_self, goes_store, goes_then, plays_on, then_ok}
use Rattle.nodes.proofs.RunLemmas.{cell_run, ended_run, same_switch, switch_run}

-- where no moments were recorded under the lock since, the last one is the same
still : (account : AccountView) (lock : ℕ) → account.lock ≡ lock → (late : List Moment) → IsPrefixOf account.history late → count_of account.lock late ≡ count_of account.lock account.history → last_at lock late ≡ last_at lock account.history
still account lock is late pre same = last_stays lock account.history late pre (subst (λ (l : ℕ). count_of l late ≡ count_of l account.history) is same)

-- The switch.

pub may_switch : (switch : SwitchView Carried) (account : AccountView) → account.lock ≡ 0 → (account.belongs ≡ true → GoesOnIn account.history switch) → IsOk (world_of carried_size switch) → UnloadedAreIdle carried_size switch
    → (seen : List Moment) → account.belongs ≡ true → MayRecord account seen (SwitchIs switch)
may_switch switch account lock goes ok none seen b history pre seen_pre run same =
    switch_run history switch run (λ s at. goes b s (sym (still account 0 lock history pre same) ∙ at)) ok none

pub switch_recorded : (old new : AccountView) (s t : List Moment) (switch : SwitchView Carried) → Records old new s t (SwitchIs switch) → IsSwitchAt new.history switch
switch_recorded old new s t switch r = ap (λ (ms : List Moment). last_at 0 ms) r.history ∙ last-own 0 r.before (SwitchIs switch) refl

pub none_goes : (account : AccountView) (switch : SwitchView Carried) → (account.belongs ≡ true → count_of 0 account.history ≡ 0) → account.belongs ≡ true → GoesOnIn account.history switch
none_goes account switch none b s at = let no : None ≡ Some (SwitchIs s) = sym (last-none 0 account.history (none b)) ∙ at in cc

module _ (old : SwitchView Carried) (account : AccountView) (shared : IsSharedSwitch old account) where
  pub switch_looked : account.belongs ≡ true → (late : List Moment) → IsPrefixOf account.history late → count_of account.lock late ≡ count_of account.lock account.history → IsSwitchAt late old
  switch_looked b late pre same = still account 0 shared.lock late pre same ∙ shared.tie b

  pub goes_in : (new : SwitchView Carried) → GoesOnFrom carried_size old new → account.belongs ≡ true → GoesOnIn account.history new
  goes_in new goes b s at = subst (λ (t : SwitchView Carried). GoesOnFrom carried_size t new) (same_switch old s (sym (shared.tie b) ∙ at)) goes

-- Deliveries, one by one and together, go on.

pub delivered_on : (old new : SwitchView Carried) (number : ℕ) (r : Result ℕ StepFault) → Plays carried_size old new (Deliver number) r → GoesOnFrom carried_size old new
delivered_on old new number r p = (plays_on carried_size old new (Deliver number) r p (λ k is. cc)).goes

in_turn_on : (k : ℕ) (old new : SwitchView Carried) (numbers : List ℕ) → DeliversInTurn carried_size k old new numbers → GoesOnFrom carried_size old new
in_turn_on k old new [] is = goes_same carried_size old new is
in_turn_on k old new (number ∷ numbers) h = goes_then carried_size old h.0 new (elim h.1 as (λ _. GoesOnFrom carried_size old h.0) [
  | inl p ↦ delivered_on old h.0 number p.0 p.1
  | inr left ↦ goes_same carried_size old h.0 left.0
]) (in_turn_on k h.0 new numbers h.2)

group_on : (old : SwitchView Carried) (k : ℕ) (in_group : Bool) (o : Option (StoreView Carried)) → GoesOnFrom carried_size old (with_group_of old k in_group o)
group_on old k in_group None = goes_self carried_size old
group_on old k in_group (Some view) = goes_store carried_size old (with_group_of old k in_group (Some view)) k (record view { in_group = in_group }) refl

ended_on : (old new : SwitchView Carried) (k : ℕ) (view : StoreView Carried) (is_committed : Bool) → EndsGroupAt old new k view is_committed → GoesOnFrom carried_size old new
ended_on old new k view true h = goes_store carried_size old new k _ h.1
ended_on old new k view false (inl h) = goes_store carried_size old new k _ h.1
ended_on old new k view false (inr h) = goes_store carried_size old new k _ h.1.rest

pub together_on : (k : ℕ) (old new : SwitchView Carried) (packets : List ℕ) (posted : ℕ) (is_committed : Bool) → DeliversTogether carried_size k old new packets posted is_committed → GoesOnFrom carried_size old new
together_on k old new packets posted is_committed d =
    goes_then carried_size old d.between new
    (goes_then carried_size old (with_group old k true) d.between (group_on old k true (slice_get old.stores k)) (in_turn_on k (with_group old k true) d.between packets d.delivers))
    (by_view (slice_get d.between.stores k) refl) where
      by_view : (o : Option (StoreView Carried)) → slice_get d.between.stores k ≡ o → GoesOnFrom carried_size d.between new
      by_view None none = goes_same carried_size d.between new (d.no_node none)
      by_view (Some view) at = ended_on d.between new k view is_committed (d.commits view at)

-- the switch goes on after an event
pub event_on : (mid : List Moment) (old new : SwitchView Carried) (e : Event Carried) (r : Result ℕ StepFault) → Plays carried_size old new e r → IsRun mid → IsSwitchAt mid old → GoesOnFrom carried_size old new
event_on mid old new e r plays run at = (plays_on carried_size old new e r plays (λ k is. run.idle old at)).goes

-- An event that is played, between the history that was seen then and the one afterwards.

module _ (first mid late : List Moment) (old new : SwitchView Carried) (e : Event Carried) (r : Result ℕ StepFault) (plays : Plays carried_size old new e r)
    (before : IsPrefixOf first mid) (after : IsPrefixOf mid late) (run : IsRun mid) (at : IsSwitchAt mid old) where
  stands_behind : (seen : SwitchView Carried) → IsSwitchAt first seen → Stands old.history new.history e → Stands seen.history new.history e
  stands_behind seen seen_at s =
      let g = run.goes_on first seen before seen_at in
      let same : g.switch ≡ old = same_switch g.switch old (sym g.is_switch ∙ at) in
      let more : IsPrefixOf seen.history old.history = subst (λ (t : SwitchView Carried). IsPrefixOf seen.history t.history) same g.goes_on.events in
      record { before = s.before; later = prefix_trans seen.history old.history s.before more s.later; is = s.is }

  pub happened : IsSwitchAt late new → OnOk r (Happens first late e)
  happened now = then_ok (Stands old.history new.history e) (Happens first late e) r
      (λ s. record {
        at = late;
        later = prefix_trans first mid late before after;
        earlier = prefix_self late;
        switch = new;
        is_switch = now;
        stands = λ seen seen_at. stands_behind seen seen_at s;
        last = record { before = s.before; later = (s.before, refl); is = s.is };
      })
      (plays_on carried_size old new e r plays (λ k is. run.idle old at)).stands

pub was_refused : (first mid late : List Moment) (old new : SwitchView Carried) (e : Event Carried) (r : Result ℕ StepFault) → Plays carried_size old new e r
    → IsPrefixOf first mid → IsPrefixOf mid late → IsSwitchAt mid old → IfErr r (λ fault. (fault ≡ Apart) ⊎ IsRefusedIn first late e fault)
was_refused first mid late old new e (Ok count) plays before after at = tt
was_refused first mid late old new e (Err fault) plays before after at = inr record { at = mid; later = before; earlier = after; switch = old; is_switch = at; left = new; plays = plays }

-- A cell.

module _ (old : Cell) (account : AccountView) (shared : IsSharedCell old account) where
  pub cell_looked : account.belongs ≡ true → (late : List Moment) → IsPrefixOf account.history late → count_of account.lock late ≡ count_of account.lock account.history → (k : ℕ) → old.node ≡ k → IsCell old → IsNodeCell late k old
  cell_looked b late pre same k node is = record {
    at = subst (λ (j : ℕ). IsCellAt late j old) node (still account (2 + old.node) (shared.tie b).lock late pre same ∙ (shared.tie b).at);
    node = node;
    is_cell = is;
  }

  pub may_cell : (new : Cell) → new.node ≡ old.node → (seen : List Moment)
      → ((history : List Moment) → IsPrefixOf seen history → IsRun history → (slot : ℕ) (entry : Option Carried) → slice_get new.entries slot ≡ Some entry → (slice_get old.entries slot ≡ Some entry) ⊎ WasLearned history old.node slot entry)
      → account.belongs ≡ true → MayRecord account seen (CellIs new)
  may_cell new node seen entries b history pre seen_pre run same =
      let since : IsCellAt history old.node old = still account (2 + old.node) (shared.tie b).lock history pre same ∙ (shared.tie b).at in
      cell_run history new run (λ slot entry e. subst (λ (j : ℕ). WasLearned history j slot entry) (sym node) (elim (entries history seen_pre run slot entry e) [
        | inl was ↦ run.learned old.node old since slot entry was
        | inr learned ↦ learned
      ]))

  -- the account has the lock of the cell
  pub own_lock : (new : Cell) → new.node ≡ old.node → account.belongs ≡ true → 2 + new.node ≡ account.lock
  own_lock new node b = ap (λ (j : ℕ). 2 + j) node ∙ sym (shared.tie b).lock

  pub cell_recorded : (new : Cell) (later : AccountView) (s t : List Moment) → new.node ≡ old.node → later.lock ≡ account.lock → (later.belongs ≡ true → Records account later s t (CellIs new)) → IsSharedCell new later
  cell_recorded new later s t node lock records = record {
    tie = λ b. record {
      lock = lock ∙ sym (own_lock new node (records b).belonged);
      at = ap (λ (ms : List Moment). last_at (2 + new.node) ms) (records b).history ∙ last-own (2 + new.node) (records b).before (CellIs new) refl;
    };
  }

-- a new cell
no_entry : (entries : List (Option Carried)) (slot : ℕ) (entry : Option Carried) → length entries ≡ 0 → slice_get entries slot ≡ Some entry → ⊥
no_entry [] slot entry none at = cc
no_entry (x ∷ xs) slot entry none at = omega (arith, none)

pub may_begin : (cell : Cell) (account : AccountView) (seen : List Moment) → length cell.entries ≡ 0 → MayRecord account seen (CellIs cell)
may_begin cell account seen none history pre seen_pre run same = cell_run history cell run (λ slot entry at. absurd (no_entry cell.entries slot entry none at))

pub cell_begun : (cell : Cell) (old later : AccountView) (s t : List Moment) → later.lock ≡ 2 + cell.node → Records old later s t (CellIs cell) → IsCellTied cell later
cell_begun cell old later s t lock r = record { lock = lock; at = ap (λ (ms : List Moment). last_at (2 + cell.node) ms) r.history ∙ last-own (2 + cell.node) r.before (CellIs cell) refl }

-- an entry that the log has now was learned
learned_now : (switch : SwitchView Carried) (k slot : ℕ) (entry : Option Carried) → log_entry (world_of carried_size switch) k slot ≡ Some entry
    → (w : World Carried) × IsMoment carried_size (history_of switch) w × (slice_get (log w k) slot ≡ Some entry)
learned_now switch k slot entry at = from (world_of carried_size switch) refl at where
  from : (r : Result (World Carried) StepFault) → world_of carried_size switch ≡ r → slice_get (log_after r k) slot ≡ Some entry → (w : World Carried) × IsMoment carried_size (history_of switch) w × (slice_get (log w k) slot ≡ Some entry)
  from (Ok w) is has = (w, record { early = switch.history; begins = prefix_self switch.history; is_after = is }, has)
  from (Err fault) is has = cc

pub took_learned : (switch : SwitchView Carried) (old new : Cell) (seen : List Moment) → IsSwitchAt seen switch → TookOver switch old new
    → (history : List Moment) → IsPrefixOf seen history → IsRun history → (slot : ℕ) (entry : Option Carried) → slice_get new.entries slot ≡ Some entry → (slice_get old.entries slot ≡ Some entry) ⊎ WasLearned history old.node slot entry
took_learned switch old new seen at took history pre run slot entry e = elim (took.entries slot entry e) as (λ _. (slice_get old.entries slot ≡ Some entry) ⊎ WasLearned history old.node slot entry) [
  | inl was ↦ inl was
  | inr now ↦ (
      let l = learned_now switch old.node slot entry now in
      let g = run.goes_on seen switch pre at in
      let m = g.goes_on.moments l.0 l.1 in
      inr record { switch = g.switch; is_switch = g.is_switch; world = m.world; moment = m.moment; has = ap (λ (es : List (Option Carried)). slice_get es slot) (m.logs old.node) ∙ l.2 })
]

-- the entries of the cell, if they are the same, and if it was emptied
pub same_entries : (old new : Cell) → new.entries ≡ old.entries
    → (history : List Moment) (slot : ℕ) (entry : Option Carried) → slice_get new.entries slot ≡ Some entry → (slice_get old.entries slot ≡ Some entry) ⊎ WasLearned history old.node slot entry
same_entries old new same history slot entry e = inl (subst (λ (es : List (Option Carried)). slice_get es slot ≡ Some entry) same e)

pub restarted_entries : (old new : Cell) → (new ≡ old) ⊎ (new ≡ new_cell (work_limit_of old) old.node)
    → (history : List Moment) (slot : ℕ) (entry : Option Carried) → slice_get new.entries slot ≡ Some entry → (slice_get old.entries slot ≡ Some entry) ⊎ WasLearned history old.node slot entry
restarted_entries old new (inl same) history slot entry e = same_entries old new (ap (λ (c : Cell). c.entries) same) history slot entry e
restarted_entries old new (inr fresh) history slot entry e =
    let no : None ≡ Some entry = sym (ap (λ (c : Cell). slice_get c.entries slot) fresh) ∙ e in cc

pub restarted_node : (old new : Cell) → (new ≡ old) ⊎ (new ≡ new_cell (work_limit_of old) old.node) → new.node ≡ old.node
restarted_node old new (inl same) = ap (λ (c : Cell). c.node) same
restarted_node old new (inr fresh) = ap (λ (c : Cell). c.node) fresh

-- a cell that is looked at before and after a moment is as the history says at it
pub cell_between : (k : ℕ) (cell : Cell) (count : ℕ) (early mid late : List Moment) → IsNodeCell early k cell → IsPrefixOf early mid → IsPrefixOf mid late → count_of (2 + k) early ≡ count → count_of (2 + k) late ≡ count → IsNodeCell mid k cell
cell_between k cell count early mid late is p q first last = record {
  at = last_stays (2 + k) early mid p (none_between (2 + k) early mid late p q (last ∙ sym first)) ∙ is.at;
  node = is.node;
  is_cell = is.is_cell;
}

-- The senders.

pub may_end : (account : AccountView) (seen : List Moment) → MayRecord account seen Ended
may_end account seen history pre seen_pre run same = ended_run history run

pub ended_recorded : (old new : AccountView) (s t : List Moment) → Records old new s t Ended → IsStoppedAt new.history true
ended_recorded old new s t r = ap (λ (ms : List Moment). last_at 1 ms) r.history ∙ last-own 1 r.before Ended refl

pub stopped_looked : (is_stopped : Bool) (account : AccountView) → AreSharedSenders is_stopped account → account.belongs ≡ true → (late : List Moment) → IsPrefixOf account.history late → count_of account.lock late ≡ count_of account.lock account.history → IsStoppedAt late is_stopped
stopped_looked is_stopped account shared b late pre same = still account 1 shared.lock late pre same ∙ shared.tie b

-- Entries that are taken over in turn.

pub took_self : (switch : SwitchView Carried) (cell : Cell) → TookOver switch cell cell
took_self switch cell = record { node = refl; entries = λ slot entry e. inl e }

pub took_then : (switch : SwitchView Carried) (old mid new : Cell) → TookOver switch old mid → TookOver switch mid new → TookOver switch old new
took_then switch old mid new a b = record {
  node = b.node ∙ a.node;
  entries = λ slot entry e. elim (b.entries slot entry e) as (λ _. (slice_get old.entries slot ≡ Some entry) ⊎ (log_entry (world_of carried_size switch) old.node slot ≡ Some entry)) [
    | inl was ↦ a.entries slot entry was
    | inr now ↦ inr (subst (λ (k : ℕ). log_entry (world_of carried_size switch) k slot ≡ Some entry) a.node now)
  ];
}

-- what stands in a list with one more element stood in it, or is that element
snoc_get : (xs : List (Option Carried)) (y : Option Carried) (slot : ℕ) (x : Option Carried) → slice_get (xs ++ y ∷ []) slot ≡ Some x
    → (slice_get xs slot ≡ Some x) ⊎ ((slot ≡ length xs) × (x ≡ y))
snoc_get [] y zero x e = inr (refl, cc (e))
snoc_get [] y (suc slot) x e = absurd (let no : None ≡ Some x = e in cc)
snoc_get (z ∷ xs) y zero x e = inl e
snoc_get (z ∷ xs) y (suc slot) x e =
    elim (snoc_get xs y slot x e) as (λ _. (slice_get (z ∷ xs) (suc slot) ≡ Some x) ⊎ ((suc slot ≡ length (z ∷ xs)) × (x ≡ y))) [ inl h ↦ inl h | inr h ↦ inr (ap suc h.0, h.1) ]

same_taken : (switch : SwitchView Carried) (old new : Cell) → new ≡ old → TookOver switch old new
same_taken switch old new is = subst (λ (c : Cell). TookOver switch old c) (sym is) (took_self switch old)

kept_on : (switch : SwitchView Carried) (old new : Cell) → new.entries ≡ old.entries → new ≡ record old { entries = new.entries } → TookOver switch old new
kept_on switch old new same rest = record { node = ap (λ (c : Cell). c.node) rest; entries = λ slot entry e. inl (subst (λ (es : List (Option Carried)). slice_get es slot ≡ Some entry) same e) }

taken_on : (switch : SwitchView Carried) (old new : Cell) (next : Option (Option Carried)) (r : Result Bool StepFault) → log_entry (world_of carried_size switch) old.node (length old.entries) ≡ next
    → AddsEntry old.entries new.entries next r → new ≡ record old { entries = new.entries } → TookOver switch old new
taken_on switch old new (Some entry) (Ok true) at adds rest = record {
  node = ap (λ (c : Cell). c.node) rest;
  entries = λ slot e stands. elim (snoc_get old.entries entry slot e (subst (λ (es : List (Option Carried)). slice_get es slot ≡ Some e) adds stands)) as (λ _. (slice_get old.entries slot ≡ Some e) ⊎ (log_entry (world_of carried_size switch) old.node slot ≡ Some e)) [
    | inl was ↦ inl was
    | inr last ↦ inr (ap (λ (i : ℕ). log_entry (world_of carried_size switch) old.node i) last.0 ∙ at ∙ ap (λ (x : Option Carried). let o : Option (Option Carried) = Some x in o) (sym last.1))
  ];
}
taken_on switch old new (Some entry) (Ok false) at adds rest = absurd adds
taken_on switch old new (Some entry) (Err fault) at adds rest = kept_on switch old new adds.1 rest
taken_on switch old new None (Ok true) at adds rest = absurd adds
taken_on switch old new None (Ok false) at adds rest = kept_on switch old new adds rest
taken_on switch old new None (Err fault) at adds rest = absurd adds

-- the step of `take_on`
pub took_next : (switch : SwitchView Carried) (old new : Cell) (r : Result Bool StepFault) → (length switch.stores ≤ old.node → (r ≡ Err NoNode) × (new ≡ old))
    → (old.node < length switch.stores → TakesOver old new (next_log_entry switch old) r) → TookOver switch old new
took_next switch old new r no_node takes = by_test (nat_lt old.node (length switch.stores)) refl where
  by_test : (t : Bool) → nat_lt old.node (length switch.stores) ≡ t → TookOver switch old new
  by_test true test = let h = takes (grind (arith, nat_tests)) in taken_on switch old new (next_log_entry switch old) r refl h.adds h.rest
  by_test false test = same_taken switch old new (no_node (grind (arith, nat_tests))).1
