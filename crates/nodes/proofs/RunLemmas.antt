-- A history with one more moment is a history.
use Rattle.std.proofs.Common.{◌≡◌, ◌≢◌, ℕ, ◌+◌, ◌==◌, Bool, true, false, List, [], ◌∷◌, ◌++◌, Option, Some, slice_get, refl, ap, sym, ◌∙◌, subst, arith, inl, inr}
use Rattle.std.proofs.lemmas.Bool.Decides.{nat_tests}
use Rattle.std.specs.Prelude.{IsOk}
use Rattle.nodes.specs.Words.{Carried, Cell, SwitchView, carried_size, world_of, IsPrefixOf, UnloadedAreIdle}
use Rattle.nodes.specs.declared.moment.Moment.{Moment}
use Rattle.nodes.specs.declared.moment.Moment.TheVariants.{SwitchIs, CellIs, Ended}
use Rattle.nodes.specs.Moments.{lock_of, IsSwitchAt, IsCellAt}
use Rattle.nodes.specs.Runs.{GoesOnFrom, WasLearned, IsGoneOn, IsRun}
use Rattle.nodes.proofs.PrefixLemmas.{prefix_snoc}
use Rattle.nodes.proofs.MomentLemmas.{last-own, last-other}
use Rattle.nodes.proofs.GoesOnLemmas.{goes_self, goes_then}

pub same_switch : (s t : SwitchView Carried) → Some (SwitchIs s) ≡ Some (SwitchIs t) → s ≡ t
same_switch s t e = cc

pub same_cell : (c d : Cell) → Some (CellIs c) ≡ Some (CellIs d) → c ≡ d
same_cell c d e = cc

-- A moment that is not one of the switch.

module _ (history : List Moment) (m : Moment) (other : lock_of m ≢ 0) where
  switch_back : (s : SwitchView Carried) → IsSwitchAt (history ++ m ∷ []) s → IsSwitchAt history s
  switch_back s at = sym (last-other 0 history m other) ∙ at

  pub switch_still : (s : SwitchView Carried) → IsSwitchAt history s → IsSwitchAt (history ++ m ∷ []) s
  switch_still s at = last-other 0 history m other ∙ at

  pub learned_still : (k slot : ℕ) (entry : Option Carried) → WasLearned history k slot entry → WasLearned (history ++ m ∷ []) k slot entry
  learned_still k slot entry w = record { switch = w.switch; is_switch = switch_still w.switch w.is_switch; world = w.world; moment = w.moment; has = w.has }

  goes_still : IsRun history → (early : List Moment) (s : SwitchView Carried) → IsPrefixOf early (history ++ m ∷ []) → IsSwitchAt early s → IsGoneOn (history ++ m ∷ []) s
  goes_still run early s pre at = elim (prefix_snoc early history m pre) [
    | inl p ↦ (let g = run.goes_on early s p at in record { switch = g.switch; is_switch = switch_still g.switch g.is_switch; goes_on = g.goes_on })
    | inr all ↦ record { switch = s; is_switch = subst (λ (ms : List Moment). IsSwitchAt ms s) all at; goes_on = goes_self carried_size s }
  ]

  still_run : IsRun history → ((k : ℕ) (cell : Cell) → IsCellAt (history ++ m ∷ []) k cell → (slot : ℕ) (entry : Option Carried) → slice_get cell.entries slot ≡ Some entry → WasLearned history k slot entry) → IsRun (history ++ m ∷ [])
  still_run run learned = record {
    taken = λ s at. run.taken s (switch_back s at);
    idle = λ s at. run.idle s (switch_back s at);
    goes_on = goes_still run;
    learned = λ k cell at slot entry e. learned_still k slot entry (learned k cell at slot entry e);
  }

-- a cell
pub cell_run : (history : List Moment) (c : Cell) → IsRun history → ((slot : ℕ) (entry : Option Carried) → slice_get c.entries slot ≡ Some entry → WasLearned history c.node slot entry) → IsRun (history ++ CellIs c ∷ [])
cell_run history c run learned = still_run history (CellIs c) (omega arith) run (λ k cell at slot entry e. by_node k cell at (c.node == k) refl slot entry e) where
  by_node : (k : ℕ) (cell : Cell) → IsCellAt (history ++ CellIs c ∷ []) k cell → (t : Bool) → (c.node == k) ≡ t → (slot : ℕ) (entry : Option Carried) → slice_get cell.entries slot ≡ Some entry → WasLearned history k slot entry
  by_node k cell at true test slot entry e =
      let node : c.node ≡ k = grind (arith, nat_tests) in
      let same : c ≡ cell = same_cell c cell (sym (last-own (2 + k) history (CellIs c) (ap (λ (n : ℕ). 2 + n) node)) ∙ at) in
      subst (λ (j : ℕ). WasLearned history j slot entry) node (learned slot entry (subst (λ (d : Cell). slice_get d.entries slot ≡ Some entry) (sym same) e))
  by_node k cell at false test slot entry e =
      let apart : c.node ≢ k = grind (arith, nat_tests) in
      run.learned k cell (sym (last-other (2 + k) history (CellIs c) (λ is. apart (omega (arith, is)))) ∙ at) slot entry e

-- the stop
pub ended_run : (history : List Moment) → IsRun history → IsRun (history ++ Ended ∷ [])
ended_run history run = still_run history Ended (omega arith) run (λ k cell at slot entry e.
    run.learned k cell (sym (last-other (2 + k) history Ended (omega arith)) ∙ at) slot entry e)

-- A switch.

module _ (history : List Moment) (t : SwitchView Carried) (run : IsRun history) (goes : (s : SwitchView Carried) → IsSwitchAt history s → GoesOnFrom carried_size s t) where
  now : IsSwitchAt (history ++ SwitchIs t ∷ []) t
  now = last-own 0 history (SwitchIs t) refl

  is_now : (s : SwitchView Carried) → IsSwitchAt (history ++ SwitchIs t ∷ []) s → t ≡ s
  is_now s at = same_switch t s (sym now ∙ at)

  gone_on : (early : List Moment) (s : SwitchView Carried) → IsPrefixOf early (history ++ SwitchIs t ∷ []) → IsSwitchAt early s → IsGoneOn (history ++ SwitchIs t ∷ []) s
  gone_on early s pre at = elim (prefix_snoc early history (SwitchIs t) pre) [
    | inl p ↦ (let g = run.goes_on early s p at in record { switch = t; is_switch = now; goes_on = goes_then carried_size s g.switch t g.goes_on (goes g.switch g.is_switch) })
    | inr all ↦ record { switch = s; is_switch = subst (λ (ms : List Moment). IsSwitchAt ms s) all at; goes_on = goes_self carried_size s }
  ]

  learned_on : (k slot : ℕ) (entry : Option Carried) → WasLearned history k slot entry → WasLearned (history ++ SwitchIs t ∷ []) k slot entry
  learned_on k slot entry w =
      let m = (goes w.switch w.is_switch).moments w.world w.moment in
      record { switch = t; is_switch = now; world = m.world; moment = m.moment; has = ap (λ (es : List (Option Carried)). slice_get es slot) (m.logs k) ∙ w.has }

  pub switch_run : IsOk (world_of carried_size t) → UnloadedAreIdle carried_size t → IsRun (history ++ SwitchIs t ∷ [])
  switch_run ok none = record {
    taken = λ s at. subst (λ (u : SwitchView Carried). IsOk (world_of carried_size u)) (is_now s at) ok;
    idle = λ s at. subst (λ (u : SwitchView Carried). UnloadedAreIdle carried_size u) (is_now s at) none;
    goes_on = gone_on;
    learned = λ k cell at slot entry e. learned_on k slot entry
        (run.learned k cell (sym (last-other (2 + k) history (SwitchIs t) (omega arith)) ∙ at) slot entry e);
  }
