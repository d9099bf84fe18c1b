-- A restart that starts from a loaded record.
use Rattle.switch.proofs.Words.{◌≡◌, ℕ, List, length, Some, None, Ok, refl, ap, sym, subst, AllByRecursion, Packet, KeptPart, Node, StepResult, kept_of, Restart, StagedWork, steps, restarts, StagedEvent, NetView, IsStaged, IsReadyAt, IsOfEvent, HasResult, change_in, posts_of, step_of, with_loaded, with_record, Core, IsPost, reloaded}

-- a restart makes no change to the kept part
pub load_change : {V : Type 0} (j : ℕ) (work : StagedWork V) → IsOfEvent (Restart j) work → change_in work ≡ None
load_change j (steps made) kind = elim kind [ ]
load_change j (restarts posts loaded) kind = refl

-- a restart with a loaded record makes no change to the kept part
pub loaded_change : {V : Type 0} (j : ℕ) (work : StagedWork V) (kept : KeptPart V) → IsOfEvent (Restart j) work → change_in (with_loaded work kept) ≡ None
loaded_change j (steps made) kept kind = elim kind [ ]
loaded_change j (restarts posts loaded) kept kind = refl

-- loading a record leaves the posts
pub load_posts : {V : Type 0} (work : StagedWork V) (kept : KeptPart V) → posts_of (with_loaded work kept) ≡ posts_of work
load_posts (steps made) kept = refl
load_posts (restarts posts loaded) kept = refl

-- a restart that is ready at a node is ready with the kept part of that node loaded
load_ready : {V : Type 0} (j : ℕ) (c : Core V) (work : StagedWork V) (kept : KeptPart V) → IsOfEvent (Restart j) work → kept ≡ kept_of c.node → IsReadyAt c work → IsReadyAt c (with_loaded work kept)
load_ready j c (steps made) kept kind same h = elim kind [ ]
load_ready j c (restarts posts None) kept kind same h = (h, same)
load_ready j c (restarts posts (Some x)) kept kind same h = cc

-- the step is the same with the kept part of the node loaded
load_step : {V : Type 0} (j : ℕ) (n : Node V) (work : StagedWork V) (kept : KeptPart V) → IsOfEvent (Restart j) work → kept ≡ kept_of n → step_of work n ≡ step_of (with_loaded work kept) n
load_step j n (steps made) kept kind same = elim kind [ ]
load_step {V} j n (restarts posts None) kept kind same = ap (λ (x : KeptPart V). reloaded n x) (sym same)
load_step j n (restarts posts (Some x)) kept kind same = cc

-- a restart that is staged is staged with the kept part of its node loaded
pub loaded_staged : {V : Type 0} (size : V → ℕ) (net : NetView V) (d1 : StagedEvent V) (d : IsStaged size net d1) (j : ℕ) (kept : KeptPart V) → IsOfEvent (Restart j) d1.work → kept ≡ kept_of d.core.node → IsStaged size net (with_record d1 kept)
loaded_staged {V} size net d1 d j kept kind same = record {
  core = d.core;
  at = d.at;
  ready = load_ready j d.core d1.work kept kind same d.ready;
  has_result = subst (λ (s : StepResult V). HasResult size net.packets d1.at d.core.node d1.event (Ok s)) (load_step j d.core.node d1.work kept kind same) d.has_result;
  posts = subst (λ (ps : List (Packet V)). AllByRecursion (IsPost (length net.history.weights)) ps) (sym (load_posts d1.work kept)) d.posts;
}
