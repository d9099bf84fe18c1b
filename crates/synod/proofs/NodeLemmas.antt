-- The facts of NodeInvariant, in terms of a node as contracts see it.
use Rattle.synod.proofs.Words.{◌≡◌, ℕ, ◌^◌, ◌<◌, Bool, List, length, Result, Ok, Err, refl, subst, sym, ap, if◌then◌else◌, AllByRecursion, IfOk, AllocError, lt-ltb, Refusal, RoundsSpent, Memory, IsPost, to_others, Ask, Node, StepResult, kept_of, RecordView, Core, ProposerView, LearnerView, core_of, assembled, begin_result, begins, next_round, IsNode, PreservesInvariant, ReadyView, IsReadyFor}
use Rattle.synod.proofs.NodeInvariant.{KeepsOnOk, keeps_begun, keeps_reloaded}

-- if the assembled parts are a node, the core with these parts is one
pub node_of_parts : {V : Type 0} (me : ℕ) (weights : List ℕ) (r : RecordView V) (p : ProposerView V) (l : LearnerView V) (core : Core V) → core_of me weights r p l ≡ core → IsNode (assembled me weights r.kept p.state l.state) → IsNode core.node
node_of_parts {V} me weights r p l core is node = subst (λ (c : Core V). IsNode c.node) is node

-- a begin preserves the invariant, if the next round is not past the last one
pub begins_keeps : {V : Type 0} (n : Node V) → IsNode n → next_round n < 2 ^ 64 → PreservesInvariant (length n.weights) (begins n)
begins_keeps {V} n is low =
    let P : Result (StepResult V) Refusal → Type 0 = λ r. KeepsOnOk (length n.weights) r in
    let e : begin_result n ≡ Ok (begins n) = ap (λ (b : Bool). if b then Ok (begins n) else Err RoundsSpent) (lt-ltb (next_round n) (2 ^ 64) low) in
    subst P e (keeps_begun n is)

-- the posts of a step that preserves the invariant, as the step is made
pub posts_kept : {V : Type 0} (nodes : ℕ) (step made : StepResult V) → made ≡ step → PreservesInvariant nodes step → AllByRecursion (IsPost nodes) made.posts
posts_kept {V} nodes step made is preserves = subst (λ (s : StepResult V). AllByRecursion (IsPost nodes) s.posts) (sym is) preserves.posts

-- the posts of an answer that fails only if an allocation fails
pub memory_posts : {V : Type 0} (nodes : ℕ) (core : Core V) (step : StepResult V) (inner : Result (ReadyView V) AllocError) (answer : Result (ReadyView V) Refusal)
    → IfOk inner (IsReadyFor core step) → ((made : ReadyView V) → inner ≡ Ok made → answer ≡ Ok made) → ((failed : AllocError) → inner ≡ Err failed → answer ≡ Err Memory) → PreservesInvariant nodes step
    → IfOk answer (λ made. AllByRecursion (IsPost nodes) made.step.posts)
memory_posts {V} nodes core step (Ok made) answer is ok err preserves =
    let P : Result (ReadyView V) Refusal → Type 0 = λ r. IfOk r (λ made. AllByRecursion (IsPost nodes) made.step.posts) in
    subst P (sym (ok made refl)) (posts_kept nodes step made.step is.1 preserves)
memory_posts {V} nodes core step (Err failed) answer is ok err preserves =
    let P : Result (ReadyView V) Refusal → Type 0 = λ r. IfOk r (λ made. AllByRecursion (IsPost nodes) made.step.posts) in
    subst P (sym (err failed refl)) tt

-- the Asks to the others for the first entry are posts
pub asks_all : {V : Type 0} (n : Node V) → IsNode n → AllByRecursion (IsPost {V = V} (length n.weights)) (to_others n.me n.weights (Ask 0))
asks_all {V} n is = (keeps_reloaded n is (kept_of n) is.accepted).posts
