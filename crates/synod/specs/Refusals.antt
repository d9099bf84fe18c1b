-- The result of a call: its step, its refusal, or Memory in place of a step.
-- Source: this project's choice. The refusal is the one that the event meets, even if every
-- allocation fails.
-- The code stages a step, and then commits it.
use Rattle.std.specs.Prelude.{◌≡◌, Result, Ok, Err, Vec}
use Rattle.synod.specs.Words.{Global, Packet, Refusal, Memory}
use Rattle.synod.specs.Node.{Node, StepResult}

-- the node takes the step, and the call returns its posts; or the node is unchanged, and the call
-- returns the refusal that the event meets, or Memory if it meets none
abbrev pub IsCallResult : {V : Type 0} → Node V → Node V → Result (StepResult V) Refusal → Result (Vec (Packet V) Global) Refusal → Type 0
IsCallResult old new (Ok step) (Ok posts) = (new ≡ step.node) × (posts.items ≡ step.posts)
IsCallResult old new (Ok step) (Err refusal) = (refusal ≡ Memory) × (new ≡ old)
IsCallResult old new (Err met) (Err refusal) = (refusal ≡ met) × (new ≡ old)
IsCallResult old new (Err met) (Ok posts) = ⊥
