-- The statements that mention a number, each with the mention that was active beneath it.
-- Metamath, 4.2.8: blocks nest, so all that was active beneath an active statement is still active.
-- The code walks from the last mention before a position down over those that are closed; all
-- beneath the first active one are active.
use Rattle.std.specs.Prelude.{◌≡◌, ℕ, zero, suc, ◌<◌, ◌≤◌, ◌==◌, Bool, nat_lt, nat_le, if◌then◌else◌, List, [], ◌∷◌, ◌++◌, length, take, filter, get_or, slice_get, Some}
use Rattle.std.specs.List.Sorted.{IsNonDecreasingBy}
use Rattle.entries.specs.declared.mentions.Mention.{Mention}

-- the positions from the mention n, counted from 1, down, given those from each mention
abbrev pub stack_after : ℕ → List (List ℕ) → List ℕ
stack_after zero done = []
stack_after (suc i) done = get_or done i []

-- the positions from a mention down, given those from each mention before it
abbrev pub stack_of : List (List ℕ) → Mention → List ℕ
stack_of done m = m.position ∷ stack_after m.beneath done

-- the positions from each mention down, after those of earlier mentions
abbrev pub stacks_after : List (List ℕ) → List Mention → List (List ℕ)
stacks_after done [] = []
stacks_after done (m ∷ ms) = stack_of done m ∷ stacks_after (done ++ stack_of done m ∷ []) ms

-- the positions from the last mention down: its own, and those that were active beneath it
abbrev pub positions_of : List Mention → List ℕ
positions_of ms = stack_after (length ms) (stacks_after [] ms)

-- each leads to one before it, and they are in the order of their positions
pub record AreMentions (ms : List Mention) : Type 0 where
  pub linked : (i : ℕ) (m : Mention) → slice_get ms i ≡ Some m → m.beneath ≤ i
  pub ordered : IsNonDecreasingBy (λ m. m.position) ms

-- m is the last mention
abbrev pub IsLast : List Mention → Mention → Type 0
IsLast ms m = (front : List Mention) × (ms ≡ front ++ m ∷ [])

-- the first ones, not all
abbrev pub IsFront : List Mention → List Mention → Type 0
IsFront old new = (n : ℕ) × (n < length old) × (new ≡ take n old)

-- no mention is after `at`
abbrev pub IsUntil : ℕ → List Mention → Type 0
IsUntil at [] = Unit {0}
IsUntil at (m ∷ ms) = (m.position ≤ at) × IsUntil at ms

-- the mentions before a position
abbrev pub before : ℕ → List Mention → List Mention
before at ms = filter (λ m. nat_lt m.position at) ms

-- the mentions at `last` or before
abbrev pub kept_until : ℕ → List Mention → List Mention
kept_until last ms = filter (λ m. nat_le m.position last) ms

-- the mentions of a number
abbrev pub mentions_of : List (List Mention) → ℕ → List Mention
mentions_of lists c = get_or lists c []

-- no mention of any number is after `at`
abbrev pub AreUntil : ℕ → List (List Mention) → Type 0
AreUntil at lists = (c : ℕ) → IsUntil at (mentions_of lists c)

-- the last mention is removed if it is after `last`; `removed` is whether it was
abbrev pub IsPoppedAfter : ℕ → Bool → List Mention → List Mention → Type 0
IsPoppedAfter last removed old new = (front : List Mention) (m : Mention) → old ≡ front ++ m ∷ []
    → (removed ≡ nat_lt last m.position) × (new ≡ (if nat_lt last m.position then front else old))

-- the number c has these mentions, and each other number those that it had
abbrev pub AreWith : List (List Mention) → ℕ → List Mention → List (List Mention) → Type 0
AreWith old c ms new = (d : ℕ) → mentions_of new d ≡ (if d == c then ms else mentions_of old d)

-- each number has the mentions that it had
abbrev pub AreSame : List (List Mention) → List (List Mention) → Type 0
AreSame old new = (d : ℕ) → mentions_of new d ≡ mentions_of old d

-- each number has those of its mentions that are at `last` or before
abbrev pub AreKeptUntil : ℕ → List (List Mention) → List (List Mention) → Type 0
AreKeptUntil last old new = (d : ℕ) → mentions_of new d ≡ kept_until last (mentions_of old d)
