-- The log of the mentions of all numbers. No public clause cites it.
use Rattle.std.specs.Prelude.{◌≡◌, ℕ, List, [], ◌∷◌, ◌++◌, reverse}
use Rattle.entries.specs.declared.mentions.Mention.{Mention}
use Rattle.entries.specs.Mentions.{AreUntil, AreWith, mentions_of}

-- from the last number of the log back, each is that of the mention appended last
abbrev pub AreLoggedIn : List ℕ → List (List Mention) → Type 0
AreLoggedIn [] lists = (c : ℕ) → mentions_of lists c ≡ []
AreLoggedIn (c ∷ log) lists =
    (before : List (List Mention)) × (m : Mention) × AreLoggedIn log before × AreUntil m.position before × AreWith before c (mentions_of before c ++ m ∷ []) lists

-- the log has the number of each mention, in the order in which they were appended
pub record AreLogged (log : List ℕ) (lists : List (List Mention)) : Type 0 where
  pub each : AreLoggedIn (reverse log) lists
