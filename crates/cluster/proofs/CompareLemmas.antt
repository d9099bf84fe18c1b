-- If two cells belong to one switch, the library of one is a prefix of that of the other.
use Rattle.cluster.proofs.Words.{◌≡◌, ℕ, ◌+◌, ◌<◌, ◌≤◌, true, false, List, [], ◌∷◌, ◌++◌, length, inl, inr, Option, Result, Ok, Err, refl, ap, sym, ◌∙◌, subst, arith, append-nil, length-append, IsOk, Database, Carried, StepFault, World, log, log_after, IsPrefixOf, Agree, History, IsMoment, carried_size, entries_of, IsOfLog, RunBefore, GoesOn, goes_on, history_of, entries_begin, libraries_of_logs_agree, of_longer, SwitchView, world_of, Cell, IsCell, work_limit_of, Belongs}

module _ (s : SwitchView Carried) (w : World Carried) (is : world_of carried_size s ≡ Ok w) where
  abbrev history : History Carried
  history = history_of s

  -- the library of a cell is that of the log of its node
  of_log : (c : Cell) → Belongs c s → IsCell c → IsOfLog (work_limit_of c) (entries_of (log w c.node)) c.node_library
  of_log c b h = of_longer (work_limit_of c) (entries_of c.entries) (entries_of (log w c.node)) c.node_library
      (entries_begin c.entries (log w c.node) (subst (λ (es : List (Option Carried)). IsPrefixOf c.entries es) (ap (λ (r : Result (World Carried) StepFault). log_after r c.node) is) b.begins)) h.of_entries

  -- the statements of two cells of the switch agree, by the headline in its world
  agree_in : RunBefore carried_size history → (one other : Cell) → Belongs one s → Belongs other s → work_limit_of one ≡ work_limit_of other → IsCell one → IsCell other → Agree one.node_library.library.statements other.node_library.library.statements
  agree_in before one other b d limit h k =
      let goes : GoesOn carried_size history before = goes_on carried_size history before w is in
      let moment : IsMoment carried_size history w = record { early = s.history; begins = ([], append-nil s.history); is_after = is } in
      libraries_of_logs_agree (work_limit_of other) (log w one.node) (log w other.node) (goes.logs_agree w w (inr moment) (inr moment) one.node other.node) one.node_library.applied other.node_library.applied one.node_library.library other.node_library.library
      (subst (λ (n : Option ℕ). IsOfLog n (entries_of (log w one.node)) one.node_library) limit (of_log one b h)).library (of_log other d k).library

-- the statements of two cells of one switch with one limit on work agree
pub cells_agree : (one other : Cell) (s : SwitchView Carried) → RunBefore carried_size (history_of s) → IsOk (world_of carried_size s) → Belongs one s → Belongs other s → work_limit_of one ≡ work_limit_of other → IsCell one → IsCell other → Agree one.node_library.library.statements other.node_library.library.statements
cells_agree one other s before ok b d limit h k = from (world_of carried_size s) refl ok where
  from : (r : Result (World Carried) StepFault) → world_of carried_size s ≡ r → IsOk r → Agree one.node_library.library.statements other.node_library.library.statements
  from (Ok w) is ok = agree_in s w is before one other b d limit h k
  from (Err fault) is ok = let no : false ≡ true = ok in cc

-- The counts of statements decide which library is ahead.

module _ (xs ys : Database) where
  -- if two lists agree and the first is longer, the second is a prefix of it
  pub is_first : Agree xs ys → length ys < length xs → IsPrefixOf ys xs × (length ys < length xs)
  is_first (inl h) more = let count : length xs + length h.0 ≡ length ys = sym (length-append xs h.0) ∙ ap (λ (zs : Database). length zs) h.1 in absurd (omega (arith, count, more))
  is_first (inr h) more = (h, more)

  -- if two lists agree and the second is longer, the first is a prefix of it
  pub is_second : Agree xs ys → length xs < length ys → IsPrefixOf xs ys × (length xs < length ys)
  is_second (inl h) more = (h, more)
  is_second (inr h) more = let count : length ys + length h.0 ≡ length xs = sym (length-append ys h.0) ∙ ap (λ (zs : Database). length zs) h.1 in absurd (omega (arith, count, more))

-- if a list is a prefix of one that is no longer, the two are equal
all_begun : (xs ys : Database) → IsPrefixOf xs ys → length ys ≤ length xs → xs ≡ ys
all_begun xs ys h few = by_rest h.0 h.1 where
  by_rest : (rest : Database) → xs ++ rest ≡ ys → xs ≡ ys
  by_rest [] is = sym (append-nil xs) ∙ is
  by_rest (s ∷ rest) is = let count : length xs + length (s ∷ rest) ≡ length ys = sym (length-append xs (s ∷ rest)) ∙ ap (λ (zs : Database). length zs) is in absurd (omega (arith, count, few))

-- if two lists agree and neither is shorter than the other, they are equal
pub are_same : (xs ys : Database) → Agree xs ys → length xs ≤ length ys → length ys ≤ length xs → xs ≡ ys
are_same xs ys (inl h) few most = all_begun xs ys h most
are_same xs ys (inr h) few most = sym (all_begun ys xs h few)
