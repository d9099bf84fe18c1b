-- The counts of a report, with one more event.
use Rattle.nodes.proofs.Words.{◌≡◌, ℕ, zero, suc, ◌+◌, ◌*◌, ◌<◌, ◌≤◌, ◌==◌, nat_lt, Bool, true, false, List, [], ◌∷◌, ◌++◌, length, get_or, set, take, replicate, sum, Option, Some, None, Result, Ok, Err, refl, sym, ap, ◌∙◌, arith, if◌then◌else◌, IsOk, ForOk, nat_tests, take_more, sum_by-replicate}
use Rattle.nodes.proofs.Words.{World, Event, StepFault, node_of, SwitchView, world_of, Carried, carried_size, is_event_of_node, event_count_of, event_counts, with_one_more_at, IsReport}

-- The counts with one more at a node.

plus-none : (k : ℕ) (c : ℕ) (cs ds : List ℕ) (b : Bool) → b ≡ false → cs ≡ ds → ((c + (if b then 1 else 0)) ∷ cs) ≡ c ∷ ds
plus-none k c cs ds b off same = ap (λ (t : Bool). (c + (if t then 1 else 0)) ∷ cs) off ∙ (let z : c + 0 ≡ c = omega arith in ap (λ (n : ℕ). n ∷ cs) z) ∙ ap (λ (ns : List ℕ). c ∷ ns) same

pub with_one_more_at-none : (k : ℕ) (cs : List ℕ) → with_one_more_at k None cs ≡ cs
with_one_more_at-none k [] = refl
with_one_more_at-none k (c ∷ cs) = plus-none k c (with_one_more_at (suc k) None cs) cs false refl (with_one_more_at-none (suc k) cs)

-- a node before the first one changes no count
with_one_more_at-before : (k j : ℕ) (cs : List ℕ) → j < k → with_one_more_at k (Some j) cs ≡ cs
with_one_more_at-before k j [] low = refl
with_one_more_at-before k j (c ∷ cs) low = plus-none k c (with_one_more_at (suc k) (Some j) cs) cs (j == k) (grind (arith, nat_tests)) (with_one_more_at-before (suc k) j cs (omega arith))

-- a node after the last one changes no count
pub with_one_more_at-past : (k j : ℕ) (cs : List ℕ) → k + length cs ≤ j → with_one_more_at k (Some j) cs ≡ cs
with_one_more_at-past k j [] high = refl
with_one_more_at-past k j (c ∷ cs) high = plus-none k c (with_one_more_at (suc k) (Some j) cs) cs (j == k) (let other : k < j = omega arith in grind (arith, nat_tests)) (with_one_more_at-past (suc k) j cs (omega arith))

-- a node among them raises its own count by one
pub with_one_more_at-at : (k j i : ℕ) (cs : List ℕ) → j ≡ k + i → i < length cs → with_one_more_at k (Some j) cs ≡ set cs i (get_or cs i 0 + 1)
with_one_more_at-at k j i [] is low = absurd (omega arith)
with_one_more_at-at k j zero (c ∷ cs) is low =
    let yes : (j == k) ≡ true = grind (arith, nat_tests) in
    ap (λ (t : Bool). (c + (if t then 1 else 0)) ∷ with_one_more_at (suc k) (Some j) cs) yes ∙ ap (λ (ns : List ℕ). (c + 1) ∷ ns) (with_one_more_at-before (suc k) j cs (omega arith))
with_one_more_at-at k j (suc i) (c ∷ cs) is low =
    plus-none k c (with_one_more_at (suc k) (Some j) cs) (set cs i (get_or cs i 0 + 1)) (j == k) (let other : k < j = omega arith in grind (arith, nat_tests)) (with_one_more_at-at (suc k) j i cs (omega arith) (omega arith))

-- counts that are all zero have the sum zero
pub no_sum : (cs : List ℕ) (n : ℕ) → cs ≡ replicate n 0 → 0 ≡ sum cs
no_sum cs n is = let zeros : sum (replicate n 0) ≡ n * 0 = sum_by-replicate (λ m. m) n 0 in let same = ap (λ (ns : List ℕ). sum ns) is in omega (arith, zeros, same)

-- a number for which the test against n fails is at least n
pub at_least : (k n : ℕ) → (k < n → false ≡ true) → n ≤ k
at_least k n over = by_test (nat_lt k n) refl where
  by_test : (t : Bool) → nat_lt k n ≡ t → n ≤ k
  by_test true test = let never : false ≡ true = over (grind (arith, nat_tests)) in cc
  by_test false test = grind (arith, nat_tests)

-- The counts of a history with one more event.

event_count_of-push : {V : Type 0} (w : World V) (k : ℕ) (es : List (Event V)) (e : Event V) → event_count_of w k (es ++ e ∷ []) ≡ event_count_of w k es + (if is_event_of_node w k e then 1 else 0)
event_count_of-push w k [] e = omega arith
event_count_of-push w k (x ∷ es) e = let rest = event_count_of-push w k es e in omega (arith, rest)

pub event_counts-push : {V : Type 0} (w : World V) (k n : ℕ) (es : List (Event V)) (e : Event V) → event_counts w k n (es ++ e ∷ []) ≡ with_one_more_at k (node_of w e) (event_counts w k n es)
event_counts-push w k zero es e = refl
event_counts-push w k (suc n) es e =
    ap (λ (c : ℕ). c ∷ event_counts w (suc k) n (es ++ e ∷ [])) (event_count_of-push w k es e)
    ∙ ap (λ (cs : List ℕ). (event_count_of w k es + (if is_event_of_node w k e then 1 else 0)) ∷ cs) (event_counts-push w (suc k) n es e)

pub event_counts-none : {V : Type 0} (w : World V) (k n : ℕ) → event_counts w k n [] ≡ replicate n 0
event_counts-none w k zero = refl
event_counts-none w k (suc n) = ap (λ (cs : List ℕ). 0 ∷ cs) (event_counts-none w (suc k) n)

-- counting the next event gives the counts of the first i + 1 events
pub counts_more : {V : Type 0} (w : World V) (nodes : ℕ) (es : List (Event V)) (i : ℕ) (e : Event V) (o : Option ℕ) (old new : List ℕ) → e ≡ get_or es i e → i < length es → o ≡ node_of w e
    → old ≡ event_counts w 0 nodes (take i es) → new ≡ with_one_more_at 0 o old → new ≡ event_counts w 0 nodes (take (i + 1) es)
counts_more {V} w nodes es i e o old new is low node was added =
    added ∙ ap (λ (p : Option ℕ). with_one_more_at 0 p old) node ∙ ap (λ (cs : List ℕ). with_one_more_at 0 (node_of w e) cs) was ∙ sym (event_counts-push w 0 nodes (take i es) e)
    ∙ ap (λ (ds : List (Event V)). event_counts w 0 nodes ds) (ap (λ (x : Event V). take i es ++ x ∷ []) is ∙ sym (take_more es i e low))

-- The counts in the world after the history.
pub report_of : (switch : SwitchView Carried) (nodes : ℕ) (handled : List ℕ) → IsOk (world_of carried_size switch) → ForOk (world_of carried_size switch) (λ w. handled ≡ event_counts w 0 nodes switch.history) → IsReport switch nodes handled
report_of switch nodes handled ok counts = from (world_of carried_size switch) refl ok where
  from : (r : Result (World Carried) StepFault) → world_of carried_size switch ≡ r → IsOk r → IsReport switch nodes handled
  from (Ok w) is ok = record { world = w; is_after = is; counts = counts w is }
  from (Err fault) is ok = let no : false ≡ true = ok in cc
