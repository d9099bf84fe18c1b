-- Agreement for a history that is taken, and the place where a run of events stops.
use Rattle.net.proofs.Words.{◌≡◌, ℕ, suc, List, [], ◌∷◌, ◌++◌, ◌<◌, length, take, Result, Ok, Err, inl, inr, refl, ap, sym, ◌∙◌, subst, arith, append_assoc, length-append, take-append_seam, Yields, into_iter_items, into_iter_steps, IntoIter, IsOk, IfErr, OnOk, Event, StepFault, Memory, KeptPart, World, after, IsAfter, ChosenAgree, LogsAgree, BeginsNew, History, new_history, world_of, with_event, IsMoment, Agreement, IsMetOrMemory, RunStopsAt}
use Rattle.net.proofs.Beginnings.{swapped, beginnings_agree}
use Rattle.net.proofs.OneValue.{ballots_have_one_value}
use Rattle.net.proofs.LaterBallots.{later_ballots_keep_chosen}
use Rattle.net.proofs.ChosenAgree.{chosen_values_agree}
use Rattle.net.proofs.LogsAgree.{log_entries_are_chosen, logs_of_nodes_agree}
use Rattle.net.proofs.Offered.{log_entries_were_offered}

-- One of any two moments of a history of new nodes comes first.

module _ {V : Type 0} (size : V → ℕ) (weights : List ℕ) (limit : ℕ) (events : List (Event V)) (w x : World V) (m : IsMoment size (new_history weights limit events) w) (n : IsMoment size (new_history weights limit events) x) where
  -- if w comes first, the events of its moment and the later ones up to the moment of x lead to x
  later : (first : IsMoment size (new_history weights limit events) w) (late : List (Event V)) (second : IsMoment size (new_history weights limit events) x) → first.early ++ late ≡ second.early → IsAfter size weights limit (first.early ++ late) x
  later first late second e = subst (λ (es : List (Event V)). IsAfter size weights limit es x) (sym e) second.is_after

  -- if x comes first, the events of its moment and the later ones up to the moment of w lead to w
  earlier : (late : List (Event V)) → n.early ++ late ≡ m.early → IsAfter size weights limit (n.early ++ late) w
  earlier late e = subst (λ (es : List (Event V)). IsAfter size weights limit es w) (sym e) m.is_after

  -- values chosen at one slot at two moments of a history are equal
  pub moments_choose_one : ChosenAgree w x
  moments_choose_one = elim (beginnings_agree m.early n.early events m.begins n.begins) [
    | inl h ↦ chosen_values_agree size weights limit m.early h.0 w x m.is_after (later m h.0 n h.1)
    | inr h ↦ λ s u v c d. sym (chosen_values_agree size weights limit n.early h.0 x w n.is_after (earlier h.0 h.1) s v u d c)
  ]

  -- the logs at two moments of a history agree
  pub moments_agree : LogsAgree w x
  moments_agree = elim (beginnings_agree m.early n.early events m.begins n.begins) [
    | inl h ↦ logs_of_nodes_agree size weights limit m.early h.0 w x m.is_after (later m h.0 n h.1)
    | inr h ↦ λ j k. swapped _ _ (logs_of_nodes_agree size weights limit n.early h.0 x w n.is_after (earlier h.0 h.1) k j)
  ]

-- agreement holds of a history of new nodes that is taken
pub agreement_of_new : {V : Type 0} (size : V → ℕ) (weights : List ℕ) (limit : ℕ) (events : List (Event V)) (w : World V) → IsAfter size weights limit events w → Agreement size (new_history weights limit events)
agreement_of_new size weights limit events w is_after = record {
  is_taken = subst IsOk (sym is_after) refl;
  one_value = λ x m. ballots_have_one_value size weights limit m.early x m.is_after;
  later_value = λ x m. later_ballots_keep_chosen size weights limit m.early x m.is_after;
  chosen = moments_choose_one size weights limit events;
  logs_chosen = λ x m. log_entries_are_chosen size weights limit m.early x m.is_after;
  logs_agree = moments_agree size weights limit events;
  logs_offered = λ x m. log_entries_were_offered size weights limit m.early x m.is_after;
}

-- a history that begins new is that of new nodes
pub history_is_new : {V : Type 0} (history : History V) → BeginsNew history → history ≡ new_history history.weights history.event_limit history.events
history_is_new {V} history new = ap (λ (ps : List (KeptPart V)). let h : History V = record { weights = history.weights; event_limit = history.event_limit; begins = ps; events = history.events } in h) new

-- agreement holds of a history that is taken and begins new
pub agreement_of : {V : Type 0} (size : V → ℕ) (history : History V) (w : World V) → BeginsNew history → world_of size history ≡ Ok w → Agreement size history
agreement_of {V} size history w new is_after =
    let same = history_is_new history new in
    subst (λ (h : History V). Agreement size h) (sym same) (agreement_of_new size history.weights history.event_limit history.events w (ap (λ (h : History V). world_of size h) (sym same) ∙ is_after))

-- Where a run stops: the events in `done` were taken, and e is refused.

-- if a list is xs followed by ys, its first `length xs` elements are xs
taken_before : {A : Type 0} (xs ys zs : List A) → zs ≡ xs ++ ys → take (length xs) zs ≡ xs
taken_before xs ys zs is = ap (λ ws. take (length xs) ws) is ∙ take-append_seam xs ys

-- if a list is xs followed by x and ys, its first `length xs + 1` elements are xs and x
taken_with : {A : Type 0} (xs ys zs : List A) (x : A) → zs ≡ xs ++ x ∷ ys → take (suc (length xs)) zs ≡ xs ++ x ∷ []
taken_with {A} xs ys zs x is =
    let count : length (xs ++ x ∷ []) ≡ suc (length xs) = omega (arith, length-append xs (x ∷ [])) in
    let whole : zs ≡ (xs ++ x ∷ []) ++ ys = is ∙ sym (append_assoc xs (x ∷ []) ys) in
    ap (λ n. take n zs) (sym count) ∙ taken_before (xs ++ x ∷ []) ys zs whole

-- if a list has an element after its first part, the first part is shorter than the list
pub stands_within : {A : Type 0} (xs ys zs : List A) (x : A) → zs ≡ xs ++ x ∷ ys → length xs < length zs
stands_within {A} xs ys zs x is =
    let count : length zs ≡ length (xs ++ x ∷ ys) = ap (λ (ws : List A). length ws) is in
    omega (arith, count, length-append xs (x ∷ ys))

-- the fault is the one that is met, or Memory if none is met
met_or_memory : {V : Type 0} (r : Result (World V) StepFault) (fault : StepFault) → IfErr r (λ met. fault ≡ met) → OnOk r (fault ≡ Memory) → IsMetOrMemory r fault
met_or_memory (Ok w) fault met memory = memory
met_or_memory (Err met) fault is memory = is

-- if the answer is the fault that is met, the fault is the one that is met
answered_met : {V : Type 0} (r : Result (World V) StepFault) (fault : StepFault) → IfErr r (λ met. let answer : Result ℕ StepFault = Err fault in answer ≡ Err met) → IfErr r (λ met. fault ≡ met)
answered_met (Ok w) fault h = tt
answered_met (Err met) fault h = cc

-- the items that the iterator of a vector has yielded, followed by the remaining ones, are its
-- items
pub taken_front : {X A : Type 0} (s : IntoIter X A) (xs : List X) (t : IntoIter X A) → Yields into_iter_steps s xs t → into_iter_items s ≡ xs ++ into_iter_items t
taken_front s [] t y = ap into_iter_items y
taken_front s (x ∷ xs) t y = y.1.0 ∙ ap (λ ys. x ∷ ys) (taken_front y.0 xs t y.2)

-- the run stops at the event after those taken, with the fault that was answered
pub stops_there : {V : Type 0} (size : V → ℕ) (weights : List ℕ) (limit : ℕ) (events done rest : List (Event V)) (e : Event V) (old now : History V) (shown : List (Event V)) (fault : StepFault)
    → events ≡ done ++ e ∷ rest → old ≡ new_history weights limit done → now ≡ old → shown ≡ now.events → IsOk (world_of size now)
    → IfErr (world_of size (with_event old e)) (λ met. let answer : Result ℕ StepFault = Err fault in answer ≡ Err met) → OnOk (world_of size (with_event old e)) (fault ≡ Memory)
    → RunStopsAt size weights limit events (length shown) fault
stops_there {V} size weights limit events done rest e old now shown fault split is same shows before refused only_memory =
    let count : length shown ≡ length done = ap (λ (es : List (Event V)). length es) (shows ∙ ap (λ (t : History V). t.events) (same ∙ is)) in
    subst (λ (i : ℕ). RunStopsAt size weights limit events i fault) (sym count) record {
      before = subst (λ (es : List (Event V)). IsOk (after size weights limit es)) (sym (taken_before done (e ∷ rest) events split)) (subst (λ (t : History V). IsOk (world_of size t)) (same ∙ is) before);
      fault_is = inl (
        stands_within done rest events e split,
        subst (λ (es : List (Event V)). IsMetOrMemory (after size weights limit es) fault) (sym (taken_with done rest events e split))
            (subst (λ (t : History V). IsMetOrMemory (world_of size (with_event t e)) fault) is (met_or_memory (world_of size (with_event old e)) fault (answered_met (world_of size (with_event old e)) fault refused) only_memory)),
      );
    }
