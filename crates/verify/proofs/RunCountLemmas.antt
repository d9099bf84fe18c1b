-- What a run over the items of a proof counts.
use Rattle.verify.proofs.Words.{◌≡◌, ℕ, ◌+◌, ◌-◌, ◌<◌, ◌≤◌, Bool, true, false, List, [], ◌∷◌, ◌++◌, length, map, take, drop, get_or, sym, ◌∙◌, ap, subst, arith, append-nil, append_assoc, map-append, take-append-drop, drop_more, Name, Database, Item, State, start, named, HeldResults, IsKept, RunsItemByNumber, HasLegalProperties, item_of, items_of, Results}
use Rattle.std.specs.Option.{option_map_or}
use Rattle.verify.proofs.CountLemmas.{with-none}
use Rattle.subst.proofs.PastLemmas.{past-more}
use Rattle.verify.proofs.Decide.{steps_weight}
use Rattle.verify.proofs.ItemCountLemmas.{more-work}
use Rattle.verify.specs.Counted.{HasCountedItem, done_if}
use Rattle.verify.specs.Metered.{Metered, is_past, metered, with_work}
use Rattle.verify.specs.Work.{items_work, step}
use Rattle.verify.specs.declared.citation.ProofContext.{ProofContext}

-- a meter that is past its limit with some work is past it with more
pub past-with : (m : Metered) (x y : ℕ) → x ≤ y → is_past (with_work m x) ≡ true → is_past (with_work m y) ≡ true
past-with m x y less h = past-more m.limit (m.count + x) (m.count + y) (omega (arith, less)) h

-- the items of numbers, at an index
pub split-items : (labels : List Name) (numbers : List ℕ) (i : ℕ) → i < length numbers
    → items_of labels numbers ≡ map (item_of labels) (take i numbers) ++ item_of labels (get_or numbers i 0) ∷ map (item_of labels) (drop (i + 1) numbers)
split-items labels numbers i less =
    ap (map (item_of labels)) (sym (take-append-drop i numbers) ∙ ap (λ r. take i numbers ++ r) (drop_more numbers i 0 less))
    ∙ map-append (item_of labels) (take i numbers) (get_or numbers i 0 ∷ drop (i + 1) numbers)

-- these items were counted from m0 on, and the results are st: so what is still to be counted, from
-- m on, completes the work of all items
pub record CountedRun (D : Database) (items : List Item) (st : State) (m0 m : Metered) : Type 0 where
  pub each : (rest : List Item) → with_work m (items_work D rest st) ≡ with_work m0 (items_work D (items ++ rest) start)

module _ (D : Database) where
  pub run-none : (st : State) (m0 m : Metered) → st ≡ start → m ≡ m0 → CountedRun D [] st m0 m
  run-none st m0 m p q = record { each = λ rest. ap (λ x. with_work x (items_work D rest st)) q ∙ ap (λ s. with_work m0 (items_work D rest s)) p }

  pub run-end : (items : List Item) (st : State) (m0 m : Metered) → CountedRun D items st m0 m → m ≡ with_work m0 (items_work D items start)
  run-end items st m0 m r = with-none m ∙ (r.each [] ∙ ap (λ is. with_work m0 (items_work D is start)) (append-nil items))

  -- an item, and those behind it if it was done
  item-work : (item : Item) (rest : List Item) (st next : State) (ok : Bool) (w : ℕ) → step D item st ≡ record { work = w; after = done_if ok next }
      → items_work D (item ∷ rest) st ≡ w + option_map_or (λ s. items_work D rest s) (done_if ok next) 0
  item-work item rest st next ok w e = ap (λ o. o.work + option_map_or (λ s. items_work D rest s) o.after 0) e

  module _ (items : List Item) (item : Item) (st next : State) (m0 m m' : Metered) (w : ℕ) (run : CountedRun D items st m0 m) (counted : m' ≡ with_work m w) where
    -- the work of all items, if this one counts w
    whole : (ok : Bool) (rest : List Item) → step D item st ≡ record { work = w; after = done_if ok next }
        → with_work m (w + option_map_or (λ s. items_work D rest s) (done_if ok next) 0) ≡ with_work m0 (items_work D (items ++ item ∷ rest) start)
    whole ok rest e = ap (with_work m) (sym (item-work item rest st next ok w e)) ∙ run.each (item ∷ rest)

    pub run-more : step D item st ≡ record { work = w; after = done_if true next } → CountedRun D (items ++ item ∷ []) next m0 m'
    run-more e = record {
      each = λ rest.
          ap (λ x. with_work x (items_work D rest next)) counted
          ∙ (more-work m w (items_work D rest next) ∙ (whole true rest e ∙ ap (λ is. with_work m0 (items_work D is start)) (sym (append_assoc items (item ∷ []) rest))));
    }

    pub run-stop : (rest : List Item) → step D item st ≡ record { work = w; after = done_if false next } → m' ≡ with_work m0 (items_work D (items ++ item ∷ rest) start)
    run-stop rest e = counted ∙ ((let z : w ≡ w + 0 = omega arith in ap (with_work m) z) ∙ whole false rest e)

    pub run-past : (ok : Bool) (rest : List Item) → step D item st ≡ record { work = w; after = done_if ok next } → is_past m' ≡ true → is_past (with_work m0 (items_work D (items ++ item ∷ rest) start)) ≡ true
    run-past ok rest e h = subst (λ x. is_past x ≡ true) (whole ok rest e) (past-with m w (w + option_map_or (λ s. items_work D rest s) (done_if ok next) 0) (omega arith) (subst (λ x. is_past x ≡ true) counted h))

-- with a part of what the next item counts the meter is past its limit
pub run-short : (D : Database) (items : List Item) (item : Item) (rest : List Item) (st : State) (m0 m : Metered) (extra : ℕ) → CountedRun D items st m0 m
    → extra ≤ (step D item st).work → is_past (with_work m extra) ≡ true → is_past (with_work m0 (items_work D (items ++ item ∷ rest) start)) ≡ true
run-short D items item rest st m0 m extra run within past =
    subst (λ x. is_past x ≡ true) (run.each (item ∷ rest)) (past-with m extra (items_work D (item ∷ rest) st) (omega (arith, within)) past)

-- the weight of the results never falls
pub weight-grows : (S : Database) (at : ℕ) (names : List Name) (legal : HasLegalProperties S names) (item : Item) (old new : HeldResults) (ok : Bool) → RunsItemByNumber ok S at names item old.results new.results → IsKept ok old new
    → old.results.weight ≤ new.results.weight
weight-grows S at names legal item old new true runs kept = steps_weight S at (legal.single at) legal.once (named names old.results) (named names new.results) item runs.0
weight-grows S at names legal item old new false runs kept = let w = ap (λ (r : Results ℕ). r.weight) kept.0 in omega (arith, w)

-- what an item counts beside the items so far and the weight of the results
pub one-item : (t : ProofContext) (item : Item) (old new : HeldResults) (m m' : Metered) (ok : Bool) (i : ℕ) (counted : HasCountedItem t item old new m m' ok) → old.results.weight ≤ new.results.weight
    → with_work m' (i + 1 + new.results.weight) ≡ with_work (with_work m (i + old.results.weight)) (1 + counted.extra + (new.results.weight - old.results.weight))
one-item t item old new m m' ok i counted grows =
    let e : m.count + counted.extra + (i + 1 + new.results.weight) ≡ m.count + (i + old.results.weight) + (1 + counted.extra + (new.results.weight - old.results.weight)) = omega (arith, grows) in
    ap (λ x. with_work x (i + 1 + new.results.weight)) counted.metered ∙ ap (λ n. metered n m.limit) e

-- what passes the limit beside the weight of the results passes it beside the items too
pub past-beside : (m : Metered) (i w x : ℕ) → is_past (with_work (with_work m w) x) ≡ true → is_past (with_work (with_work m (i + w)) x) ≡ true
past-beside m i w x h = past-more m.limit (m.count + w + x) (m.count + (i + w) + x) (omega arith) h
