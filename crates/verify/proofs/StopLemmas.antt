-- A run that stops, and whether its items are right.
use Rattle.verify.proofs.Words.{◌≡◌, ℕ, ◌+◌, ◌<◌, ◌≤◌, false, List, [], ◌∷◌, ◌++◌, length, map, take, drop, get_or, Some, slice_get, sym, ◌∙◌, ap, subst, arith, length-map, take-append-drop, take-map, take_all, drop_more, slice_get-map, slice_get-get_or, slice_get_within, some-same, option_map, Name, Stmt, Database, stmt_at, expr_of, decode, Item, Mark, Results, start, Runs, RunsItem, AreBelow, named, RunsItemByNumber, HasLegalProperties, item_of, items_of, IsRight, weight_limit, StopsAt, LabelEntry, AreEntries}
use Rattle.verify.proofs.Decide.{refuted_at_step, accepts_right}
use Rattle.verify.proofs.StepLemmas.{Reached, right-end, wrong-end}

-- the item at an index is that of the number at this index
item-at : (labels : List Name) (numbers : List ℕ) (k : ℕ) (item : Item) → k < length numbers → slice_get (items_of labels numbers) k ≡ Some item → item_of labels (get_or numbers k 0) ≡ item
item-at labels numbers k item less is =
    some-same (slice_get-map (item_of labels) numbers k ∙ ap (option_map (item_of labels)) (slice_get-get_or numbers k 0 less)) is

module _ (S : Database) (names : List Name) (at : ℕ) (legal : HasLegalProperties S names) where
  -- the run stops at an item that was not done
  pub stops-at : (labels : List Name) (numbers : List ℕ) (k : ℕ) (old st new : Results ℕ) → k < length numbers → Reached S names at legal (map (item_of labels) (take k numbers)) old
      → RunsItemByNumber false S at names (item_of labels (get_or numbers k 0)) old new → st ≡ old → StopsAt S at names (items_of labels numbers) k st
  stops-at labels numbers k old st new less r goes same = subst (StopsAt S at names (items_of labels numbers) k) (sym same) (record {
    within = let l = length-map numbers (item_of labels) in omega (arith, less, l);
    runs = subst (λ is. Runs S at start is (named names old)) (sym (take-map (item_of labels) k numbers)) r.runs;
    are_named = r.are_named;
    stuck = λ item is next steps. goes next (subst (λ i. RunsItem S at (named names old) i next) (sym (item-at labels numbers k item less is)) steps);
  })

  -- the run stops at the end
  pub stops-end : (labels : List Name) (numbers : List ℕ) (k n : ℕ) (st : Results ℕ) → length numbers ≤ k → n ≡ length numbers → Reached S names at legal (map (item_of labels) (take k numbers)) st
      → StopsAt S at names (items_of labels numbers) n st
  stops-end labels numbers k n st all is r =
      let l = length-map numbers (item_of labels) in
      record {
        within = omega (arith, is, l);
        runs = subst (λ is. Runs S at start is (named names st))
            (ap (map (item_of labels)) (take_all k numbers all) ∙ sym (take_all n (items_of labels numbers) (omega (arith, is, l)))) r.runs;
        are_named = r.are_named;
        stuck = λ item there next steps. absurd (let w = slice_get_within (items_of labels numbers) n item there in omega (arith, w, is, l));
      }

  module _ (items : List Item) (done : ℕ) (st : Results ℕ) (s : Stmt) (stands : stmt_at S at ≡ Some s) (stops : StopsAt S at names items done st) where
    reached : Reached S names at legal (take done items) st
    reached = record { runs = stops.runs; are_named = stops.are_named }

    -- an item that cannot be done refutes the proof
    pub stops-wrong : done < length items → IsRight S at items → ⊥
    stops-wrong less right =
        let item = get_or items done Mark in
        refuted_at_step S at (legal.single at) legal.once (take done items) (drop (done + 1) items) item (named names st) s stands stops.runs
        (stops.stuck item (slice_get-get_or items done Mark less))
        (subst (IsRight S at) (sym (take-append-drop done items) ∙ ap (λ r. take done items ++ r) (drop_more items done Mark less)) right)

    -- if all items are done, the items are right if and only if the result is the statement's
    -- expression alone
    pub stops-right : (e : List ℕ) → length items ≤ done → decode names e ≡ expr_of s → st.stack ≡ e ∷ [] → st.weight ≤ weight_limit → IsRight S at items
    stops-right e all same one light = subst (IsRight S at) (take_all done items all) (right-end S names at legal (take done items) st s e stands reached same one light)

    pub stops-other : (e : List ℕ) → length items ≤ done → decode names e ≡ expr_of s → AreBelow (length names) e → (st.stack ≡ e ∷ [] → ⊥) → IsRight S at items → ⊥
    stops-other e all same codes other right =
        wrong-end S names at legal (take done items) st s e stands reached same codes other (subst (IsRight S at) (sym (take_all done items all)) right)

    -- the same for a result given by names
    pub stops-named : length items ≤ done → st.weight ≤ weight_limit → map (decode names) st.stack ≡ expr_of s ∷ [] → IsRight S at items
    stops-named all light one =
        subst (IsRight S at) (take_all done items all)
        (accepts_right S at (legal.single at) legal.once (take done items) s stands (record { end = named names st; runs = stops.runs; one = one; light = light }))

-- there are as many items as numbers
pub count-items : (labels : List Name) (numbers : List ℕ) (items : List Item) → items_of labels numbers ≡ items → length items ≡ length numbers
count-items labels numbers items is = sym (ap length is) ∙ length-map numbers (item_of labels)

-- the run over the items stops where the run over the numbers does
pub stopped : (S : Database) (names : List Name) (at : ℕ) (labels : List Name) (numbers : List ℕ) (items : List Item) (table copy : List LabelEntry) (done : ℕ) (st : Results ℕ)
    → items_of labels numbers ≡ items → copy ≡ table → AreEntries S at labels table
    → ((labels : List Name) → AreEntries S at labels copy → StopsAt S at names (items_of labels numbers) done st) → StopsAt S at names items done st
stopped S names at labels numbers items table copy done st is same entries stops =
    subst (λ l. StopsAt S at names l done st) is (stops labels (subst (AreEntries S at labels) (sym same) entries))
