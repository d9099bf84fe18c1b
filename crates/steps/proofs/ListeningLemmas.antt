-- The table that is built follows the walk over the items.
use Rattle.steps.proofs.Words.{◌≡◌, ℕ, suc, ◌-◌, ◌<◌, ◌≤◌, List, [], ◌∷◌, ◌++◌, length, map, drop, take, get_or, refl, sym, ◌∙◌, ap, subst, arith, length-append, length-map, map_push, same_from_push, Name, Expr, Database, decode, AreBelow, AllBelow, Item, Cite, Recall, Mark, State, Results, with_result, named, Walk, walk_on, walk_start, IsDone, Hears, HeldResults, Numbered, CitesHypothesis, CitesAssertion, IsMark, IsRecall, run-as, Vec, Global, SymbolRange, symbols_in, progress, RecordsItems, AreSteps, steps_of, expr_in, rows_of, row_of, progress_of, AreRows, AreStepPlaces, IsDraft, IsDraftOf, AgreesWithRun, CitesStep, TableDraft}
use Rattle.steps.proofs.CiteLemmas.{IsItemDone, hypothesis-cited, assertion-cited}
use Rattle.steps.proofs.DraftRowLemmas.{rows-moved, buffer-weaken}
use Rattle.steps.proofs.DraftedItemLemmas.{mark-some, recall-there, marked, recalled}
use Rattle.steps.proofs.SoundLemmas.{records-sound, records-snoc, nothing-sound, last_place-last}

-- the result in the last range is that of the run
result-is : (names : List Name) (st : State) (results : Results ℕ) (b : List Expr) (e : Expr) (front : List (List ℕ)) (x : List ℕ) → named names results ≡ with_result st b e → results.stack ≡ front ++ x ∷ [] → decode names x ≡ e
result-is names st results b e front x same last =
    sym (same_from_push b (map (decode names) front) e (decode names x) (sym (ap (λ (s : State). s.stack) same) ∙ (ap (map (decode names)) last ∙ map_push (decode names) front x))).1

last-below : (n : ℕ) (front : List (List ℕ)) (x : List ℕ) → AllBelow n (front ++ x ∷ []) → AreBelow n x
last-below n [] x p = p.0
last-below n (y ∷ front) x p = last-below n front x p.1

-- ---- symbols are appended

module _ (S : Database) (at : ℕ) (names : List Name) (xs e zs : List ℕ) (more : zs ≡ xs ++ e) (d : TableDraft) (is : IsDraft S at names xs d) where
  rows_same : rows_of zs d ≡ rows_of xs d
  rows_same = rows-moved xs e zs d.stored.items more is.inside

  moved-draft : IsDraft S at names zs d
  moved-draft = record {
    inside = buffer-weaken (length xs) (length zs) d.stored.items (let l = ap length more in omega (arith, l, length-append xs e)) is.inside;
    rows = subst (AreRows S at names) (sym rows_same) is.rows;
    step_places = subst (λ r. AreStepPlaces d.step_places (steps_of r)) (sym rows_same) is.step_places;
    stack_below = is.stack_below;
    saved_below = is.saved_below;
  }

  moved-agrees : (st : State) → AgreesWithRun names xs d st → AgreesWithRun names zs d st
  moved-agrees st tied = record { stack = ap (λ r. map (expr_in names r) d.stack.items) rows_same ∙ tied.stack; saved = ap (λ r. map (expr_in names r) d.saved.items) rows_same ∙ tied.saved }

  progress_same : progress_of zs d ≡ progress_of xs d
  progress_same = ap (λ r. progress (steps_of r) d.stack.items d.saved.items) rows_same

-- ---- one item

module _ (w : Walk) (item : Item) (held : HeldResults) (done : IsDone w item held) (d : TableDraft) (p : IsDraftOf w d) where
  abbrev S : Database
  S = w.statements

  abbrev st : State
  st = named w.names w.results

  abbrev next : State
  next = named w.names held.results

  moved : IsDraft S w.at w.names held.symbols d
  moved = moved-draft S w.at w.names w.symbols done.more held.symbols done.appended d p.draft

  tied : AgreesWithRun w.names held.symbols d st
  tied = moved-agrees S w.at w.names w.symbols done.more held.symbols done.appended d p.draft st p.agrees

  follow : (new : TableDraft) (i : Item) → item ≡ i → IsItemDone S w.at w.names held.symbols d i new next → IsDraftOf (walk_on w item held) new
  follow new i same r = record {
    draft = r.0;
    agrees = r.2;
    recorded = subst (λ j. RecordsItems S w.at (progress [] [] []) (w.items ++ j ∷ []) (progress_of held.symbols new)) (sym same)
        (records-snoc S w.at w.items i (progress [] [] []) (progress_of held.symbols d) (progress_of held.symbols new)
        (subst (RecordsItems S w.at (progress [] [] []) w.items) (sym (progress_same S w.at w.names w.symbols done.more held.symbols done.appended d p.draft)) p.recorded) r.1);
  }

  hypothesis-on : (new : TableDraft) (position : ℕ) (range : SymbolRange) → CitesHypothesis position range w item held → CitesStep d new (record { position = position; taken = [] }) range → IsDraftOf (walk_on w item held) new
  hypothesis-on new position range told cites =
      let run = run-as w item held done (Cite told.label) told.cites in
      follow new (Cite told.label) told.cites
      (hypothesis-cited S w.at w.names done.legal held.symbols d moved told.label st next tied run range (told.range_is.ordered, told.range_is.within)
      (result-is w.names st held.results run.0 run.1 told.range_is.stack (symbols_in held.symbols range) run.3 told.range_is.last)
      (last-below (length w.names) told.range_is.stack (symbols_in held.symbols range) (subst (AllBelow (length w.names)) told.range_is.last done.are_named.stack_named))
      position told.entry.0 told.entry.1 told.entry.2 new cites)

  assertion-on : (rest : Vec ℕ Global) (new : TableDraft) (position count : ℕ) (range : SymbolRange) (taken : List ℕ) (keep : ℕ) → keep ≡ length d.stack.items - count → rest.items ≡ take keep d.stack.items → taken ≡ drop keep d.stack.items
      → CitesAssertion position count range w item held → CitesStep (record d { stack = rest }) new (record { position = position; taken = taken }) range → IsDraftOf (walk_on w item held) new
  assertion-on rest new position count range taken keep kept front tail told cites =
      let run = run-as w item held done (Cite told.label) told.cites in
      let many : count ≤ length d.stack.items =
      (let n = told.pops in let l = ap length told.range_is.last in let a = length-append told.range_is.stack (symbols_in held.symbols range ∷ []) in let t = ap length p.agrees.stack in
      omega (arith, n, l, a, t, length-map d.stack.items (expr_in w.names (rows_of w.symbols d)), length-map w.results.stack (decode w.names))) in
      follow new (Cite told.label) told.cites
      (assertion-cited S w.at w.names done.legal held.symbols d moved told.label st next tied run range (told.range_is.ordered, told.range_is.within)
      (result-is w.names st held.results run.0 run.1 told.range_is.stack (symbols_in held.symbols range) run.3 told.range_is.last)
      (last-below (length w.names) told.range_is.stack (symbols_in held.symbols range) (subst (AllBelow (length w.names)) told.range_is.last done.are_named.stack_named))
      position told.entry.0 told.entry.1 (told.entry.1.stands, told.entry.2.assertion) told.entry.2.earlier count (told.taken told.entry.0 told.entry.1.stands) many rest
      (front ∙ ap (λ k. take k d.stack.items) kept) new
      (subst (λ t. CitesStep (record d { stack = rest }) new (record { position = position; taken = t }) range) (tail ∙ ap (λ k. drop k d.stack.items) kept) cites))

-- ---- what the listener hears

pub hears-hypothesis : (old new : TableDraft) (position : ℕ) (range : SymbolRange) (taken : List ℕ) → taken ≡ [] → CitesStep old new (record { position = position; taken = taken }) range → Hears IsDraftOf (CitesHypothesis position range) old new
hears-hypothesis old new position range taken none cites w item held done told p =
    hypothesis-on w item held done old p new position range told (subst (λ t. CitesStep old new (record { position = position; taken = t }) range) none cites)

pub hears-assertion : (old : TableDraft) (rest : Vec ℕ Global) (new : TableDraft) (position count : ℕ) (range : SymbolRange) (taken : List ℕ) (keep : ℕ) → keep ≡ length old.stack.items - count → rest.items ≡ take keep old.stack.items → taken ≡ drop keep old.stack.items
    → CitesStep (record old { stack = rest }) new (record { position = position; taken = taken }) range → Hears IsDraftOf (CitesAssertion position count range) old new
hears-assertion old rest new position count range taken keep kept front tail cites w item held done told p = assertion-on w item held done old p rest new position count range taken keep kept front tail told cites

pub hears-mark : (old new : TableDraft) (k default : ℕ) → k ≡ get_or old.stack.items (length old.stack.items - 1) default → new.stored.items ≡ old.stored.items → new.step_places ≡ old.step_places → new.stack.items ≡ old.stack.items → new.saved.items ≡ old.saved.items ++ k ∷ []
    → Hears IsDraftOf IsMark old new
hears-mark old new k default last stored places stack saved w item held done told p =
    follow w item held done old p new Mark told
    (marked w.statements w.at w.names held.symbols old (moved w item held done old p) (named w.names w.results) (named w.names held.results) (tied w item held done old p) new k stored places default (run-as w item held done Mark told) last stack saved)

pub hears-no-mark : (old new : TableDraft) → length old.stack.items ≤ 0 → Hears IsDraftOf IsMark old new
hears-no-mark old new none w item held done told p =
    absurd (let some = mark-some w.statements w.at w.names held.symbols old (moved w item held done old p) (named w.names w.results) (named w.names held.results) (tied w item held done old p) (run-as w item held done Mark told) in omega (arith, none, some))

pub hears-recall : (old new : TableDraft) (i k default : ℕ) → i < length old.saved.items → k ≡ get_or old.saved.items i default → new.stored.items ≡ old.stored.items → new.step_places ≡ old.step_places → new.stack.items ≡ old.stack.items ++ k ∷ [] → new.saved.items ≡ old.saved.items
    → Hears IsDraftOf (IsRecall i) old new
hears-recall old new i k default there at_i stored places stack saved w item held done told p =
    follow w item held done old p new (Recall (suc i)) told
    (recalled w.statements w.at w.names held.symbols old (moved w item held done old p) (named w.names w.results) (named w.names held.results) (tied w item held done old p) new k stored places i default (run-as w item held done (Recall (suc i)) told) there at_i stack saved)

pub hears-no-recall : (old new : TableDraft) (i : ℕ) → length old.saved.items ≤ i → Hears IsDraftOf (IsRecall i) old new
hears-no-recall old new i over w item held done told p =
    absurd (let some = recall-there w.statements w.at w.names held.symbols old (moved w item held done old p) (named w.names w.results) (named w.names held.results) (tied w item held done old p) i (run-as w item held done (Recall (suc i)) told) in omega (arith, over, some))

-- ---- the whole proof

pub draft-start : (f : Numbered) (at : ℕ) (d : TableDraft) → IsDraft f.statements at f.names [] d → d.stored.items ≡ [] → d.stack.items ≡ [] → d.saved.items ≡ [] → IsDraftOf (walk_start f at) d
draft-start f at d is stored stack saved =
    let rows : rows_of [] d ≡ [] = ap (map (row_of [])) stored in
    record {
      draft = is;
      agrees = record { stack = ap (map (expr_in f.names (rows_of [] d))) stack; saved = ap (map (expr_in f.names (rows_of [] d))) saved };
      recorded = ap (λ r. progress (steps_of r) [] []) (sym rows) ∙ (ap (λ s. progress (steps_of (rows_of [] d)) s []) (sym stack) ∙ ap (λ s. progress (steps_of (rows_of [] d)) d.stack.items s) (sym saved));
    }

module _ (S : Database) (at : ℕ) (names : List Name) (zs : List ℕ) (items : List Item) (d : TableDraft) (recorded : RecordsItems S at (progress [] [] []) items (progress_of zs d)) (e : Expr) (one : map (expr_in names (rows_of zs d)) d.stack.items ≡ e ∷ []) where
  -- if the stack has one expression, it has one place, and its row has the expression
  last_place : (xs : List ℕ) → map (expr_in names (rows_of zs d)) xs ≡ e ∷ [] → (n : ℕ) × (xs ≡ n ∷ []) × (expr_in names (rows_of zs d) n ≡ e)
  last_place [] q = cc
  last_place (x ∷ []) q = (x, refl, (let p : expr_in names (rows_of zs d) x ≡ e = cc in p))
  last_place (x ∷ y ∷ xs) q = absurd (omega (arith, ap length q))

  pub all-steps : AreSteps S at items (steps_of (rows_of zs d))
  all-steps =
      let n = last_place d.stack.items one in
      record { end = progress_of zs d; last_place = n.0; recorded = recorded; same = refl; one = n.1; last = last_place-last (progress_of zs d) n.0 (records-sound S at items (progress [] [] []) (progress_of zs d) nothing-sound recorded) n.1 }

  pub last-expr : expr_in names (rows_of zs d) (length (rows_of zs d) - 1) ≡ e
  unfolding last_place all-steps
  last-expr =
      let n = last_place d.stack.items one in
      let l : length (steps_of (rows_of zs d)) ≡ suc n.0 = all-steps.last in
      let m = length-map (rows_of zs d) (λ x. x.step) in
      let is : length (rows_of zs d) - 1 ≡ n.0 = omega (arith, l, m) in
      ap (expr_in names (rows_of zs d)) is ∙ n.2
