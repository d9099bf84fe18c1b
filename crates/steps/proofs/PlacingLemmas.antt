-- A step is placed in the table that is built: it is there already, or it is new.
use Rattle.steps.proofs.Words.{◌≡◌, ℕ, ◌+◌, ◌<◌, ◌≤◌, List, [], ◌∷◌, ◌++◌, length, map, slice_get, Some, sym, ◌∙◌, ap, subst, arith, length-append, length-map, map_push, get_or_from_slice_get, slice_get_within, Name, Expr, Database, decode, AreBelow, State, with_result, SymbolRange, symbols_in, Step, IsPlaced, was_there, is_appended, Row, no_row, steps_of, expr_in, Follows, AreRows, row_of, rows_of, key_of, IsDraft, AgreesWithRun, FindsStep, TableDraft, below-push, below-more}
use Rattle.frame.proofs.PositionLemmas.{get-last}
use Rattle.steps.specs.Stored.Drafted as drafted
use Rattle.steps.proofs.DraftRowLemmas.{buffer-snoc, row-at, row-same, exprs-front, rows-snoc, step_places-snoc}

module _ (S : Database) (at : ℕ) (names : List Name) (zs : List ℕ) (d new : TableDraft) (is : IsDraft S at names zs d) where
  abbrev rows : List Row
  rows = rows_of zs d

  -- there are as many rows as placed steps
  count : length rows ≡ length d.stored.items
  count = length-map d.stored.items (row_of zs)

  -- a place of a placed step is the place of a row
  rows_below : (ks : List ℕ) → AreBelow (length d.stored.items) ks → AreBelow (length rows) ks
  rows_below ks b = subst (λ n. AreBelow n ks) (sym count) b

  -- ---- a step that is there already

  module _ (step : Step) (f : Expr) (finds : FindsStep d new step) (gives : (row : Row) → row.step ≡ step → Follows S at names rows row → decode names row.expr ≡ f) where
    -- if the step was found, the rows stay
    same_rows : rows_of zs new ≡ rows
    same_rows = ap (map (row_of zs)) finds.stored

    -- the step is at the place that was found
    at_step : slice_get (steps_of rows) finds.place ≡ Some step
    at_step = is.step_places.there step finds.place finds.found

    -- the place that was found is in the table
    found_low : finds.place < length d.stored.items
    found_low = let l = slice_get_within (steps_of rows) finds.place step at_step in let m = length-map rows (λ r. r.step) in let n = count in omega (arith, l, m, n)

    pub found-draft : IsDraft S at names zs new
    found-draft =
        record {
          inside = subst (drafted.AreInBuffer (length zs)) (sym finds.stored) is.inside;
          rows = subst (AreRows S at names) (sym same_rows) is.rows;
          step_places = subst (λ m. drafted.AreStepPlaces m (steps_of (rows_of zs new))) (sym finds.step_places) (subst (λ r. drafted.AreStepPlaces d.step_places (steps_of r)) (sym same_rows) is.step_places);
          stack_below = subst (λ ps. AreBelow (length ps) new.stack.items) (sym finds.stored) (subst (AreBelow (length d.stored.items)) (sym finds.stack) (below-push (length d.stored.items) d.stack.items finds.place is.stack_below found_low));
          saved_below = subst (λ ps. AreBelow (length ps) new.saved.items) (sym finds.stored) (subst (AreBelow (length d.stored.items)) (sym finds.saved) is.saved_below);
        }

    pub found-placed : IsPlaced (steps_of rows) step (steps_of (rows_of zs new)) finds.place
    found-placed = was_there at_step (ap steps_of same_rows)

    pub found-tied : (st : State) (b : List Expr) → map (expr_in names rows) d.stack.items ≡ b → map (expr_in names rows) d.saved.items ≡ st.saved → AgreesWithRun names zs new (with_result st b f)
    found-tied st b front saved =
        let r = row-at rows finds.place step at_step in
        let e : expr_in names rows finds.place ≡ f = ap (λ x. decode names x.expr) (get_or_from_slice_get rows finds.place r.0 no_row r.1) ∙ gives r.0 r.2 ((is.rows finds.place r.0 r.1).follows) in
        record {
          stack = ap (λ x. map (expr_in names x) new.stack.items) same_rows ∙ (ap (map (expr_in names rows)) finds.stack ∙ (map_push (expr_in names rows) d.stack.items finds.place ∙ (ap (λ x. x ++ expr_in names rows finds.place ∷ []) front ∙ ap (λ x. b ++ x ∷ []) e)));
          saved = ap (λ x. map (expr_in names x) new.saved.items) same_rows ∙ (ap (map (expr_in names rows)) finds.saved ∙ saved);
        }

  -- ---- a new step

  module _ (step : Step) (range : SymbolRange) (makes : drafted.MakesStep d new step range) (within : (range.start ≤ range.end) × (range.end ≤ length zs)) (low_taken : AreBelow (length d.stored.items) step.taken)
      (follows : Follows S at names rows (record { step = step; expr = symbols_in zs range })) (coded : AreBelow (length names) (symbols_in zs range)) where
    abbrev row : Row
    row = record { step = step; expr = symbols_in zs range }

    -- the rows are the earlier ones and the new one
    more_rows : rows_of zs new ≡ rows ++ row ∷ []
    more_rows =
        ap (map (row_of zs)) makes.adds.stored
        ∙ (map_push (row_of zs) d.stored.items makes.made ∙ ap (λ r. rows ++ r ∷ []) (row-same makes.made.position step.position makes.made.taken.items step.taken (symbols_in zs makes.made.range) (symbols_in zs range) makes.is_position makes.is_taken (ap (symbols_in zs) makes.is_range)))

    -- the steps are the earlier ones and the new one
    more_steps : steps_of (rows_of zs new) ≡ steps_of rows ++ step ∷ []
    more_steps = ap steps_of more_rows ∙ map_push (λ r. r.step) rows row

    -- there are as many steps as placed ones
    steps_count : length (steps_of rows) ≡ length d.stored.items
    steps_count = length-map rows (λ r. r.step) ∙ count

    -- there is one more placed step
    longer : length new.stored.items ≡ length d.stored.items + 1
    longer = ap length makes.adds.stored ∙ length-append d.stored.items (makes.made ∷ [])

    -- the new step was at no place
    fresh : (k : ℕ) → slice_get (steps_of rows) k ≡ Some step → ⊥
    fresh k h = let x = is.step_places.all step k h in let y = makes.fresh in cc

    same_key : makes.made.position ∷ makes.made.taken.items ≡ key_of step
    same_key = ap (λ p. p ∷ makes.made.taken.items) makes.is_position ∙ ap (λ t. step.position ∷ t) makes.is_taken

    pub made-draft : IsDraft S at names zs new
    made-draft =
        record {
          inside = subst (drafted.AreInBuffer (length zs)) (sym makes.adds.stored)
              (buffer-snoc (length zs) (length zs) d.stored.items makes.made (omega arith) is.inside (subst (λ r. r.start ≤ r.end) (sym makes.is_range) within.0) (subst (λ r. r.end ≤ length zs) (sym makes.is_range) within.1));
          rows = subst (AreRows S at names) (sym more_rows) (rows-snoc S at names rows row is.rows (rows_below step.taken low_taken) follows coded);
          step_places = subst (drafted.AreStepPlaces new.step_places) (sym more_steps)
              (step_places-snoc d.step_places new.step_places (steps_of rows) step is.step_places makes.fresh (ap (drafted.place_of new.step_places) (sym same_key) ∙ (makes.adds.own ∙ ap Some (sym steps_count)))
              (λ x other. makes.adds.others x (λ e. other (e ∙ same_key))));
          stack_below = subst (AreBelow (length new.stored.items)) (sym makes.adds.stack)
              (below-push (length new.stored.items) d.stack.items (length d.stored.items) (below-more _ _ d.stack.items (let l = longer in omega (arith, l)) is.stack_below) (let l = longer in omega (arith, l)));
          saved_below = subst (AreBelow (length new.stored.items)) (sym makes.adds.saved) (below-more _ _ d.saved.items (let l = longer in omega (arith, l)) is.saved_below);
        }

    pub made-placed : IsPlaced (steps_of rows) step (steps_of (rows_of zs new)) (length d.stored.items)
    made-placed = is_appended fresh (sym steps_count) more_steps

    pub made-tied : (st : State) (b : List Expr) (f : Expr) → map (expr_in names rows) d.stack.items ≡ b → map (expr_in names rows) d.saved.items ≡ st.saved → decode names (symbols_in zs range) ≡ f → AgreesWithRun names zs new (with_result st b f)
    made-tied st b f front saved ends =
        record {
          stack = ap (λ x. map (expr_in names x) new.stack.items) more_rows ∙ (ap (map (expr_in names (rows ++ row ∷ []))) makes.adds.stack
              ∙ (map_push (expr_in names (rows ++ row ∷ [])) d.stack.items (length d.stored.items)
              ∙ (ap (λ x. x ++ expr_in names (rows ++ row ∷ []) (length d.stored.items) ∷ []) (exprs-front names rows row d.stack.items (rows_below d.stack.items is.stack_below) ∙ front)
              ∙ ap (λ x. b ++ x ∷ []) (ap (λ x. decode names x.expr) (get-last rows row (length d.stored.items) no_row (sym count)) ∙ ends))));
          saved = ap (λ x. map (expr_in names x) new.saved.items) more_rows ∙ (ap (map (expr_in names (rows ++ row ∷ []))) makes.adds.saved
              ∙ (exprs-front names rows row d.saved.items (rows_below d.saved.items is.saved_below) ∙ saved));
        }
