-- The effect of a mark and of a recall on the table that is built.
use Rattle.steps.proofs.Words.{◌≡◌, ℕ, suc, ◌-◌, ◌<◌, List, [], ◌∷◌, ◌++◌, length, map, get_or, slice_get, Some, refl, sym, ◌∙◌, ap, subst, arith, length-append, length-map, map_push, slice_get-get_or, slice_get_within, Name, Expr, Database, AreBelow, Recall, Mark, State, RunsItem, with_result, with_mark, append_cut, get-map, Progress, steps_of, expr_in, AreRows, row_of, rows_of, AreInBuffer, AreStepPlaces, IsDraft, AgreesWithRun, TableDraft, below-push, below-at}
use Rattle.steps.proofs.CiteLemmas.{IsItemDone}

-- a list that is not empty, split before its last element
front-last : (xs : List ℕ) (d : ℕ) → 0 < length xs → (b : List ℕ) × (xs ≡ b ++ get_or xs (length xs - 1) d ∷ [])
front-last [] d h = absurd (omega (arith, h))
front-last (x ∷ []) d h = ([], refl)
front-last (x ∷ y ∷ xs) d h =
    let r = front-last (y ∷ xs) d (omega arith) in
    let e : suc (suc (length xs)) - 1 ≡ suc (suc (length xs) - 1) = omega arith in
    (x ∷ r.0, ap (λ zs. x ∷ zs) r.1 ∙ ap (λ k. x ∷ r.0 ++ get_or (x ∷ y ∷ xs) k d ∷ []) (sym e))

module _ (S : Database) (at : ℕ) (names : List Name) (zs : List ℕ) (d : TableDraft) (is : IsDraft S at names zs d) (st next : State) (tied : AgreesWithRun names zs d st) where
  abbrev f : ℕ → Expr
  f = expr_in names (rows_of zs d)

  pub mark-some : RunsItem S at st Mark next → 0 < length d.stack.items
  mark-some (b, e, whole, goes) =
      let l = ap length (tied.stack ∙ whole) in
      let m = length-map d.stack.items f in
      let a = length-append b (e ∷ []) in
      omega (arith, l, m, a)

  pub recall-there : (k : ℕ) → RunsItem S at st (Recall (suc k)) next → k < length d.saved.items
  recall-there k (e, saved, goes) =
      let l = slice_get_within st.saved k e saved in
      let m = ap length tied.saved in
      let n = length-map d.saved.items f in
      omega (arith, l, m, n)

  -- a draft with the same steps
  module _ (new : TableDraft) (p : ℕ) (same_placed : new.stored.items ≡ d.stored.items) (same_known : new.step_places ≡ d.step_places) where
    same_rows : rows_of zs new ≡ rows_of zs d
    same_rows = ap (map (row_of zs)) same_placed

    draft-same : AreBelow (length d.stored.items) new.stack.items → AreBelow (length d.stored.items) new.saved.items → IsDraft S at names zs new
    draft-same stack saved = record {
      inside = subst (AreInBuffer (length zs)) (sym same_placed) is.inside;
      rows = subst (AreRows S at names) (sym same_rows) is.rows;
      step_places = subst (λ m. AreStepPlaces m (steps_of (rows_of zs new))) (sym same_known) (subst (λ r. AreStepPlaces d.step_places (steps_of r)) (sym same_rows) is.step_places);
      stack_below = subst (λ ps. AreBelow (length ps) new.stack.items) (sym same_placed) stack;
      saved_below = subst (λ ps. AreBelow (length ps) new.saved.items) (sym same_placed) saved;
    }

    tied-same : (to : State) → map f new.stack.items ≡ to.stack → map f new.saved.items ≡ to.saved → AgreesWithRun names zs new to
    tied-same to stack saved = record { stack = ap (λ r. map (expr_in names r) new.stack.items) same_rows ∙ stack; saved = ap (λ r. map (expr_in names r) new.saved.items) same_rows ∙ saved }

    progress-same : (stack saved : List ℕ) → new.stack.items ≡ stack → new.saved.items ≡ saved
        → (let v : Progress = record { steps = steps_of (rows_of zs new); stack = new.stack.items; saved = new.saved.items } in v) ≡ (let v : Progress = record { steps = steps_of (rows_of zs d); stack = stack; saved = saved } in v)
    progress-same stack saved a b =
        ap (λ r. let v : Progress = record { steps = steps_of r; stack = new.stack.items; saved = new.saved.items } in v) same_rows
        ∙ (ap (λ s. let v : Progress = record { steps = steps_of (rows_of zs d); stack = s; saved = new.saved.items } in v) a
        ∙ ap (λ s. let v : Progress = record { steps = steps_of (rows_of zs d); stack = stack; saved = s } in v) b)

    pub marked : (default : ℕ) → RunsItem S at st Mark next → p ≡ get_or d.stack.items (length d.stack.items - 1) default → new.stack.items ≡ d.stack.items → new.saved.items ≡ d.saved.items ++ p ∷ [] → IsItemDone S at names zs d Mark new next
    marked default (b, e, whole, goes) last stack saved =
        let some = mark-some (b, e, whole, goes) in
        let low : p < length d.stored.items = subst (λ k. k < length d.stored.items) (sym last) (below-at (length d.stored.items) d.stack.items (length d.stack.items - 1) default is.stack_below (omega (arith, some))) in
        let w = front-last d.stack.items default some in
        let split : d.stack.items ≡ w.0 ++ p ∷ [] = w.1 ∙ ap (λ k. w.0 ++ k ∷ []) (sym last) in
        let both : map f w.0 ++ f p ∷ [] ≡ b ++ e ∷ [] = sym (map_push f w.0 p) ∙ (ap (map f) (sym split) ∙ (tied.stack ∙ whole)) in
        let cut = append_cut (map f w.0) b (f p ∷ []) (e ∷ []) both refl in
        let one : f p ≡ e = (let x = cut.1 in cc) in (
          draft-same (subst (AreBelow (length d.stored.items)) (sym stack) is.stack_below) (subst (AreBelow (length d.stored.items)) (sym saved) (below-push (length d.stored.items) d.saved.items p is.saved_below low)),
          (w.0, p, split, progress-same d.stack.items (d.saved.items ++ p ∷ []) stack saved),
          subst (AgreesWithRun names zs new) (sym goes)
              (tied-same (with_mark st e) (ap (map f) stack ∙ tied.stack) (ap (map f) saved ∙ (map_push f d.saved.items p ∙ (ap (λ r. r ++ f p ∷ []) tied.saved ∙ ap (λ x. st.saved ++ x ∷ []) one)))),
        )

    pub recalled : (k default : ℕ) → RunsItem S at st (Recall (suc k)) next → k < length d.saved.items → p ≡ get_or d.saved.items k default → new.stack.items ≡ d.stack.items ++ p ∷ [] → new.saved.items ≡ d.saved.items → IsItemDone S at names zs d (Recall (suc k)) new next
    recalled k default (e, saved_e, goes) there is_p stack saved =
        let low : p < length d.stored.items = subst (λ j. j < length d.stored.items) (sym is_p) (below-at (length d.stored.items) d.saved.items k default is.saved_below there) in
        let one : e ≡ f p = get-map f d.saved.items k e (ap (λ s. slice_get s k) tied.saved ∙ saved_e) default ∙ ap f (sym is_p) in (
          draft-same (subst (AreBelow (length d.stored.items)) (sym stack) (below-push (length d.stored.items) d.stack.items p is.stack_below low)) (subst (AreBelow (length d.stored.items)) (sym saved) is.saved_below),
          (p, slice_get-get_or d.saved.items k default there ∙ ap Some (sym is_p), progress-same (d.stack.items ++ p ∷ []) d.saved.items stack saved),
          subst (AgreesWithRun names zs new) (sym goes)
              (tied-same (with_result st st.stack e)
              (ap (map f) stack ∙ (map_push f d.stack.items p ∙ (ap (λ r. r ++ f p ∷ []) tied.stack ∙ ap (λ x. st.stack ++ x ∷ []) (sym one)))) (ap (map f) saved ∙ tied.saved)),
        )
