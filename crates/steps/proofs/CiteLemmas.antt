-- The step that a citation adds to a table.
use Rattle.steps.proofs.Words.{◌≡◌, ℕ, ◌-◌, ◌<◌, ◌≤◌, List, [], ◌∷◌, ◌++◌, length, map, refl, sym, ◌∙◌, ap, subst, Some, inl, inr, length-map, map-append, Name, Stmt, Expr, Database, stmt_at, before, expr_of, is_assertion, decode, AreBelow, HasAssertion, hypotheses, Carries, IsHypothesis, IsInstance, premises, HasLegalProperties, Item, Cite, below-drop, below-take, State, Cites, RunsItem, below, top, append_cut, length-premises, not_both, halves, length-top, Vec, Global, SymbolRange, symbols_in, Row, expr_in, Follows, from_hypothesis, from_assertion, rows_of, progress_of, IsDraft, AgreesWithRun, CitesStep, TableDraft, some-same}
use Rattle.frame.specs.Substitution.{Images, apply as applied}
use Rattle.verify.specs.Machine.{of_hypothesis, of_assertion}
use Rattle.steps.specs.StepTable.{Step, of_hypothesis as makes_hypothesis, of_assertion as makes_assertion, RecordsItem}
use Rattle.steps.specs.StepTable as table
use Rattle.steps.proofs.PlacingLemmas.{found-draft, found-placed, found-tied, made-draft, made-placed, made-tied}

-- the item was recorded, and the results of the run are the expressions of the rows
abbrev pub IsItemDone : Database → ℕ → List Name → List ℕ → TableDraft → Item → TableDraft → State → Type 0
IsItemDone S at names zs d item new next = IsDraft S at names zs new × RecordsItem S at (progress_of zs d) item (progress_of zs new) × AgreesWithRun names zs new next

-- a citation whose result is in this range
module _ (S : Database) (at : ℕ) (names : List Name) (legal : HasLegalProperties S names) (zs : List ℕ) (d : TableDraft) (is : IsDraft S at names zs d) (label : Name) (st next : State) (tied : AgreesWithRun names zs d st) (run : RunsItem S at st (Cite label) next)
    (range : SymbolRange) (within : (range.start ≤ range.end) × (range.end ≤ length zs)) (gives : decode names (symbols_in zs range) ≡ run.1) (coded : AreBelow (length names) (symbols_in zs range)) where
  -- ---- a hypothesis

  module _ (i : ℕ) (s : Stmt) (carries : Carries S i s label) (active : IsHypothesis S at i s) where
    abbrev h_step : Step
    h_step = record { position = i; taken = [] }

    hypothesis-same : (row : Row) → row.step ≡ h_step → Follows S at names (rows_of zs d) row → decode names row.expr ≡ expr_of s
    hypothesis-same r e (from_hypothesis t active' none is') =
        is' ∙ ap expr_of (some-same (subst (λ x. stmt_at S x.position ≡ Some t) e active'.stands) active.stands)
    hypothesis-same r e (from_assertion t σ fits takes is') =
        let same : t ≡ s = some-same (subst (λ x. stmt_at S x.position ≡ Some t) e fits.stands) active.stands in
        absurd (not_both s active.kind (ap is_assertion (sym same) ∙ fits.assertion))

    -- the result of the run is the hypothesis
    run-hypothesis : (b : List Expr) (f : Expr) → Cites S at label st.stack b f → (st.stack ≡ b) × (f ≡ expr_of s)
    run-hypothesis b f (of_hypothesis j t carries' active' same whole) = (whole, same ∙ ap expr_of (some-same (carries'.stands) (ap (stmt_at S) (legal.once j i t s label carries' carries) ∙ carries.stands)))
    run-hypothesis b f (of_assertion a t σ carries' fits whole gives') =
        let same : t ≡ s = some-same carries'.stands (ap (stmt_at S) (legal.once a i t s label carries' carries) ∙ carries.stands) in
        absurd (not_both s active.kind (ap is_assertion (sym same) ∙ fits.assertion))

    own : (st.stack ≡ run.0) × (run.1 ≡ expr_of s)
    own = run-hypothesis run.0 run.1 run.2

    found-same : (row : Row) → row.step ≡ h_step → Follows S at names (rows_of zs d) row → decode names row.expr ≡ run.1
    found-same r e x = hypothesis-same r e x ∙ sym own.1

    pub hypothesis-cited : (new : TableDraft) → CitesStep d new h_step range → IsItemDone S at names zs d (Cite label) new next
    hypothesis-cited new (inl finds) = (
      found-draft S at names zs d new is h_step run.1 finds found-same,
      (d.stack.items, h_step, finds.place, makes_hypothesis s carries active refl refl, found-placed S at names zs d new is h_step run.1 finds found-same, finds.stack, finds.saved),
      subst (AgreesWithRun names zs new) (sym run.3) (found-tied S at names zs d new is h_step run.1 finds found-same st run.0 (tied.stack ∙ own.0) tied.saved),
    )
    hypothesis-cited new (inr makes) =
        let follows = from_hypothesis s active refl (gives ∙ own.1) in (
          made-draft S at names zs d new is h_step range makes within tt follows coded,
          (d.stack.items, h_step, length d.stored.items, makes_hypothesis s carries active refl refl, made-placed S at names zs d new is h_step range makes within tt follows coded, makes.adds.stack, makes.adds.saved),
          subst (AgreesWithRun names zs new) (sym run.3) (made-tied S at names zs d new is h_step range makes within tt follows coded st run.0 run.1 (tied.stack ∙ own.0) tied.saved gives),
        )

  -- ---- an assertion

  module _ (a : ℕ) (s : Stmt) (carries : Carries S a s label) (has : HasAssertion S a s) (earlier : a < at) (n : ℕ) (n_is : n ≡ length (hypotheses (before S a) s)) (many : n ≤ length d.stack.items) (rest : Vec ℕ Global) (rest_is : rest.items ≡ below n d.stack.items) where
    -- the draft without the results that are taken
    abbrev mid : TableDraft
    mid = record d { stack = rest }

    abbrev f : ℕ → Expr
    f = expr_in names (rows_of zs d)

    mid-draft : IsDraft S at names zs mid
    mid-draft = record {
      inside = is.inside;
      rows = is.rows;
      step_places = is.step_places;
      stack_below = subst (AreBelow (length d.stored.items)) (sym rest_is) (below-take (length d.stored.items) (length d.stack.items - n) d.stack.items is.stack_below);
      saved_below = is.saved_below;
    }

    abbrev a_step : Step
    a_step = record { position = a; taken = top n d.stack.items }

    record Instance : Type 0 where
      images : Images
      fits : IsInstance S at a s images
      front : map f (below n d.stack.items) ≡ run.0
      takes : map f (top n d.stack.items) ≡ premises S a s images
      is_applied : run.1 ≡ applied images (expr_of s)

    -- a citation of this label is one of this assertion, with some images
    instance' : (b : List Expr) (g : Expr) → Cites S at label st.stack b g → (σ : Images) × IsInstance S at a s σ × (st.stack ≡ b ++ premises S a s σ) × (g ≡ applied σ (expr_of s))
    instance' b g (of_hypothesis i t carries' active same whole) =
        let e : t ≡ s = some-same carries'.stands (ap (stmt_at S) (legal.once i a t s label carries' carries) ∙ carries.stands) in
        absurd (not_both t active.kind (ap is_assertion e ∙ has.1))
    instance' b g (of_assertion a' t σ carries' fits whole gives') =
        let i : a' ≡ a = legal.once a' a t s label carries' carries in
        let e : t ≡ s = some-same carries'.stands (ap (stmt_at S) i ∙ carries.stands) in (
          σ,
          subst (λ u. IsInstance S at a u σ) e (subst (λ m. IsInstance S at m t σ) i fits),
          whole ∙ (ap (λ m. b ++ premises S m t σ) i ∙ ap (λ u. b ++ premises S a u σ) e),
          gives' ∙ ap (λ u. applied σ (expr_of u)) e,
        )

    -- the images of the run; the results that remain on the stack, and those that are taken
    instance : Instance
    instance =
        let r = instance' run.0 run.1 run.2 in
        let stack = d.stack.items in
        let whole : map f (below n stack) ++ map f (top n stack) ≡ run.0 ++ premises S a s r.0 = sym (map-append f (below n stack) (top n stack)) ∙ (ap (map f) (sym (halves n stack)) ∙ (tied.stack ∙ r.2)) in
        let lens : length (map f (top n stack)) ≡ length (premises S a s r.0) = length-map (top n stack) f ∙ (length-top n stack many ∙ (n_is ∙ sym (length-premises S a s r.0))) in
        let cut = append_cut (map f (below n stack)) run.0 (map f (top n stack)) (premises S a s r.0) whole lens in
        record { images = r.0; fits = r.1; front = cut.0; takes = cut.1; is_applied = r.3 }

    -- the steps that are taken are in the table
    low_top : AreBelow (length d.stored.items) (top n d.stack.items)
    low_top = below-drop (length d.stored.items) (length d.stack.items - n) d.stack.items is.stack_below

    assertion-same : (row : Row) → row.step ≡ a_step → Follows S at names (rows_of zs d) row → decode names row.expr ≡ run.1
    assertion-same r e (from_hypothesis t active none is') =
        let same : t ≡ s = some-same (subst (λ x. stmt_at S x.position ≡ Some t) e active.stands) has.0 in
        absurd (not_both t active.kind (ap is_assertion same ∙ has.1))
    assertion-same r e (from_assertion t σ fits takes is') =
        let fits1 : IsInstance S at a t σ = subst (λ x. IsInstance S at x.position t σ) e fits in
        let same : t ≡ s = some-same fits1.stands has.0 in
        let fits2 = subst (λ u. IsInstance S at a u σ) same fits1 in
        let takes1 : map f (top n d.stack.items) ≡ premises S a t σ = subst (λ x. map f x.taken ≡ premises S x.position t σ) e takes in
        let takes2 = takes1 ∙ ap (λ u. premises S a u σ) same in
        is' ∙ (ap (λ u. applied σ (expr_of u)) same ∙ (legal.single at a s σ instance.images fits2 instance.fits (sym takes2 ∙ instance.takes) ∙ sym instance.is_applied))

    follows : Follows S at names (rows_of zs d) (record { step = a_step; expr = symbols_in zs range })
    follows = from_assertion s instance.images instance.fits instance.takes (gives ∙ instance.is_applied)

    front : map f rest.items ≡ run.0
    front = ap (map f) rest_is ∙ instance.front

    makes-step : table.IsStepOf S at label d.stack.items (below n d.stack.items) a_step
    makes-step = makes_assertion s carries (record { earlier = earlier; assertion = has.1 }) (length-top n d.stack.items many ∙ n_is) (halves n d.stack.items)

    pub assertion-cited : (new : TableDraft) → CitesStep mid new a_step range → IsItemDone S at names zs d (Cite label) new next
    assertion-cited new (inl finds) = (
      found-draft S at names zs mid new mid-draft a_step run.1 finds assertion-same,
      (below n d.stack.items, a_step, finds.place, makes-step, found-placed S at names zs mid new mid-draft a_step run.1 finds assertion-same, finds.stack ∙ ap (λ b. b ++ finds.place ∷ []) rest_is, finds.saved),
      subst (AgreesWithRun names zs new) (sym run.3) (found-tied S at names zs mid new mid-draft a_step run.1 finds assertion-same st run.0 front tied.saved),
    )
    assertion-cited new (inr makes) = (
      made-draft S at names zs mid new mid-draft a_step range makes within low_top follows coded,
      (below n d.stack.items, a_step, length d.stored.items, makes-step, made-placed S at names zs mid new mid-draft a_step range makes within low_top follows coded, makes.adds.stack ∙ ap (λ b. b ++ length d.stored.items ∷ []) rest_is, makes.adds.saved),
      subst (AgreesWithRun names zs new) (sym run.3) (made-tied S at names zs mid new mid-draft a_step range makes within low_top follows coded st run.0 run.1 front tied.saved gives),
    )
