-- Proofs found by computation: a function runs over the items and returns a proof for each step.
use Rattle.verify.proofs.Words.{◌≡◌, ℕ, zero, suc, ◌-◌, ◌<◌, ◌≤◌, Bool, true, false, nat_lt, nat_le, List, [], ◌∷◌, ◌++◌, length, Option, Some, None, slice_get, refl, is_some, list_all, sym, ◌∙◌, ap, true≢false, bytes_eq-Decides, ltb-true, leb-true, Name, name_eq, Stmt, Expr, Database, stmt_at, before, is_active, is_variable, is_assertion, label_of, expr_of, hypotheses, mandatory_groups, Images, applied, are_groups_disjoint, Item, Cite, Recall, Mark, is_hypothesis_kind, IsInstance, premises, Carries, State, start, of_hypothesis, of_assertion, with_result, with_mark, RunsItem, Runs, below, top, IsRight, weight_limit}
use Rattle.mm_read.specs.declared.stmt.Stmt.TheVariants.{Float}
use Rattle.verify.proofs.Sound.{sound}

-- ---- tests that return proofs

abbrev pub bind : {A B : Type 0} → Option A → (A → Option B) → Option B
bind None f = None
bind (Some x) f = f x

abbrev pub test : (b : Bool) → Option (b ≡ true)
test true = Some refl
test false = None

abbrev pub look : {A : Type 0} → (o : Option A) → Option ((x : A) × (o ≡ Some x))
look None = None
look (Some x) = Some (x, refl)

abbrev pub less : (m n : ℕ) → Option (m < n)
less m n = bind (test (nat_lt m n)) (λ h. Some (ltb-true m n h))

abbrev pub at_most : (m n : ℕ) → Option (m ≤ n)
at_most m n = bind (test (nat_le m n)) (λ h. Some (leb-true m n h))

abbrev pub same_name : (x y : Name) → Option (x ≡ y)
same_name x y = bind (test (name_eq x y)) (λ h. Some ((bytes_eq-Decides x y).0 h))

-- lists with equal first elements and equal rests are equal
pub cons_same : {A : Type 0} {x y : A} {xs ys : List A} → x ≡ y → xs ≡ ys → x ∷ xs ≡ y ∷ ys
cons_same {x = x} {ys = ys} p q = ap (λ r. x ∷ r) q ∙ ap (λ r. r ∷ ys) p

abbrev pub same_list : {A : Type 0} → ((x y : A) → Option (x ≡ y)) → (xs ys : List A) → Option (xs ≡ ys)
same_list same [] [] = Some refl
same_list same [] (y ∷ ys) = None
same_list same (x ∷ xs) [] = None
same_list same (x ∷ xs) (y ∷ ys) = bind (same x y) (λ p. bind (same_list same xs ys) (λ q. Some (cons_same p q)))

abbrev pub same_exprs : (xs ys : List Expr) → Option (xs ≡ ys)
same_exprs = same_list (same_list same_name)

-- ---- runs

-- the image that the result for a `$f` gives its variable
abbrev pub matched : Option Stmt → Expr → Images
matched (Some (Float label constant variable)) (c ∷ image) = (variable, image) ∷ []
matched o e = []

abbrev pub images : Database → List ℕ → List Expr → Images
images S [] es = []
images S (i ∷ hyps) [] = []
images S (i ∷ hyps) (e ∷ es) = matched (stmt_at S i) e ++ images S hyps es

module _ (S : Database) (at : ℕ) where
  abbrev pub or_else : {A : Type 0} → Option A → Option A → Option A
  or_else None o = o
  or_else (Some x) o = Some x

  abbrev pub Found : Name → Type 0
  Found label = (i : ℕ) × (s : Stmt) × Carries S i s label

  abbrev pub here : (i : ℕ) (label : Name) → Option (Found label)
  here i label =
      bind (look (stmt_at S i)) (λ found.
      bind (look (label_of found.0)) (λ l.
      bind (same_name l.0 label) (λ same.
      Some (i, found.0, record { stands = found.1; carried = l.1 ∙ ap Some same }))))

  abbrev pub find : ℕ → (label : Name) → Option (Found label)
  find zero label = None
  find (suc n) label = or_else (here (suc n) label) (find n label)

  abbrev pub cite_hypothesis : (st : State) (label : Name) → Found label → Option ((next : State) × RunsItem S at st (Cite label) next)
  cite_hypothesis st label found =
      bind (test (is_hypothesis_kind found.1)) (λ kind.
      bind (test (is_active S found.0 at)) (λ active.
      Some (
        with_result st st.stack (expr_of found.1),
        (st.stack, expr_of found.1, of_hypothesis found.0 found.1 found.2 (record { stands = found.2.stands; kind = kind; active = active }) refl refl, refl),
      )))

  abbrev pub cite_assertion : (st : State) (label : Name) → Found label → Option ((next : State) × RunsItem S at st (Cite label) next)
  cite_assertion st label found =
      let hyps = hypotheses (before S found.0) found.1 in
      let rest = below (length hyps) st.stack in
      let σ = images S hyps (top (length hyps) st.stack) in
      let e = applied σ (expr_of found.1) in
      bind (less found.0 at) (λ earlier.
      bind (test (is_assertion found.1)) (λ assertion.
      bind (test (list_all (λ p. is_variable (before S found.0) p.0) σ)) (λ of_variables.
      bind (test (are_groups_disjoint (before S at) σ (mandatory_groups (before S found.0) found.1))) (λ disjoint.
      bind (same_exprs st.stack (rest ++ premises S found.0 found.1 σ)) (λ same.
      let fits : IsInstance S at found.0 found.1 σ = record { earlier = earlier; stands = found.2.stands; assertion = assertion; of_variables = of_variables; disjoint = disjoint } in
      Some (with_result st rest e, (rest, e, of_assertion found.0 found.1 σ found.2 fits same refl, refl)))))))

  abbrev pub step : (st : State) (item : Item) → Option ((next : State) × RunsItem S at st item next)
  step st (Cite label) = bind (find (length S) label) (λ found. or_else (cite_hypothesis st label found) (cite_assertion st label found))
  step st (Recall zero) = None
  step st (Recall (suc k)) = bind (look (slice_get st.saved k)) (λ found. Some (with_result st st.stack found.0, (found.0, found.1, refl)))
  step st Mark =
      bind (look (slice_get st.stack (length st.stack - 1))) (λ last.
      bind (same_exprs st.stack (below 1 st.stack ++ last.0 ∷ [])) (λ same.
      Some (with_mark st last.0, (below 1 st.stack, last.0, same, refl))))

  abbrev pub run : (items : List Item) (st : State) → Option ((end : State) × Runs S at st items end)
  run [] st = Some (st, refl)
  run (item ∷ items) st = bind (step st item) (λ next. bind (run items next.0) (λ end. Some (end.0, (next.0, next.1, end.1))))

  -- a proof that the items are right, if the run over them finds one
  abbrev pub prove : (items : List Item) → Option (IsRight S at items)
  prove items =
      bind (look (stmt_at S at)) (λ found.
      bind (run items start) (λ end.
      bind (same_exprs end.0.stack (expr_of found.0 ∷ [])) (λ one.
      bind (at_most end.0.weight weight_limit) (λ light.
      let p = sound S at items end.0 (expr_of found.0) end.1 one in
      Some (p.tree, record { stmt = found.0; after = p.after; weight = end.0.weight; stands = found.1; spelled = p.spelled; concludes = p.concludes; light = light })))))

-- the value of an option that is not `None`
pub found : {A : Type 0} (o : Option A) → is_some o ≡ true → A
found None h = absurd (true≢false (sym h))
found (Some x) h = x
