-- The machine is deterministic, so a run that cannot continue refutes the proof.
use Rattle.verify.proofs.Words.{◌≡◌, ℕ, zero, suc, ◌+◌, ◌<◌, ◌≤◌, true, List, [], ◌∷◌, ◌++◌, length, Some, refl, sym, ◌∙◌, ap, subst, arith, append-nil, length-append, length-map, same_from_push, Name, Stmt, Ess, Expr, Database, stmt_at, before, expr_of, is_assertion, hypotheses, Images, applied, Item, Cite, Recall, Mark, IsHypothesis, IsInstance, premises, is_hypothesis_kind, expr_at, Carries, State, start, Cites, of_hypothesis, of_assertion, IsSaved, with_result, with_mark, RunsItem, Runs, IsRight, weight_limit, HasSingleResults, HasLabelsOnce, some-same}
use Rattle.mm_read.specs.declared.stmt.Stmt.TheVariants.{Float}
use Rattle.verify.proofs.Sound.{Spelled, sound}
use Rattle.verify.proofs.Complete.{state, Result, complete, conclude_instance, conclude_same}

-- if a list is split in two ways, and the second parts have the same length, the splits are the
-- same
pub append_cut : {A : Type 0} (b c x y : List A) → b ++ x ≡ c ++ y → length x ≡ length y → (b ≡ c) × (x ≡ y)
append_cut [] [] x y e l = (refl, e)
append_cut [] (v ∷ c) x y e l = absurd (omega (arith, ap length e, length-append c y, l))
append_cut (u ∷ b) [] x y e l = absurd (omega (arith, ap length e, length-append b x, l))
append_cut {A} (u ∷ b) (v ∷ c) x y e l =
    let typecodes : u ≡ v = cc in
    let tails : b ++ x ≡ c ++ y = cc in
    let r = append_cut b c x y tails l in
    (ap (λ w. w ∷ b) typecodes ∙ ap (λ w. v ∷ w) r.0, r.1)

pub length-premises : (S : Database) (a : ℕ) (s : Stmt) (σ : Images) → length (premises S a s σ) ≡ length (hypotheses (before S a) s)
length-premises S a s σ = length-map (hypotheses (before S a) s) (λ i. applied σ (expr_at S i))

-- no statement is both a hypothesis and an assertion
pub not_both : (s : Stmt) → is_hypothesis_kind s ≡ true → is_assertion s ≡ true → ⊥
not_both (Float l c v) p q = cc
not_both (Ess l e) p q = cc
not_both s p q = cc

module _ (S : Database) (at : ℕ) (single : HasSingleResults S at) (once : HasLabelsOnce S) where
  -- statements that carry the same label are equal
  carried_same : (i j : ℕ) (s r : Stmt) (label : Name) → Carries S i s label → Carries S j r label → s ≡ r
  carried_same i j s r label p q = some-same p.stands (ap (stmt_at S) (once i j s r label p q) ∙ q.stands)

  -- instances of an assertion that take the last results of the same stack leave the same stack and
  -- give the same result
  assertions_same : (a a' : ℕ) (s s' : Stmt) (σ τ : Images) (stack b b' : List Expr) (e e' : Expr) → a ≡ a' → s ≡ s' → IsInstance S at a s σ → IsInstance S at a' s' τ
      → stack ≡ b ++ premises S a s σ → stack ≡ b' ++ premises S a' s' τ → e ≡ applied σ (expr_of s) → e' ≡ applied τ (expr_of s') → (b ≡ b') × (e ≡ e')
  assertions_same a a' s s' σ τ stack b b' e e' same_a same_s fits fits' whole whole' gives gives' =
      let fits'' : IsInstance S at a s' τ = subst (λ i. IsInstance S at i s' τ) (sym same_a) fits' in
      let whole'' : stack ≡ b' ++ premises S a s' τ = whole' ∙ ap (λ i. b' ++ premises S i s' τ) (sym same_a) in
      let cut = append_cut b b' (premises S a s σ) (premises S a s' τ) (sym whole ∙ whole'')
      (length-premises S a s σ ∙ (ap (λ v. length (hypotheses (before S a) v)) same_s ∙ sym (length-premises S a s' τ))) in
      (cut.0, gives ∙ (conclude_instance S at single a s s' σ τ same_s fits fits'' cut.1 ∙ sym gives'))

  -- the label of an active hypothesis is not the label of an assertion that can be cited
  kinds_apart : (i a : ℕ) (s r : Stmt) (label : Name) (σ : Images) → Carries S i s label → IsHypothesis S at i s → Carries S a r label → IsInstance S at a r σ → ⊥
  kinds_apart i a s r label σ p h q f = not_both s h.kind (ap is_assertion (carried_same i a s r label p q) ∙ f.assertion)

  -- the citation of a label determines the stack that is left and the result
  pub cites_same : (label : Name) (stack b b' : List Expr) (e e' : Expr) → Cites S at label stack b e → Cites S at label stack b' e' → (b ≡ b') × (e ≡ e')
  cites_same label stack b b' e e' (of_hypothesis i s carries active same whole) (of_hypothesis i' s' carries' active' same' whole') =
      (sym whole ∙ whole', same ∙ (ap expr_of (carried_same i i' s s' label carries carries') ∙ sym same'))
  cites_same label stack b b' e e' (of_hypothesis i s carries active same whole) (of_assertion a s' σ carries' fits whole' gives) =
      absurd (kinds_apart i a s s' label σ carries active carries' fits)
  cites_same label stack b b' e e' (of_assertion a s σ carries fits whole gives) (of_hypothesis i' s' carries' active' same' whole') =
      absurd (kinds_apart i' a s' s label σ carries' active' carries fits)
  cites_same label stack b b' e e' (of_assertion a s σ carries fits whole gives) (of_assertion a' s' τ carries' fits' whole' gives') =
      assertions_same a a' s s' σ τ stack b b' e e' (once a a' s s' label carries carries') (carried_same a a' s s' label carries carries') fits fits' whole whole' gives gives'

  -- the same result pushed on the same stack gives the same state
  result_same : (st x y : State) (b b' : List Expr) (e e' : Expr) → x ≡ with_result st b e → y ≡ with_result st b' e' → b ≡ b' → e ≡ e' → x ≡ y
  result_same st x y b b' e e' p q r s = p ∙ (ap (λ v. with_result st v e) r ∙ (ap (λ v. with_result st b' v) s ∙ sym q))

  -- a number recalls at most one saved result
  saved_same : (saved : List Expr) (k : ℕ) (e e' : Expr) → IsSaved saved k e → IsSaved saved k e' → e ≡ e'
  saved_same saved zero e e' p q = absurd p
  saved_same saved (suc k) e e' p q = some-same p q

  -- an item has at most one step from a state
  pub steps_same : (st x y : State) (item : Item) → RunsItem S at st item x → RunsItem S at st item y → x ≡ y
  steps_same st x y (Cite label) p q = let r = cites_same label st.stack p.0 q.0 p.1 q.1 p.2 q.2 in result_same st x y p.0 q.0 p.1 q.1 p.3 q.3 r.0 r.1
  steps_same st x y (Recall k) p q = result_same st x y st.stack st.stack p.0 q.0 p.2 q.2 refl (saved_same st.saved k p.0 q.0 p.1 q.1)
  steps_same st x y Mark p q = p.3 ∙ (ap (with_mark st) (same_from_push p.0 q.0 p.1 q.1 (sym p.2 ∙ q.2)).1 ∙ sym q.3)

  -- a run over all items continues from the end of a run over the first ones
  pub runs_rest : (front rest : List Item) (st mid end : State) → Runs S at st (front ++ rest) end → Runs S at st front mid → Runs S at mid rest end
  runs_rest [] rest st mid end p q = subst (λ r. Runs S at r rest end) q p
  runs_rest (item ∷ front) rest st mid end p q =
      runs_rest front rest q.0 mid end (subst (λ r. Runs S at r (front ++ rest) end) (steps_same st p.0 q.0 item p.1 q.1) p.2) q.2

  -- a step never decreases the weight
  pub steps_weight : (st next : State) (item : Item) → RunsItem S at st item next → st.weight ≤ next.weight
  steps_weight st next (Cite label) p = let e = ap (λ r. r.weight) p.3 in omega (arith, e)
  steps_weight st next (Recall k) p = let e = ap (λ r. r.weight) p.2 in omega (arith, e)
  steps_weight st next Mark p = let e = ap (λ r. r.weight) p.3 in omega (arith, e)

  -- a run never decreases the weight
  pub runs_weight : (items : List Item) (st end : State) → Runs S at st items end → st.weight ≤ end.weight
  runs_weight [] st end p = let e = ap (λ r. r.weight) p in omega (arith, e)
  runs_weight (item ∷ items) st end p = let a = steps_weight st p.0 item p.1 in let b = runs_weight items p.0 end p.2 in omega (arith, a, b)

  -- ---- acceptance by the machine

  pub record Accepts (items : List Item) (goal : Expr) : Type 0 where
    pub end : State
    pub runs : Runs S at start items end
    pub one : end.stack ≡ goal ∷ []
    pub light : end.weight ≤ weight_limit

  -- if items are right, the machine runs over them to the statement's expression alone, within the
  -- limit on the weight
  pub right_accepts : (items : List Item) (s : Stmt) → stmt_at S at ≡ Some s → IsRight S at items → Accepts items (expr_of s)
  right_accepts items s stands (t, d) =
      let r : Result S at single items t d.after d.weight [] = complete S at single d.spelled [] tt in
      record {
        end = state S at single (r.result ∷ []) r.saved' (0 + d.weight);
        runs = r.runs [] 0;
        one = ap (λ e. e ∷ []) (conclude_same S at single t r.result (expr_of d.stmt) r.concludes d.concludes ∙ ap expr_of (some-same d.stands stands));
        light = omega (arith, d.light);
      }

  -- items that the machine accepts are right
  pub accepts_right : (items : List Item) (s : Stmt) → stmt_at S at ≡ Some s → Accepts items (expr_of s) → IsRight S at items
  accepts_right items s stands a =
      let p : Spelled S at items (expr_of s) a.end.weight = sound S at items a.end (expr_of s) a.runs a.one in
      (p.tree, record { stmt = s; after = p.after; weight = a.end.weight; stands = stands; spelled = p.spelled; concludes = p.concludes; light = a.light })

  -- ---- the exits of the verifier

  -- if all items were run and the stack is not the statement's expression alone, the items are not
  -- right
  pub refuted_at_end : (items : List Item) (st : State) (s : Stmt) → stmt_at S at ≡ Some s → Runs S at start items st → (st.stack ≡ expr_of s ∷ [] → ⊥) → IsRight S at items → ⊥
  refuted_at_end items st s stands p other right =
      let a : Accepts items (expr_of s) = right_accepts items s stands right in
      let same : st ≡ a.end = runs_rest items [] start st a.end (subst (λ is. Runs S at start is a.end) (sym (append-nil items)) a.runs) p in
      other (ap (λ r. r.stack) same ∙ a.one)

  -- if the next item has no step, or none within the limit on the weight, the items are not right
  pub refuted_at_step : (front rest : List Item) (item : Item) (st : State) (s : Stmt) → stmt_at S at ≡ Some s → Runs S at start front st
      → ((next : State) → RunsItem S at st item next → weight_limit < next.weight) → IsRight S at (front ++ item ∷ rest) → ⊥
  refuted_at_step front rest item st s stands p none right =
      let a : Accepts (front ++ item ∷ rest) (expr_of s) = right_accepts (front ++ item ∷ rest) s stands right in
      let q : Runs S at st (item ∷ rest) a.end = runs_rest front (item ∷ rest) start st a.end a.runs p in
      let heavy = none q.0 q.1 in
      let more = runs_weight rest q.0 a.end q.2 in
      omega (arith, heavy, more, a.light)
