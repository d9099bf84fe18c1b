-- If items spell a derivation, the machine runs over them and leaves its conclusion on top,
-- whatever lies below.
use Rattle.verify.proofs.Words.{◌≡◌, ℕ, zero, suc, ◌+◌, List, [], ◌∷◌, ◌++◌, length, Some, slice_get, refl, sym, ◌∙◌, ap, subst, append_assoc, append-nil, add_assoc, add-zero, Stmt, Expr, Database, expr_of, Images, applied, Item, Cite, Mark, Derivation, Derivations, hyp, apply, none, more, Concludes, ConcludeAll, IsInstance, premises, Carries, Spells, SpellsAll, cites_hypothesis, cites_assertion, recalls, marks, spells_none, spells_more, State, of_hypothesis, of_assertion, Runs, HasSingleResults, some-same}
use Rattle.verify.proofs.Sound.{AllConclude, conclude_snoc}

module _ (S : Database) (at : ℕ) (single : HasSingleResults S at) where
  -- two instances of an assertion that take the same results have the same conclusion
  pub conclude_instance : (a : ℕ) (s r : Stmt) (σ τ : Images) → s ≡ r → IsInstance S at a s σ → IsInstance S at a r τ → premises S a s σ ≡ premises S a r τ
      → applied σ (expr_of s) ≡ applied τ (expr_of r)
  conclude_instance a s r σ τ same p q e =
      single a s σ τ p (subst (λ v. IsInstance S at a v τ) (sym same) q) (e ∙ ap (λ v. premises S a v τ) (sym same))
      ∙ ap (λ v. applied τ (expr_of v)) same

  mutual
    -- a derivation concludes at most one expression
    pub conclude_same : (t : Derivation) (e f : Expr) → Concludes S at t e → Concludes S at t f → e ≡ f
    conclude_same (hyp i) e f p q = p.2 ∙ (ap expr_of (some-same p.1.stands q.1.stands) ∙ sym q.2)
    conclude_same (apply a children) e f p q =
        p.4 ∙ (conclude_instance a p.0 q.0 p.1 q.1 (some-same p.2.stands q.2.stands) p.2 q.2 (conclude_all_same children (premises S a p.0 p.1) (premises S a q.0 q.1) p.3 q.3) ∙ sym q.4)

    pub conclude_all_same : (children : Derivations) (es fs : List Expr) → ConcludeAll S at children es → ConcludeAll S at children fs → es ≡ fs
    conclude_all_same none [] [] p q = refl
    conclude_all_same none [] (f ∷ fs) p q = absurd q
    conclude_all_same (more t children) (e ∷ es) [] p q = absurd q
    conclude_all_same (more t children) (e ∷ es) (f ∷ fs) p q = ap (λ r. r ∷ es) (conclude_same t e f p.0 q.0) ∙ ap (λ r. f ∷ r) (conclude_all_same children es fs p.1 q.1)
    conclude_all_same children es fs p q = absurd p

  -- ---- runs

  -- a run over the first items and a run over the rest make one run over all items
  pub runs_append : (front rest : List Item) (st mid end : State) → Runs S at st front mid → Runs S at mid rest end → Runs S at st (front ++ rest) end
  runs_append [] rest st mid end p q = subst (λ r. Runs S at r rest end) (sym p) q
  runs_append (item ∷ front) rest st mid end p q = (p.0, p.1, runs_append front rest p.0 mid end p.2 q)

  abbrev pub state : List Expr → List Expr → ℕ → State
  state stack saved weight = record { stack = stack; saved = saved; weight = weight }

  -- the same, for items and an end state that are equal to these
  runs_behind : (front rest items : List Item) (st mid end end' : State) → items ≡ front ++ rest → Runs S at st front mid → Runs S at mid rest end → end ≡ end' → Runs S at st items end'
  runs_behind front rest items st mid end end' whole p q same = subst (λ is. Runs S at st is end') (sym whole) (subst (Runs S at st (front ++ rest)) same (runs_append front rest st mid end p q))

  -- from any stack and any weight, the items push the expression that the derivation concludes
  pub record Result (items : List Item) (t : Derivation) (after : List Derivation) (weight : ℕ) (saved : List Expr) : Type 0 where
    pub result : Expr
    pub saved' : List Expr
    pub concludes : Concludes S at t result
    pub kept : AllConclude S at after saved'
    pub runs : (below : List Expr) (w : ℕ) → Runs S at (state below saved w) items (state (below ++ result ∷ []) saved' (w + weight))

  pub record Results (items : List Item) (children : Derivations) (after : List Derivation) (weight : ℕ) (saved : List Expr) : Type 0 where
    pub results : List Expr
    pub saved' : List Expr
    pub conclude : ConcludeAll S at children results
    pub kept : AllConclude S at after saved'
    pub runs : (below : List Expr) (w : ℕ) → Runs S at (state below saved w) items (state (below ++ results) saved' (w + weight))

  -- if a derivation was saved, its conclusion was saved at the same index
  saved_result : (ts : List Derivation) (es : List Expr) (k : ℕ) (t : Derivation) → AllConclude S at ts es → slice_get ts k ≡ Some t
      → (e : Expr) × (slice_get es k ≡ Some e) × Concludes S at t e
  saved_result [] es k t p h = cc
  saved_result (u ∷ ts) [] k t p h = absurd p
  saved_result (u ∷ ts) (e ∷ es) zero t p h = (e, refl, subst (λ r. Concludes S at r e) (cc) p.0)
  saved_result (u ∷ ts) (e ∷ es) (suc k) t p h = saved_result ts es k t p.1 h

  mutual
    -- COMPLETE: if items spell a derivation, the machine runs over them and pushes its conclusion
    -- on any stack
    pub complete : {marked after : List Derivation} {items : List Item} {t : Derivation} {weight : ℕ} → Spells S at marked items t after weight
        → (saved : List Expr) → AllConclude S at marked saved → Result items t after weight saved
    complete (cites_hypothesis {i = i} s e carries active ends) saved kept =
        record {
          result = e;
          saved' = saved;
          concludes = ends;
          kept = kept;
          runs = λ below w. (state (below ++ e ∷ []) saved (w + length e), (below, e, of_hypothesis i s carries active (ends.2 ∙ ap expr_of (some-same ends.1.stands active.stands)) refl, refl), refl);
        }
    complete {items = items} {weight = weight} (cites_assertion {a = a} {children = children} s e label front front_weight carries citable ends all whole weighs) saved kept =
        let r = complete_all all saved kept in
        let premises_same : r.results ≡ premises S a ends.0 ends.1 = conclude_all_same children r.results (premises S a ends.0 ends.1) r.conclude ends.3 in
        let carries' : Carries S a ends.0 label = subst (λ v. Carries S a v label) (some-same carries.stands ends.2.stands) carries in
        record {
          result = e;
          saved' = r.saved';
          concludes = ends;
          kept = r.kept;
          runs = λ below w.
              runs_behind front (Cite label ∷ []) items (state below saved w) (state (below ++ r.results) r.saved' (w + front_weight)) (state (below ++ e ∷ []) r.saved' (w + front_weight + length e)) (state (below ++ e ∷ []) r.saved' (w + weight)) whole
              (r.runs below w)
              (state (below ++ e ∷ []) r.saved' (w + front_weight + length e), (below, e, of_assertion a ends.0 ends.1 carries' ends.2 (ap (λ es. below ++ es) premises_same) ends.4, refl), refl)
              (ap (state (below ++ e ∷ []) r.saved') (add_assoc w front_weight (length e) ∙ ap (λ v. w + v) (sym weighs)));
        }
    complete {marked} {t = t} (recalls {k = k} e found ends) saved kept =
        let r = saved_result marked saved k t kept found in
        record {
          result = e;
          saved' = saved;
          concludes = ends;
          kept = kept;
          runs = λ below w. (state (below ++ e ∷ []) saved (w + length e), (e, r.1 ∙ ap Some (conclude_same t r.0 e r.2 ends), refl), refl);
        }
    complete {items = items} {t = t} {weight = weight} (marks front before one whole added) saved kept =
        let r = complete one saved kept in
        let marked' = r.saved' ++ r.result ∷ [] in
        record {
          result = r.result;
          saved' = marked';
          concludes = r.concludes;
          kept = subst (λ ts. AllConclude S at ts marked') (sym added) (conclude_snoc S at before t r.saved' r.result r.kept r.concludes);
          runs = λ below w.
              runs_behind front (Mark ∷ []) items (state below saved w) (state (below ++ r.result ∷ []) r.saved' (w + weight)) (state (below ++ r.result ∷ []) marked' (w + weight)) (state (below ++ r.result ∷ []) marked' (w + weight)) whole
              (r.runs below w) (state (below ++ r.result ∷ []) marked' (w + weight), (below, r.result, refl, refl), refl) refl;
        }

    pub complete_all : {marked after : List Derivation} {items : List Item} {children : Derivations} {weight : ℕ} → SpellsAll S at marked items children after weight
        → (saved : List Expr) → AllConclude S at marked saved → Results items children after weight saved
    complete_all spells_none saved kept =
        record { results = []; saved' = saved; conclude = tt; kept = kept; runs = λ below w. ap (λ r. state r saved w) (sym (append-nil below)) ∙ ap (state (below ++ []) saved) (sym (add-zero w)) }
    complete_all {items = items} {weight = weight} (spells_more first rest middle first_weight rest_weight one all whole weighs) saved kept =
        let r = complete one saved kept in
        let q = complete_all all r.saved' r.kept in
        record {
          results = r.result ∷ q.results;
          saved' = q.saved';
          conclude = (r.concludes, q.conclude);
          kept = q.kept;
          runs = λ below w.
              runs_behind first rest items (state below saved w) (state (below ++ r.result ∷ []) r.saved' (w + first_weight)) (state ((below ++ r.result ∷ []) ++ q.results) q.saved' (w + first_weight + rest_weight)) (state (below ++ r.result ∷ q.results) q.saved' (w + weight)) whole
              (r.runs below w) (q.runs (below ++ r.result ∷ []) (w + first_weight))
              (ap (λ es. state es q.saved' (w + first_weight + rest_weight)) (append_assoc below (r.result ∷ []) q.results)
              ∙ ap (state (below ++ r.result ∷ q.results) q.saved') (add_assoc w first_weight rest_weight ∙ ap (λ v. w + v) (sym weighs)));
        }
