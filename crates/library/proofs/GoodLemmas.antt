-- Good statements with a text after them: only the `$p` of the text have to be proved. Those before
-- it stay proved, since a derivation depends on earlier statements only.
use Rattle.library.proofs.Words.{◌≡◌, ℕ, ◌-◌, ◌≤◌, IsTrue, List, ◌∷◌, ◌++◌, length, map, zero, suc, ◌+◌, refl, ◌⊎◌, list_all, sym, ◌∙◌, ap, subst, arith, inl, inr, map-append, length-map, Name, Stmt, Expr, Database, before, is_variable, bare, bares, stmt_at, proof_of, stands-within, hypotheses, mandatory_groups, Carries, IsHypothesis, IsInstance, premises, expr_at, option_expr, Item, Derivation, Derivations, hyp, apply, more, Spells, SpellsAll, cites_hypothesis, cites_assertion, recalls, marks, spells_none, spells_more, IsRight, IsProvable, stmt_stays, Writes, mandatory_labels, label_or_empty, IsProved, are_groups_disjoint, Concludes, ConcludeAll}
use Rattle.frame.specs.Substitution.{Images, apply as applied}
use Rattle.library.proofs.FrontLemmas.{stmt_at-front, before-front, active-later, map-stand, hypotheses-at, stmt_at-after}

-- ---- a derivation at a position stays one when statements are appended

module _ (S T : Database) where
  carries-later : (i : ℕ) (s : Stmt) (label : Name) → Carries S i s label → Carries (S ++ T) i s label
  carries-later i s label c = record { stands = stmt_stays S T i s c.stands; carried = c.carried }

  premises-front : (a : ℕ) (s : Stmt) (σ : Images) → a ≤ length S → premises (S ++ T) a s σ ≡ premises S a s σ
  premises-front a s σ within =
      ap (λ U. map (λ i. applied σ (expr_at (S ++ T) i)) (hypotheses U s)) (before-front S T a within)
      ∙ map-stand S (λ i. applied σ (expr_at (S ++ T) i)) (λ i. applied σ (expr_at S i))
      (λ i h. ap (λ o. applied σ (option_expr o)) (stmt_at-front S T i h)) (hypotheses (before S a) s) (hypotheses-at S a s)

  module _ (at : ℕ) (within : at ≤ length S) where
    hypothesis-later : (i : ℕ) (s : Stmt) → IsHypothesis S at i s → IsHypothesis (S ++ T) at i s
    hypothesis-later i s h = record { stands = stmt_stays S T i s h.stands; kind = h.kind; active = active-later S T i at within h.active }

    instance-later : (a : ℕ) (s : Stmt) (σ : Images) → IsInstance S at a s σ → IsInstance (S ++ T) at a s σ
    instance-later a s σ h =
        let here = sym (before-front S T a (stands-within S a s h.stands).1) in
        record {
          earlier = h.earlier;
          stands = stmt_stays S T a s h.stands;
          assertion = h.assertion;
          of_variables = subst (λ U. IsTrue (list_all (λ p. is_variable U p.0) σ)) here h.of_variables;
          disjoint = subst (λ U. IsTrue (are_groups_disjoint U σ (mandatory_groups (before (S ++ T) a) s))) (sym (before-front S T at within))
              (subst (λ U. IsTrue (are_groups_disjoint (before S at) σ (mandatory_groups U s))) here h.disjoint);
        }

    mutual
      concludes-later : (t : Derivation) (e : Expr) → Concludes S at t e → Concludes (S ++ T) at t e
      concludes-later (hyp i) e p = (p.0, hypothesis-later i p.0 p.1, p.2)
      concludes-later (apply a kids) e p = (
        p.0,
        p.1,
        instance-later a p.0 p.1 p.2,
        subst (ConcludeAll (S ++ T) at kids) (sym (premises-front a p.0 p.1 (stands-within S a p.0 p.2.stands).1)) (conclude-all-later kids (premises S a p.0 p.1) p.3),
        p.4,
      )

      conclude-all-later : (kids : Derivations) (es : List Expr) → ConcludeAll S at kids es → ConcludeAll (S ++ T) at kids es
      conclude-all-later (more t kids) (e ∷ es) p = (concludes-later t e p.0, conclude-all-later kids es p.1)
      conclude-all-later kids es p = p

    mutual
      spells-later : {marked after : List Derivation} {items : List Item} {t : Derivation} {weight : ℕ}
          → Spells S at marked items t after weight → Spells (S ++ T) at marked items t after weight
      spells-later (cites_hypothesis {i = i} {label = label} s e carries active ends) =
          cites_hypothesis s e (carries-later i s label carries) (hypothesis-later i s active) (concludes-later (hyp i) e ends)
      spells-later (cites_assertion {a = a} {children = kids} s e label front front_weight carries citable ends all whole weighs) =
          cites_assertion s e label front front_weight (carries-later a s label carries)
          (record { earlier = citable.earlier; assertion = citable.assertion }) (concludes-later (apply a kids) e ends) (spells-all-later all) whole weighs
      spells-later {t = t} (recalls e found ends) = recalls e found (concludes-later t e ends)
      spells-later (marks front between one whole added) = marks front between (spells-later one) whole added

      spells-all-later : {marked after : List Derivation} {items : List Item} {kids : Derivations} {weight : ℕ}
          → SpellsAll S at marked items kids after weight → SpellsAll (S ++ T) at marked items kids after weight
      spells-all-later spells_none = spells_none
      spells-all-later (spells_more first rest between first_weight rest_weight one all whole weighs) =
          spells_more first rest between first_weight rest_weight (spells-later one) (spells-all-later all) whole weighs

    -- a right proof stays right when statements are appended
    right-later : (items : List Item) → IsRight S at items → IsRight (S ++ T) at items
    right-later items (t, d) = (
      t,
      record {
        stmt = d.stmt;
        after = d.after;
        weight = d.weight;
        stands = stmt_stays S T at d.stmt d.stands;
        spelled = spells-later d.spelled;
        concludes = concludes-later t _ d.concludes;
        light = d.light;
      },
    )

-- ---- the proved theorems

pub provable-later : (S T : Database) (at : ℕ) (s : Stmt) → IsProvable S at s → IsProvable (S ++ T) at s
provable-later S T at s p = record { stands = stmt_stays S T at s p.stands; provable = p.provable }

-- a `$p` of two joined lists is one of the first list or one of the second
pub provable-where : (S T : Database) (at : ℕ) (s : Stmt) → IsProvable (S ++ T) at s
    → ((at ≤ length S) × IsProvable S at s) ⊎ ((n : ℕ) × (at ≡ length S + n) × IsProvable T n s)
provable-where S T at s p = by (at - length S) refl
  where
    by : (n : ℕ) → at - length S ≡ n → ((at ≤ length S) × IsProvable S at s) ⊎ ((n : ℕ) × (at ≡ length S + n) × IsProvable T n s)
    by zero e =
        let within : at ≤ length S = omega (arith, e) in
        inl (within, record { stands = sym (stmt_at-front S T at within) ∙ p.stands; provable = p.provable })
    by (suc n) e =
        let here : at ≡ length S + suc n = omega (arith, e) in
        inr (suc n, here, record { stands = sym (stmt_at-after S T n) ∙ (ap (stmt_at (S ++ T)) (sym here) ∙ p.stands); provable = p.provable })

pub provable-after : (S T : Database) (n : ℕ) (s : Stmt) → IsProvable T n s → IsProvable (S ++ T) (length S + n) s
provable-after S T zero s p = absurd (let e = p.stands in cc)
provable-after S T (suc n) s p = record { stands = stmt_at-after S T n ∙ p.stands; provable = p.provable }

labels-front : (S T : Database) (at : ℕ) (s : Stmt) → at ≤ length S → mandatory_labels (S ++ T) at s ≡ mandatory_labels S at s
labels-front S T at s within =
    ap (λ U. map (λ i. label_or_empty (stmt_at (S ++ T) i)) (hypotheses U s)) (before-front S T at within)
    ∙ map-stand S (λ i. label_or_empty (stmt_at (S ++ T) i)) (λ i. label_or_empty (stmt_at S i))
    (λ i h. ap label_or_empty (stmt_at-front S T i h)) (hypotheses (before S at) s) (hypotheses-at S at s)

-- a proved `$p` stays proved when statements are appended
pub proved-later : (S T : Database) (at : ℕ) → IsProved S at → IsProved (S ++ T) at
proved-later S T at p =
    let within = (stands-within S at p.stmt p.provable.stands).1 in
    let same : bares (S ++ T) ≡ bares S ++ bares T = map-append bare S T in
    let short : at ≤ length (bares S) = subst (λ n. at ≤ n) (sym (length-map S bare)) within in
    record {
      stmt = p.stmt;
      items = p.items;
      provable = provable-later S T at p.stmt p.provable;
      written = subst (λ labels. Writes (proof_of p.stmt) labels p.items) (sym (ap (λ U. mandatory_labels U at p.stmt) same ∙ labels-front (bares S) (bares T) at p.stmt short)) p.written;
      right = subst (λ U. IsRight U at p.items) (sym same) (right-later (bares S) (bares T) at short p.items p.right);
    }
