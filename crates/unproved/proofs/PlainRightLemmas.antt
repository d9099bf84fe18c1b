-- A derivation is also one among statements that differ only in which assertions are `$a` and which
-- are `$p`.
use Rattle.unproved.proofs.Words.{◌≡◌, ℕ, IsTrue, List, [], ◌∷◌, map, Option, Some, None, option_map, unwrap_or, refl, list_all, ◌∙◌, ap, sym, subst, Name, Expr, before, expr_of, is_active, is_assertion, is_variable, label_of, stmt_at, Carries, IsHypothesis, IsInstance, expr_at, is_hypothesis_kind, option_expr, premises, are_groups_disjoint, hypotheses, mandatory_groups, Item, Concludes, ConcludeAll, Derivation, Derivations, hyp, apply, more, label_or_empty, IsRight, Spells, SpellsAll, cites_hypothesis, cites_assertion, recalls, marks, spells_none, spells_more, some-same, as_axiom}
use Rattle.mm_read.specs.declared.stmt.Stmt.{Stmt}
use Rattle.mm_read.specs.Statements.{Database}
use Rattle.frame.specs.Substitution.{Images, apply as applied}
use Rattle.verify.specs.Proves.{mandatory_labels}
use Rattle.unproved.proofs.PlainLemmas.{active_at-plains, are_variables, before-plains, disjoint-plains, hypotheses-plains, mandatory-plains, plain-same, plains, stmt_at-plains}

-- a statement that is the same but for its kind
abbrev IsThere : Option Stmt → Stmt → Type 0
IsThere o s = (t : Stmt) × (o ≡ Some t) × (as_axiom t ≡ as_axiom s)

there : (o : Option Stmt) (s : Stmt) → option_map as_axiom o ≡ Some (as_axiom s) → IsThere o s
there None s e = cc
there (Some t) s e = let here : Some (as_axiom t) ≡ Some (as_axiom t) = refl in (t, refl, some-same here e)

-- a function that does not depend on the kind is the same for both statements
alike : {A : Type 0} (f : Stmt → A) → ((s : Stmt) → f (as_axiom s) ≡ f s) → (t s : Stmt) → as_axiom t ≡ as_axiom s → f s ≡ f t
alike f h t s e = sym (h s) ∙ (ap f (sym e) ∙ h t)

label-plain : (s : Stmt) → label_of (as_axiom s) ≡ label_of s
label-plain s = plain-same label_of (λ l e p. refl) s

expr-plain : (s : Stmt) → expr_of (as_axiom s) ≡ expr_of s
expr-plain s = plain-same expr_of (λ l e p. refl) s

option_expr-plain : (o : Option Stmt) → option_expr (option_map as_axiom o) ≡ option_expr o
option_expr-plain None = refl
option_expr-plain (Some s) = expr-plain s

option_label-plain : (o : Option Stmt) → label_or_empty (option_map as_axiom o) ≡ label_or_empty o
option_label-plain None = refl
option_label-plain (Some s) = ap (λ l. unwrap_or l []) (label-plain s)

module _ (S T : Database) (same : plains S ≡ plains T) where
  -- a function that does not depend on the kinds is the same for both lists of statements
  both : {A : Type 0} (f : Database → A) → ((U : Database) → f (plains U) ≡ f U) → f S ≡ f T
  both f h = sym (h S) ∙ (ap f same ∙ h T)

  pub before-same : (at : ℕ) → plains (before S at) ≡ plains (before T at)
  before-same at = sym (before-plains S at) ∙ (ap (λ U. before U at) same ∙ before-plains T at)

  stands-same : (i : ℕ) (s : Stmt) → stmt_at S i ≡ Some s → IsThere (stmt_at T i) s
  stands-same i s stands =
      there (stmt_at T i) s (sym (stmt_at-plains T i) ∙ (ap (λ U. stmt_at U i) (sym same) ∙ (stmt_at-plains S i ∙ ap (option_map as_axiom) stands)))

  expr-same : (i : ℕ) → expr_at S i ≡ expr_at T i
  expr-same i = both (λ U. expr_at U i) (λ U. ap option_expr (stmt_at-plains U i) ∙ option_expr-plain (stmt_at U i))

  label-same : (i : ℕ) → label_or_empty (stmt_at S i) ≡ label_or_empty (stmt_at T i)
  label-same i = both (λ U. label_or_empty (stmt_at U i)) (λ U. ap label_or_empty (stmt_at-plains U i) ∙ option_label-plain (stmt_at U i))

  module _ (s t : Stmt) (kind : as_axiom t ≡ as_axiom s) where
    hypotheses-same : hypotheses S s ≡ hypotheses T t
    hypotheses-same = sym (hypotheses-plains S s) ∙ ((λ j. hypotheses (same j) (sym kind j)) ∙ hypotheses-plains T t)

    groups-same : mandatory_groups S s ≡ mandatory_groups T t
    groups-same = sym (mandatory-plains S s) ∙ ((λ j. mandatory_groups (same j) (sym kind j)) ∙ mandatory-plains T t)

-- ---- derivations

module _ (S T : Database) (same : plains S ≡ plains T) where
  carries-same : (i : ℕ) (s : Stmt) (label : Name) → (there : IsThere (stmt_at T i) s) → Carries S i s label → Carries T i there.0 label
  carries-same i s label there c = record { stands = there.1; carried = sym (alike label_of label-plain there.0 s there.2) ∙ c.carried }

  premises-same : (a : ℕ) (s t : Stmt) (σ : Images) → as_axiom t ≡ as_axiom s → premises S a s σ ≡ premises T a t σ
  premises-same a s t σ kind = λ j.
      map (λ i. applied σ (expr-same S T same i j)) (hypotheses-same (before S a) (before T a) (before-same S T same a) s t kind j)

  pub labels-same : (at : ℕ) (s t : Stmt) → as_axiom t ≡ as_axiom s → mandatory_labels S at s ≡ mandatory_labels T at t
  labels-same at s t kind = λ j.
      map (λ i. label-same S T same i j) (hypotheses-same (before S at) (before T at) (before-same S T same at) s t kind j)

  module _ (at : ℕ) where
    hypothesis-same : (i : ℕ) (s : Stmt) (there : IsThere (stmt_at T i) s) → IsHypothesis S at i s → IsHypothesis T at i there.0
    hypothesis-same i s there h = record {
      stands = there.1;
      kind = subst IsTrue (alike is_hypothesis_kind (plain-same is_hypothesis_kind (λ l e p. refl)) there.0 s there.2) h.kind;
      active = subst IsTrue (both S T same (λ U. is_active U i at) (λ U. active_at-plains U i at)) h.active;
    }

    instance-same : (a : ℕ) (s : Stmt) (σ : Images) (there : IsThere (stmt_at T a) s) → IsInstance S at a s σ → IsInstance T at a there.0 σ
    instance-same a s σ there h = record {
      earlier = h.earlier;
      stands = there.1;
      assertion = subst IsTrue (alike is_assertion (plain-same is_assertion (λ l e p. refl)) there.0 s there.2) h.assertion;
      of_variables = subst IsTrue
          (λ j. list_all (λ p. both (before S a) (before T a) (before-same S T same a) (λ U. is_variable U p.0) (λ U. are_variables U p.0) j) σ)
          h.of_variables;
      disjoint = subst IsTrue
          (both (before S at) (before T at) (before-same S T same at) (λ U. are_groups_disjoint U σ (mandatory_groups (before S a) s)) (λ U. disjoint-plains U σ (mandatory_groups (before S a) s))
          ∙ ap (are_groups_disjoint (before T at) σ) (groups-same (before S a) (before T a) (before-same S T same a) s there.0 there.2))
          h.disjoint;
    }

    mutual
      concludes-same : (t : Derivation) (e : Expr) → Concludes S at t e → Concludes T at t e
      concludes-same (hyp i) e p =
          let w = stands-same S T same i p.0 p.1.stands in
          (w.0, hypothesis-same i p.0 w p.1, p.2 ∙ alike expr_of expr-plain w.0 p.0 w.2)
      concludes-same (apply a kids) e p =
          let w = stands-same S T same a p.0 p.2.stands in (
            w.0,
            p.1,
            instance-same a p.0 p.1 w p.2,
            subst (ConcludeAll T at kids) (premises-same a p.0 w.0 p.1 w.2) (conclude-all-same kids (premises S a p.0 p.1) p.3),
            p.4 ∙ ap (applied p.1) (alike expr_of expr-plain w.0 p.0 w.2),
          )

      conclude-all-same : (kids : Derivations) (es : List Expr) → ConcludeAll S at kids es → ConcludeAll T at kids es
      conclude-all-same (more t kids) (e ∷ es) p = (concludes-same t e p.0, conclude-all-same kids es p.1)
      conclude-all-same kids es p = p

    mutual
      spells-same : {marked after : List Derivation} {items : List Item} {t : Derivation} {weight : ℕ}
          → Spells S at marked items t after weight → Spells T at marked items t after weight
      spells-same (cites_hypothesis {i = i} {label = label} s e carries active ends) =
          let w = stands-same S T same i s carries.stands in
          cites_hypothesis w.0 e (carries-same i s label w carries) (hypothesis-same i s w active) (concludes-same (hyp i) e ends)
      spells-same (cites_assertion {a = a} {children = kids} s e label front front_weight carries citable ends all whole weighs) =
          let w = stands-same S T same a s carries.stands in
          cites_assertion w.0 e label front front_weight (carries-same a s label w carries)
          (record { earlier = citable.earlier; assertion = subst IsTrue (alike is_assertion (plain-same is_assertion (λ l e p. refl)) w.0 s w.2) citable.assertion })
          (concludes-same (apply a kids) e ends) (spells-all-same all) whole weighs
      spells-same {t = t} (recalls e found ends) = recalls e found (concludes-same t e ends)
      spells-same (marks front between one whole added) = marks front between (spells-same one) whole added

      spells-all-same : {marked after : List Derivation} {items : List Item} {kids : Derivations} {weight : ℕ}
          → SpellsAll S at marked items kids after weight → SpellsAll T at marked items kids after weight
      spells-all-same spells_none = spells_none
      spells-all-same (spells_more first rest between first_weight rest_weight one all whole weighs) =
          spells_more first rest between first_weight rest_weight (spells-same one) (spells-all-same all) whole weighs

    -- a right proof among the first statements is right among the others
    pub right-same : (items : List Item) → IsRight S at items → IsRight T at items
    right-same items (t, d) =
        let w = stands-same S T same at d.stmt d.stands in (
          t,
          record {
            stmt = w.0;
            after = d.after;
            weight = d.weight;
            stands = w.1;
            spelled = spells-same d.spelled;
            concludes = subst (Concludes T at t) (alike expr_of expr-plain w.0 d.stmt w.2) (concludes-same t (expr_of d.stmt) d.concludes);
            light = d.light;
          },
        )
