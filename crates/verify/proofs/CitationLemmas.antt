-- The citation of an assertion when the results are lists of numbers.
use Rattle.verify.proofs.Words.{◌≡◌, ℕ, ◌-◌, ◌<◌, ◌≤◌, Bool, true, false, List, [], ◌++◌, length, map, get_or, slice_get, Some, sym, ◌∙◌, ap, subst, arith, length-append, length-map, map-append, Name, Stmt, Expr, Database, stmt_at, before, expr_of, is_assertion, is_variable, name_at, decode, HasAssertion, mandatory_groups, Images, applied, CodeImages, code_apply, images_of_names, are_groups_disjoint, Carries, IsInstance, premises, HasLegalProperties, Cite, substitution_over_names, Float, IsWellTyped, IsTyped, AreRead, HypothesesMatch, named, AreNamed, RunsItemByNumber, Results, Cites, of_hypothesis, of_assertion, below, top, Adds, some-same, AreOver, MayCite, HasCited, TellsDisjoint, Assertion, ProofContext, IsViewOf, AssertionView}
use Rattle.verify.proofs.LabelTableLemmas.{has_with}
use Rattle.verify.proofs.RequiredHypotheses.{required-lengths}
use Rattle.verify.proofs.CitingLemmas.{of_variables, apply-τ, disjoint-τ, premises-read, premise-typed, fits-agree, conclusion-agrees, disjoint-agrees, read-over}
use Rattle.verify.proofs.Decide.{append_cut, length-premises, not_both}
use Rattle.verify.proofs.ImageLemmas.{only, apply-below, are-codes}
use Rattle.verify.proofs.Named.{named-result, result-named, all-take, all-drop, halves, length-top}

-- the conditions on the stack that hold if a citation of the assertion can give the result f
pub record Meets (S : Database) (names : List Name) (at a : ℕ) (c : AssertionView) (stack : List (List ℕ)) (f : Expr) : Type 0 where
  pub many : length c.hypotheses ≤ length stack
  pub typed : (k x : ℕ) → slice_get c.hypotheses k ≡ Some (Float x) → IsTyped (get_or c.typecodes.now k 0) (get_or (top (length c.hypotheses) stack) k [])
  pub fits : (ρ : CodeImages) → AreRead c.typecodes.now c.hypotheses (top (length c.hypotheses) stack) ρ → HypothesesMatch S (images_of_names names ρ) c.hypotheses (map (decode names) (top (length c.hypotheses) stack))
  pub disjoint : (ρ : CodeImages) → AreRead c.typecodes.now c.hypotheses (top (length c.hypotheses) stack) ρ → (s : Stmt) → stmt_at S a ≡ Some s → are_groups_disjoint (before S at) (images_of_names names ρ) (mandatory_groups (before S a) s) ≡ true
  pub gives : (ρ : CodeImages) → AreRead c.typecodes.now c.hypotheses (top (length c.hypotheses) stack) ρ → f ≡ decode names (code_apply ρ c.conclusion.now)

module _ (S : Database) (names : List Name) (at a : ℕ) (s : Stmt) (c : AssertionView) (legal : HasLegalProperties S names) (bound : IsWellTyped S a s) (is : IsViewOf S names a s c) where
  abbrev n : ℕ
  n = length c.hypotheses

  -- the conclusion with images by number, decoded, is the assertion's expression with the images of
  -- the names
  pub conclusion-named : (ρ : CodeImages) → decode names (code_apply ρ c.conclusion.now) ≡ applied (images_of_names names ρ) (expr_of s)
  conclusion-named ρ = substitution_over_names names ρ c.conclusion.now legal.distinct (are-codes names c.conclusion.now is.conclusion_below) ∙ ap (applied (images_of_names names ρ)) is.conclusion

  -- if a citation can give f, the conditions of `Meets` hold
  meets : (old : Results ℕ) (σ : Images) (b : List Expr) (f : Expr) → AreNamed names old
      → IsInstance S at a s σ → map (decode names) old.stack ≡ b ++ premises S a s σ → f ≡ applied σ (expr_of s) → Meets S names at a c old.stack f
  meets old σ b f an fits whole gives =
      let lp : length (premises S a s σ) ≡ n = length-premises S a s σ ∙ sym (required-lengths S names _ c.typecodes.now c.hypotheses is.numbered_hypotheses).1 in
      let ls = ap length whole in
      let la = length-append b (premises S a s σ) in
      let lm = length-map old.stack (decode names) in
      let many : n ≤ length old.stack = omega (arith, lp, ls, la, lm) in
      let es = top n old.stack in
      let count = length-top n old.stack many in
      let split : map (decode names) (below n old.stack) ++ map (decode names) es ≡ b ++ premises S a s σ = sym (map-append (decode names) (below n old.stack) es) ∙ (ap (map (decode names)) (sym (halves n old.stack)) ∙ whole) in
      let cut : map (decode names) es ≡ premises S a s σ = (append_cut (map (decode names) (below n old.stack)) b (map (decode names) es) (premises S a s σ) split (length-map es (decode names) ∙ (count ∙ sym lp))).1 in
      let low = all-drop (length names) (length old.stack - n) old.stack an.stack_named in
      record {
        many = many;
        typed = premise-typed S names a s legal.distinct bound c.typecodes.now c.hypotheses is.numbered_hypotheses es count low σ fits.of_variables (sym cut);
        fits = λ ρ read. fits-agree S names a s legal.distinct bound c.typecodes.now c.hypotheses is.numbered_hypotheses es count low σ fits.of_variables (sym cut) ρ read;
        disjoint = λ ρ read r there. ap (λ u. are_groups_disjoint (before S at) (images_of_names names ρ) (mandatory_groups (before S a) u)) (some-same there fits.stands)
            ∙ (disjoint-agrees S names a s legal.distinct bound c.typecodes.now c.hypotheses is.numbered_hypotheses es count low σ fits.of_variables (sym cut) ρ read (before S at) ∙ fits.disjoint);
        gives = λ ρ read. gives ∙ (conclusion-agrees S names a s legal.distinct bound c.typecodes.now c.hypotheses is.numbered_hypotheses es count low σ fits.of_variables (sym cut) ρ read ∙ sym (conclusion-named ρ));
      }

  -- each step by the label cites this assertion, so the conditions hold
  pub meets-step : (old : Results ℕ) (label : Name) (b : List Expr) (f : Expr) → AreNamed names old → Carries S a s label → HasAssertion S a s
      → Cites S at label (map (decode names) old.stack) b f → Meets S names at a c old.stack f
  meets-step old label b f an carries has (of_hypothesis i t carries' active same whole) =
      let e : t ≡ s = some-same carries'.stands (ap (stmt_at S) (legal.once i a t s label carries' carries) ∙ carries.stands) in
      absurd (not_both t active.kind (ap is_assertion e ∙ has.1))
  meets-step old label b f an carries has (of_assertion a' t σ carries' fits whole gives) =
      let i : a' ≡ a = legal.once a' a t s label carries' carries in
      let e : t ≡ s = some-same carries'.stands (ap (stmt_at S) i ∙ carries.stands) in
      meets old σ b f an (subst (λ u. IsInstance S at a u σ) e (subst (λ m. IsInstance S at m t σ) i fits))
      (whole ∙ (ap (λ m. b ++ premises S m t σ) i ∙ ap (λ u. b ++ premises S a u σ) e)) (gives ∙ ap (λ u. applied σ (expr_of u)) e)

  goes-assertion : (ok : Bool) (old new : Results ℕ) (label : Name) (ρ : CodeImages) → AreNamed names old → Carries S a s label → HasAssertion S a s → a < at
      → n ≤ length old.stack → AreRead c.typecodes.now c.hypotheses (top n old.stack) ρ → HypothesesMatch S (images_of_names names ρ) c.hypotheses (map (decode names) (top n old.stack))
      → are_groups_disjoint (before S at) (images_of_names names ρ) (mandatory_groups (before S a) s) ≡ true
      → Adds ok old new (below n old.stack) (code_apply ρ c.conclusion.now)
      → RunsItemByNumber ok S at names (Cite label) old new
  goes-assertion true old new label ρ an carries has earlier many read fits disjoint adds =
      let es = top n old.stack in
      let e = code_apply ρ c.conclusion.now in
      let count = length-top n old.stack many in
      let low = all-drop (length names) (length old.stack - n) old.stack an.stack_named in
      let τ = only (is_variable (before S a)) (images_of_names names ρ) in
      let prem : premises S a s τ ≡ map (decode names) es = premises-read S names a s legal.distinct bound c.typecodes.now c.hypotheses is.numbered_hypotheses es count ρ read fits in
      let away : are_groups_disjoint (before S at) τ (mandatory_groups (before S a) s) ≡ true
      = disjoint-τ S names a s legal.distinct bound c.typecodes.now c.hypotheses is.numbered_hypotheses es count ρ read (before S at) (mandatory_groups (before S a) s) ∙ disjoint in
      let whole : map (decode names) old.stack ≡ map (decode names) (below n old.stack) ++ premises S a s τ
      = ap (map (decode names)) (halves n old.stack) ∙ (map-append (decode names) (below n old.stack) es ∙ ap (λ v. map (decode names) (below n old.stack) ++ v) (sym prem)) in
      let gives : decode names e ≡ applied τ (expr_of s) = conclusion-named ρ ∙ sym (apply-τ S names a s legal.distinct bound c.typecodes.now c.hypotheses is.numbered_hypotheses es count ρ read (expr_of s)) in (
        (
          map (decode names) (below n old.stack),
          decode names e,
          of_assertion a s τ carries
              (record { earlier = earlier; stands = has.0; assertion = has.1; of_variables = of_variables S names a s legal.distinct bound c.typecodes.now c.hypotheses is.numbered_hypotheses es count ρ read; disjoint = away }) whole gives,
          ap (named names) adds ∙ named-result names old (below n old.stack) e,
        ),
        subst (AreNamed names) (sym adds) (result-named names old (below n old.stack) e an (all-take (length names) (length old.stack - n) old.stack an.stack_named)
            (apply-below names ρ c.conclusion.now (read-over S names a s legal.distinct bound c.typecodes.now c.hypotheses is.numbered_hypotheses es count ρ read low) is.conclusion_below)),
      )
  goes-assertion false old new label ρ an carries has earlier many read fits disjoint heavy = λ next p.
      let m = meets-step old label p.0 p.1 an carries has p.2 in
      let l = ap length (m.gives ρ read) ∙ length-map (code_apply ρ c.conclusion.now) (name_at names) in
      let w = ap (λ v. v.weight) p.3 in
      omega (arith, heavy, l, w)

  goes-not : (old new : Results ℕ) (label : Name) → AreNamed names old → Carries S a s label → HasAssertion S a s
      → ((f : Expr) → Meets S names at a c old.stack f → ⊥) → RunsItemByNumber false S at names (Cite label) old new
  goes-not old new label an carries has none = λ next p. absurd (none p.1 (meets-step old label p.0 p.1 an carries has p.2))

-- the lemmas above, from the conditions under which the code cites (`MayCite`)
module _ (t : ProofContext) (a : ℕ) (old : Results ℕ) (may : MayCite t a old) (c : AssertionView) (cited : (s : Stmt) → stmt_at t.frames.now.statements a ≡ Some s → IsViewOf t.frames.now.statements t.frames.now.names a s c) where
  abbrev count : ℕ
  count = length c.hypotheses

  pub over-read : (ρ : CodeImages) → count ≤ length old.stack → AreRead c.typecodes.now c.hypotheses (top count old.stack) ρ → AreOver t.frames.now.names ρ
  over-read ρ many read =
      read-over t.frames.now.statements t.frames.now.names a may.assertion.0 may.ready.legal.distinct (may.ready.legal.well_typed a may.assertion.0 may.assertion.1) c.typecodes.now c.hypotheses (cited may.assertion.0 may.assertion.1.0).numbered_hypotheses
      (top count old.stack) (length-top count old.stack many) ρ read (all-drop (length t.frames.now.names) (length old.stack - count) old.stack may.named.stack_named)

  pub has-cited : (ok : Bool) (new : Results ℕ) (ρ : CodeImages) → count ≤ length old.stack → AreRead c.typecodes.now c.hypotheses (top count old.stack) ρ
      → HypothesesMatch t.frames.now.statements (images_of_names t.frames.now.names ρ) c.hypotheses (map (decode t.frames.now.names) (top count old.stack))
      → TellsDisjoint t a ρ true
      → Adds ok old new (below count old.stack) (code_apply ρ c.conclusion.now) → HasCited t.frames.now.statements t.at t.frames.now.names (Assertion a) old new ok
  has-cited ok new ρ many read fits disjoint adds = λ label is.
      let has = has_with t.frames.now.statements a is.0 may.assertion.0 label is.1 may.assertion.1 in
      goes-assertion t.frames.now.statements t.frames.now.names t.at a is.0 c may.ready.legal (may.ready.legal.well_typed a is.0 has) (cited is.0 is.1.stands) ok old new label ρ may.named is.1 has may.earlier many read fits (sym (disjoint is.0 is.1.stands)) adds

  pub not-cited : (new : Results ℕ) → ((f : Expr) → Meets t.frames.now.statements t.frames.now.names t.at a c old.stack f → ⊥) → HasCited t.frames.now.statements t.at t.frames.now.names (Assertion a) old new false
  not-cited new none = λ label is.
      let has = has_with t.frames.now.statements a is.0 may.assertion.0 label is.1 may.assertion.1 in
      goes-not t.frames.now.statements t.frames.now.names t.at a is.0 c may.ready.legal (may.ready.legal.well_typed a is.0 has) (cited is.0 is.1.stands) old new label may.named is.1 has none
