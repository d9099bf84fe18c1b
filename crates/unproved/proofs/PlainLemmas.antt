-- No rule and no frame depends on whether an assertion is a `$a` or a `$p`.
use Rattle.unproved.proofs.Words.{◌≡◌, ℕ, zero, suc, ◌+◌, ◌-◌, ◌==◌, Bool, true, false, not, cond, ◌||◌, ◌&&◌, nat_le, nat_lt, List, [], ◌∷◌, map, filter, take, drop, Some, None, option_map, refl, list_any, list_all, drop-map, take-map, ◌∙◌, ap, slice_get-map, Name, has_name, name_eq, Open, Close, Const, Var, Disj, Float, Ess, Axiom, Prove, Expr, active, active_from, before, count, expr_of, has_float, has_label, is_active, is_close, is_constant, is_essential, is_float_of, is_open, is_variable, label_of, constants, disjoint_names, stays_open, stmt_at, variables, was_label, was_symbol, all_different, broken_rule, end_rule, G1, G2, G3, G4, G5, G6, G7, G8, G9, G10, active_disjoint_lists, hypotheses, is_hypothesis, is_mandatory, is_pair, is_used, mandatory_groups, has_two_or_more, together, Images, image, are_groups_disjoint, as_axiom}
use Rattle.mm_read.specs.declared.stmt.Stmt.{Stmt}
use Rattle.mm_read.specs.Statements.{Database}

-- the statements with a `$a` in place of each `$p`
abbrev pub plains : Database → Database
plains S = map as_axiom S

-- a function that is the same for a `$p` and the `$a` with its label and expression ignores
-- `as_axiom`
pub plain-same : {A : Type 0} (f : Stmt → A) → ((label : Name) (expr : Expr) (proof : List Name) → f (Axiom label expr) ≡ f (Prove label expr proof)) → (s : Stmt) → f (as_axiom s) ≡ f s
plain-same f h (Prove label expr proof) = h label expr proof
plain-same f h Open = refl
plain-same f h Close = refl
plain-same f h (Const names) = refl
plain-same f h (Var names) = refl
plain-same f h (Disj names) = refl
plain-same f h (Float label constant variable) = refl
plain-same f h (Ess label expr) = refl
plain-same f h (Axiom label expr) = refl

any-plains : (p : Stmt → Bool) → ((s : Stmt) → p (as_axiom s) ≡ p s) → (S : Database) → list_any p (plains S) ≡ list_any p S
any-plains p h [] = refl
any-plains p h (s ∷ S) = λ j. h s j || any-plains p h S j

count-plains : (p : Stmt → Bool) → ((s : Stmt) → p (as_axiom s) ≡ p s) → (S : Database) → count p (plains S) ≡ count p S
count-plains p h [] = refl
count-plains p h (s ∷ S) = λ j. cond (h s j) (1 + count-plains p h S j) (count-plains p h S j)

stays_open-plains : (d : ℕ) (S : Database) → stays_open d (plains S) ≡ stays_open d S
stays_open-plains d [] = refl
stays_open-plains d (Open ∷ S) = stays_open-plains (suc d) S
stays_open-plains zero (Close ∷ S) = refl
stays_open-plains (suc d) (Close ∷ S) = stays_open-plains d S
stays_open-plains d (Const names ∷ S) = stays_open-plains d S
stays_open-plains d (Var names ∷ S) = stays_open-plains d S
stays_open-plains d (Disj names ∷ S) = stays_open-plains d S
stays_open-plains d (Float label constant variable ∷ S) = stays_open-plains d S
stays_open-plains d (Ess label expr ∷ S) = stays_open-plains d S
stays_open-plains d (Axiom label expr ∷ S) = stays_open-plains d S
stays_open-plains d (Prove label expr proof ∷ S) = stays_open-plains d S

-- ---- active statements

abbrev plain_at : ℕ × Stmt → ℕ × Stmt
plain_at p = (p.0, as_axiom p.1)

active-plains : (at : ℕ) (S : Database) → active_from at (plains S) ≡ map plain_at (active_from at S)
active-plains at [] = refl
active-plains at (s ∷ S) =
    ap (λ b. cond b ((at, as_axiom s) ∷ active_from (at + 1) (plains S)) (active_from (at + 1) (plains S))) (stays_open-plains 0 S)
    ∙ by (stays_open 0 S) (active-plains (at + 1) S)
  where
    by : (b : Bool) → active_from (at + 1) (plains S) ≡ map plain_at (active_from (at + 1) S)
        → cond b ((at, as_axiom s) ∷ active_from (at + 1) (plains S)) (active_from (at + 1) (plains S)) ≡ map plain_at (cond b ((at, s) ∷ active_from (at + 1) S) (active_from (at + 1) S))
    by true e = ap (λ l. (at, as_axiom s) ∷ l) e
    by false e = e

any-at : (q : Stmt → Bool) → ((s : Stmt) → q (as_axiom s) ≡ q s) → (es : List (ℕ × Stmt)) → list_any (λ p. q p.1) (map plain_at es) ≡ list_any (λ p. q p.1) es
any-at q h [] = refl
any-at q h (p ∷ es) = λ j. h p.1 j || any-at q h es j

any-active : (q : Stmt → Bool) → ((s : Stmt) → q (as_axiom s) ≡ q s) → (S : Database) → list_any (λ p. q p.1) (active (plains S)) ≡ list_any (λ p. q p.1) (active S)
any-active q h S = ap (list_any (λ p. q p.1)) (active-plains 1 S) ∙ any-at q h (active S)

map-at : {A : Type 0} (f : Stmt → A) → ((s : Stmt) → f (as_axiom s) ≡ f s) → (es : List (ℕ × Stmt)) → map (λ p. f p.1) (map plain_at es) ≡ map (λ p. f p.1) es
map-at f h [] = refl
map-at f h (p ∷ es) = λ j. h p.1 j ∷ map-at f h es j

-- the positions of the statements that pass a test
positions-at : (g : Stmt → Bool) → ((s : Stmt) → g (as_axiom s) ≡ g s) → (es : List (ℕ × Stmt))
    → map (λ p. p.0) (filter (λ p. g p.1) (map plain_at es)) ≡ map (λ p. p.0) (filter (λ p. g p.1) es)
positions-at g h [] = refl
positions-at g h (p ∷ es) =
    ap (λ b. map (λ q. q.0) (cond b (plain_at p ∷ filter (λ q. g q.1) (map plain_at es)) (filter (λ q. g q.1) (map plain_at es)))) (h p.1)
    ∙ by (g p.1) (positions-at g h es)
  where
    by : (b : Bool) → map (λ q. q.0) (filter (λ q. g q.1) (map plain_at es)) ≡ map (λ q. q.0) (filter (λ q. g q.1) es)
        → map (λ (q : ℕ × Stmt). q.0) (cond b (plain_at p ∷ filter (λ q. g q.1) (map plain_at es)) (filter (λ q. g q.1) (map plain_at es)))
        ≡ map (λ (q : ℕ × Stmt). q.0) (cond b (p ∷ filter (λ q. g q.1) es) (filter (λ q. g q.1) es))
    by true e = ap (λ l. p.0 ∷ l) e
    by false e = e

module _ (S : Database) where
  opens : count is_open (plains S) ≡ count is_open S
  opens = count-plains is_open (plain-same is_open (λ l e p. refl)) S

  closes : count is_close (plains S) ≡ count is_close S
  closes = count-plains is_close (plain-same is_close (λ l e p. refl)) S

  symbols : (x : Name) → was_symbol (plains S) x ≡ was_symbol S x
  symbols x = any-plains (λ s. has_name x (constants s) || has_name x (variables s)) (plain-same (λ s. has_name x (constants s) || has_name x (variables s)) (λ l e p. refl)) S

  labels : (x : Name) → was_label (plains S) x ≡ was_label S x
  labels x = any-plains (λ s. has_label x (label_of s)) (plain-same (λ s. has_label x (label_of s)) (λ l e p. refl)) S

  are_constants : (x : Name) → is_constant (plains S) x ≡ is_constant S x
  are_constants x = any-plains (λ s. has_name x (constants s)) (plain-same (λ s. has_name x (constants s)) (λ l e p. refl)) S

  pub are_variables : (x : Name) → is_variable (plains S) x ≡ is_variable S x
  are_variables x = any-active (λ s. has_name x (variables s)) (plain-same (λ s. has_name x (variables s)) (λ l e p. refl)) S

  floats : (x : Name) → has_float (plains S) x ≡ has_float S x
  floats x = any-active (is_float_of x) (plain-same (is_float_of x) (λ l e p. refl)) S

  -- ---- rules

  labelled : (label : Name) (expr : Expr) → broken_rule (plains S) (Axiom label expr) ≡ broken_rule S (Axiom label expr)
  labelled label [] = λ j.
      cond (not (not (labels label j || symbols label j))) (Some G4) None
  labelled label (x ∷ expr) = λ j.
      cond (not (not (labels label j || symbols label j))) (Some G4)
      (cond (not (list_all (λ y. are_constants y j || are_variables y j) (x ∷ expr))) (Some G5)
      (cond (not (are_constants x j)) (Some G6)
      (cond (not (list_all (λ y. not (are_variables y j) || floats y j) (x ∷ expr))) (Some G9) None)))

  rule-plains : (s : Stmt) → broken_rule (plains S) s ≡ broken_rule S s
  rule-plains Open = refl
  rule-plains Close = λ j. cond (not (nat_lt (closes j) (opens j))) (Some G10) None
  rule-plains (Const names) = λ j.
      cond (not (opens j == closes j)) (Some G1)
      (cond (not (list_all (λ x. not (symbols x j || labels x j)) names && all_different names)) (Some G2) None)
  rule-plains (Var names) = λ j.
      cond (not (list_all (λ x. not (are_variables x j || are_constants x j || labels x j)) names && all_different names)) (Some G3) None
  rule-plains (Disj names) = λ j. cond (not (all_different names && list_all (λ x. are_variables x j) names)) (Some G8) None
  rule-plains (Float label constant variable) = λ j.
      cond (not (not (labels label j || symbols label j))) (Some G4)
      (cond (not (list_all (λ y. are_constants y j || are_variables y j) (constant ∷ variable ∷ []))) (Some G5)
      (cond (not (are_constants constant j)) (Some G6)
      (cond (not (are_variables variable j && not (floats variable j))) (Some G7) None)))
  rule-plains (Ess label expr) = labelled label expr
  rule-plains (Axiom label expr) = labelled label expr
  rule-plains (Prove label expr proof) = labelled label expr

  -- a statement breaks the same rule if each `$p` is replaced with a `$a`, in it and before it
  pub broken_rule-plains : (s : Stmt) → broken_rule (plains S) (as_axiom s) ≡ broken_rule S s
  broken_rule-plains s = rule-plains (as_axiom s) ∙ plain-same (broken_rule S) (λ l e p. refl) s

  pub end_rule-plains : end_rule (plains S) ≡ end_rule S
  end_rule-plains = λ j. cond (opens j == closes j) None (Some G10)

  -- ---- frames

  groups-plains : active_disjoint_lists (plains S) ≡ active_disjoint_lists S
  groups-plains = ap (map (λ p. disjoint_names p.1)) (active-plains 1 S) ∙ map-at disjoint_names (plain-same disjoint_names (λ l e p. refl)) (active S)

  pub are_pairs : (x y : Name) → is_pair (plains S) x y ≡ is_pair S x y
  are_pairs x y = ap (λ g. together g x y) groups-plains

  module _ (s : Stmt) where
    are_used : (x : Name) → is_used (plains S) (as_axiom s) x ≡ is_used S s x
    are_used x = λ j.
        has_name x (plain-same expr_of (λ l e p. refl) s j)
        || any-active (λ t. is_essential t && has_name x (expr_of t)) (plain-same (λ t. is_essential t && has_name x (expr_of t)) (λ l e p. refl)) S j

    are_mandatory : (x : Name) → is_mandatory (plains S) (as_axiom s) x ≡ is_mandatory S s x
    are_mandatory x = λ j. are_variables x j && are_used x j

    test-same : (t : Stmt) → is_hypothesis (plains S) (as_axiom s) t ≡ is_hypothesis S s t
    test-same (Ess label expr) = refl
    test-same (Float label constant variable) = are_mandatory variable
    test-same Open = refl
    test-same Close = refl
    test-same (Const names) = refl
    test-same (Var names) = refl
    test-same (Disj names) = refl
    test-same (Axiom label expr) = refl
    test-same (Prove label expr proof) = refl

    pub hypotheses-plains : hypotheses (plains S) (as_axiom s) ≡ hypotheses S s
    hypotheses-plains =
        (λ j. map (λ p. p.0) (filter (λ p. test-same p.1 j) (active (plains S))))
        ∙ (ap (λ es. map (λ p. p.0) (filter (λ p. is_hypothesis S s p.1) es)) (active-plains 1 S)
        ∙ positions-at (is_hypothesis S s) (plain-same (is_hypothesis S s) (λ l e p. refl)) (active S))

    pub mandatory-plains : mandatory_groups (plains S) (as_axiom s) ≡ mandatory_groups S s
    mandatory-plains = λ j. filter has_two_or_more (map (filter (λ x. are_mandatory x j)) (groups-plains j))

  pub disjoint-plains : (σ : Images) (gs : List (List Name)) → are_groups_disjoint (plains S) σ gs ≡ are_groups_disjoint S σ gs
  disjoint-plains σ gs = λ j.
      list_all (λ names. list_all (λ x. list_all (λ y.
      name_eq x y || list_all (λ u. list_all (λ v. not (are_variables u j) || not (are_variables v j) || are_pairs u v j) (image σ y)) (image σ x)) names) names) gs

-- ---- positions

pub before-plains : (S : Database) (at : ℕ) → before (plains S) at ≡ plains (before S at)
before-plains S at = take-map as_axiom (at - 1) S

pub active_at-plains : (S : Database) (i j : ℕ) → is_active (plains S) i j ≡ is_active S i j
active_at-plains S i j =
    ap (λ U. nat_le 1 i && nat_lt i j && stays_open 0 (take (j - 1 - i) U)) (drop-map as_axiom i S)
    ∙ (ap (λ U. nat_le 1 i && nat_lt i j && stays_open 0 U) (take-map as_axiom (j - 1 - i) (drop i S))
    ∙ ap (λ b. nat_le 1 i && nat_lt i j && b) (stays_open-plains 0 (take (j - 1 - i) (drop i S))))

pub stmt_at-plains : (S : Database) (i : ℕ) → stmt_at (plains S) i ≡ option_map as_axiom (stmt_at S i)
stmt_at-plains S zero = refl
stmt_at-plains S (suc n) = slice_get-map as_axiom S n
