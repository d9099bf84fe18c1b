-- The frame collected from the active statements is that of the definition.
use Rattle.frame.proofs.Words.{list_any, flat_map, position_or_len, ◌∙◌, ap, sym, arith, inl, inr, ◌≡◌, ℕ, ◌<◌, ◌≤◌, Bool, true, false, cond, ◌&&◌, ◌||◌, List, [], ◌∷◌, ◌++◌, map, filter, length, refl, Some, None, is_some, nat_lt, or-false, cases_lt, Name, name_eq, has_name, Stmt, Database, Expr, active, disjoint_names, expr_of, is_essential, is_variable, name_at, code_of, has-at, same_name, lt-list_any, has_name-append, FrameParts, is_mandatory, is_hypothesis, hypotheses, active_disjoint_lists, mandatory_groups, has_two_or_more, AreMandatory, is_in_essential, is_needed, mandatory_positions, among, groups_among, fun_ext, as_frame_statement, frame_statements_of, FrameStatement}
use Rattle.mm_read.specs.declared.stmt.Stmt.TheVariants.{Disj, Float, Ess}

-- testing also for a name that is in the list changes nothing
known : (names : List Name) (x y : Name) (b : Bool) → name_eq x y ≡ b → has_name y names ≡ true → has_name x names ≡ (has_name x names || b)
known names x y false e h = sym (or-false (has_name x names))
known names x y true e h = rw (ap (λ z. has_name z names) (same_name x y e) ∙ h)

-- after a name is recorded, exactly this and the earlier names are in the list
pub recorded : (old new : List Name) (x name : Name) (n : ℕ) → name_at new n ≡ name → (n < length old → new ≡ old) → (length old ≤ n → new ≡ old ++ name ∷ [])
    → has_name x new ≡ (has_name x old || name_eq x name)
recorded old new x name n at same more = elim (cases_lt n (length old)) [
  | inl h ↦ ap (has_name x) (same h) ∙ known old x name (name_eq x name) refl (has-at old name n h (ap (λ z. name_at z n) (sym (same h)) ∙ at))
  | inr h ↦ ap (has_name x) (more h) ∙ (has_name-append x old (name ∷ []) ∙ ap (λ b. has_name x old || b) (or-false (name_eq x name)))
]

-- the variables of one more `$e` are recorded
pub recorded-more : (u v a r : Bool) → ((u || (v && a)) || (v && r)) ≡ (u || (v && (a || r)))
recorded-more u v a r = grind arith

any-standing : (x : Name) (es : List (ℕ × Stmt))
    → list_any (is_in_essential x) (flat_map (λ p. as_frame_statement p.0 p.1) es) ≡ list_any (λ p. is_essential p.1 && has_name x (expr_of p.1)) es
any-standing x [] = refl
any-standing x ((at, Ess label expr) ∷ es) = ap (λ b. has_name x expr || b) (any-standing x es)
any-standing x ((at, t) ∷ es) = any-standing x es

-- the mandatory variables are the recorded ones of the assertion, and those of the `$e` that are
-- not yet visited
pub recorded-start : (S : Database) (s : Stmt) (x : Name)
    → ((false || (is_variable S x && has_name x (expr_of s))) || (is_variable S x && list_any (is_in_essential x) (frame_statements_of S))) ≡ is_mandatory S s x
recorded-start S s x =
    recorded-more false (is_variable S x) (has_name x (expr_of s)) (list_any (is_in_essential x) (frame_statements_of S))
    ∙ ap (λ b. is_variable S x && (has_name x (expr_of s) || b)) (any-standing x (active S))

-- ---- the parts of the frame

required-all : (S : Database) (s : Stmt) (used : List Name) → AreMandatory S s used → (es : List (ℕ × Stmt))
    → mandatory_positions used (flat_map (λ p. as_frame_statement p.0 p.1) es) ≡ map (λ p. p.0) (filter (λ p. is_hypothesis S s p.1) es)
required-all S s used m [] = refl
required-all S s used m ((at, Float label constant variable) ∷ es) =
    rw (m variable) (by (is_mandatory S s variable) (filter (λ (e : FrameStatement). is_needed used e.stmt) (flat_map (λ p. as_frame_statement p.0 p.1) es)) (filter (λ (p : ℕ × Stmt). is_hypothesis S s p.1) es) (required-all S s used m es))
  where
    by : (b : Bool) (xs : List FrameStatement) (ps : List (ℕ × Stmt)) → map (λ (e : FrameStatement). e.at) xs ≡ map (λ (p : ℕ × Stmt). p.0) ps
        → map (λ (e : FrameStatement). e.at) (cond b (record { at = at; stmt = Float label constant variable } ∷ xs) xs)
        ≡ map (λ (p : ℕ × Stmt). p.0) (cond b ((at, Float label constant variable) ∷ ps) ps)
    by true xs ps h = ap (λ qs. at ∷ qs) h
    by false xs ps h = h
required-all S s used m ((at, Ess label expr) ∷ es) = ap (λ ps. at ∷ ps) (required-all S s used m es)
required-all S s used m ((at, t) ∷ es) = required-all S s used m es

pub required-hypotheses : (S : Database) (s : Stmt) (used : List Name) → AreMandatory S s used → mandatory_positions used (frame_statements_of S) ≡ hypotheses S s
required-hypotheses S s used m = required-all S s used m (active S)

pub groups-mandatory : (S : Database) (s : Stmt) (used : List Name) → AreMandatory S s used → groups_among used (frame_statements_of S) ≡ mandatory_groups S s
groups-mandatory S s used m = all (active S) ∙ ap (λ p. filter has_two_or_more (map (filter p) (active_disjoint_lists S))) (fun_ext m)
  where
    all : (es : List (ℕ × Stmt)) → groups_among used (flat_map (λ p. as_frame_statement p.0 p.1) es) ≡ filter has_two_or_more (map (among used) (map (λ p. disjoint_names p.1) es))
    all [] = refl
    all ((at, Disj names) ∷ es) = ap (λ r. cond (has_two_or_more (among used names)) (among used names ∷ r) r) (all es)
    all ((at, t) ∷ es) = all es

pub code-has : (names : List Name) (x : Name) → is_some (code_of names x) ≡ has_name x names
code-has names x = by (nat_lt (position_or_len (name_eq x) names) (length names)) ∙ lt-list_any (name_eq x) names
  where
    by : (b : Bool) → is_some (cond b (Some (position_or_len (name_eq x) names)) None) ≡ b
    by true = refl
    by false = refl

pub same-parts : {ps qs : List ℕ} {gs hs : List (List Name)} {e f : Expr} → ps ≡ qs → gs ≡ hs → e ≡ f
    → (let a : FrameParts = record { hypotheses = ps; groups = gs; conclusion = e } in a) ≡ record { hypotheses = qs; groups = hs; conclusion = f }
same-parts p q r = cc
