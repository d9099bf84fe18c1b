-- The machine of `ReaderStates` stops at the first token that does not fit the statement.
use Rattle.mm_read.proofs.Words.{◌≡◌, ℕ, ◌+◌, ◌-◌, ◌<◌, ◌⊎◌, zero, suc, true, false, cond, List, [], ◌∷◌, ◌++◌, length, Some, None, codes, list_all, option_and_then, sym, ◌∙◌, ap, arith, refl, inl, inr, subst, append_assoc, length-append, append-nil, and_parts, or_parts, Name, name_eq, has_name, is_symbol, is_label, Keyword, Other, IsShapeFault, IsKeyword, BeginsBrokenList, BreaksList}
use Rattle.mm_read.specs.declared.keyword.Keyword.TheVariants.{Open, Close, Const, Var, Disj, Float, Ess, Axiom, Prove}
use Rattle.mm_read.proofs.ReaderStates.{ReaderState, between, labelled, listing, floating, proving, step, go, go-append}
use Rattle.mm_read.proofs.ShapeFaults.{stops_at, ends_inside}

-- ---- the machine stops

-- no token is left, or the machine stops at the next one
abbrev pub Stuck : ReaderState → List Name → Type 0
Stuck p [] = Unit {0}
Stuck p (t ∷ rest) = step p t ≡ None

-- if the machine is inside a statement, and no token is left or it stops at the next one, the fault
-- is there
pub stuck : (tokens done rest : List Name) (p : ReaderState) → tokens ≡ done ++ rest → go between done ≡ Some p → (p ≡ between → ⊥) → Stuck p rest → IsShapeFault tokens (length done + 1)
stuck tokens done [] p whole e inside stop = subst (λ ts. IsShapeFault ts (length done + 1)) (sym (whole ∙ append-nil done)) (ends_inside done p e inside)
stuck tokens done (t ∷ rest) p whole e inside stop = subst (λ ts. IsShapeFault ts (length done + 1)) (sym whole) (stops_at done rest t p e stop)

-- ---- in a list

go-listing_part : (n : ℕ) (ws : List Name) → list_all is_symbol ws ≡ true → go (listing n) ws ≡ Some (listing (n - length ws))
go-listing_part n [] all = ap (λ k. Some (listing k)) (omega arith)
go-listing_part zero (w ∷ ws) all =
    let parts : (is_symbol w ≡ true) × (list_all is_symbol ws ≡ true) = and_parts (is_symbol w) (list_all is_symbol ws) all in
    ap (λ b. option_and_then (λ p. go p ws) (cond b (Some (listing 0)) (cond (name_eq w (codes "$.")) (Some between) None))) parts.0
    ∙ (go-listing_part 0 ws parts.1 ∙ ap (λ k. Some (listing k)) (less ws))
  where
    less : (ws : List Name) → 0 - length ws ≡ 0 - length (w ∷ ws)
    less ws = omega arith
go-listing_part (suc n) (w ∷ ws) all =
    let parts : (is_symbol w ≡ true) × (list_all is_symbol ws ≡ true) = and_parts (is_symbol w) (list_all is_symbol ws) all in
    ap (λ b. option_and_then (λ p. go p ws) (cond b (Some (listing n)) None)) parts.0
    ∙ (go-listing_part n ws parts.1 ∙ ap (λ k. Some (listing k)) (less ws))
  where
    less : (ws : List Name) → n - length ws ≡ suc n - length (w ∷ ws)
    less ws = omega arith

go-proving_part : (n : ℕ) (ws : List Name) → list_all is_symbol ws ≡ true → go (proving n) ws ≡ Some (proving (n - length ws))
go-proving_part n [] all = ap (λ k. Some (proving k)) (omega arith)
go-proving_part zero (w ∷ ws) all =
    let parts : (is_symbol w ≡ true) × (list_all is_symbol ws ≡ true) = and_parts (is_symbol w) (list_all is_symbol ws) all in
    ap (λ b. option_and_then (λ p. go p ws) (cond b (Some (proving 0)) (cond (name_eq w (codes "$=")) (Some (listing 0)) None))) parts.0
    ∙ (go-proving_part 0 ws parts.1 ∙ ap (λ k. Some (proving k)) (less ws))
  where
    less : (ws : List Name) → 0 - length ws ≡ 0 - length (w ∷ ws)
    less ws = omega arith
go-proving_part (suc n) (w ∷ ws) all =
    let parts : (is_symbol w ≡ true) × (list_all is_symbol ws ≡ true) = and_parts (is_symbol w) (list_all is_symbol ws) all in
    ap (λ b. option_and_then (λ p. go p ws) (cond b (Some (proving n)) None)) parts.0
    ∙ (go-proving_part n ws parts.1 ∙ ap (λ k. Some (proving k)) (less ws))
  where
    less : (ws : List Name) → n - length ws ≡ suc n - length (w ∷ ws)
    less ws = omega arith

step-listing_none : (m : ℕ) (t : Name) → is_symbol t ≡ false → (0 < m) ⊎ (name_eq t (codes "$.") ≡ false) → step (listing m) t ≡ None
step-listing_none zero t no_symbol (inl few) = absurd (omega (arith, few))
step-listing_none zero t no_symbol (inr other) = rw (no_symbol, other) refl
step-listing_none (suc m) t no_symbol why = rw no_symbol refl

step-proving_none : (m : ℕ) (t : Name) → is_symbol t ≡ false → (0 < m) ⊎ (name_eq t (codes "$=") ≡ false) → step (proving m) t ≡ None
step-proving_none zero t no_symbol (inl few) = absurd (omega (arith, few))
step-proving_none zero t no_symbol (inr other) = rw (no_symbol, other) refl
step-proving_none (suc m) t no_symbol why = rw no_symbol refl

-- if the list has too few symbols, at least one more is required
fewer : (least : ℕ) (ws : List Name) {P : Type 0} → (length ws < least) ⊎ P → (0 < least - length ws) ⊎ P
fewer least ws (inl few) = inl (omega (arith, few))
fewer least ws (inr other) = inr other

-- the machine stops where a list up to `$.` breaks off
listing_stuck : (least : ℕ) (ws rest : List Name) → BreaksList least (codes "$.") ws rest → Stuck (listing (least - length ws)) rest
listing_stuck least ws [] why = tt
listing_stuck least ws (t ∷ rest) why = step-listing_none (least - length ws) t why.0 (fewer least ws why.1)

-- the machine stops where a list up to `$=` breaks off
proving_stuck : (least : ℕ) (ws rest : List Name) → BreaksList least (codes "$=") ws rest → Stuck (proving (least - length ws)) rest
proving_stuck least ws [] why = tt
proving_stuck least ws (t ∷ rest) why = step-proving_none (least - length ws) t why.0 (fewer least ws why.1)

-- ---- a list that is broken

module _ (done tokens : List Name) (number least : ℕ) (long : number ≡ length done + 1) (token : ℕ) where
  module _ (end : Name) (s : BeginsBrokenList tokens number least end token) where
    -- the tokens split before the one that does not fit
    split : done ++ tokens ≡ (done ++ s.ws) ++ s.rest
    split = ap (λ r. done ++ r) s.whole ∙ sym (append_assoc done s.ws s.rest)

    -- the token that does not fit comes right after those that are done and the symbols
    counted : length (done ++ s.ws) + 1 ≡ token
    counted = omega (arith, s.place, long, length-append done s.ws)

  -- if a list up to `$.` is broken, the fault is where it breaks
  pub list_stops : go between done ≡ Some (listing least) → BeginsBrokenList tokens number least (codes "$.") token → IsShapeFault (done ++ tokens) token
  list_stops e s =
      subst (IsShapeFault (done ++ tokens)) (counted (codes "$.") s)
      (stuck (done ++ tokens) (done ++ s.ws) s.rest (listing (least - length s.ws)) (split (codes "$.") s)
      (go-append between done s.ws ∙ (ap (option_and_then (λ p. go p s.ws)) e ∙ go-listing_part least s.ws s.symbols)) (λ bad. cc) (listing_stuck least s.ws s.rest s.stop))

  -- .. and the same for an expression up to `$=`
  pub expr_stops : go between done ≡ Some (proving least) → BeginsBrokenList tokens number least (codes "$=") token → IsShapeFault (done ++ tokens) token
  expr_stops e s =
      subst (IsShapeFault (done ++ tokens)) (counted (codes "$=") s)
      (stuck (done ++ tokens) (done ++ s.ws) s.rest (proving (least - length s.ws)) (split (codes "$=") s)
      (go-append between done s.ws ∙ (ap (option_and_then (λ p. go p s.ws)) e ∙ go-proving_part least s.ws s.symbols)) (λ bad. cc) (proving_stuck least s.ws s.rest s.stop))

-- ---- in `$f`

pub step-floating_symbol : (m : ℕ) (t : Name) → is_symbol t ≡ false → step (floating (suc m)) t ≡ None
step-floating_symbol m t e = rw e refl

pub step-floating_end : (t : Name) → name_eq t (codes "$.") ≡ false → step (floating 0) t ≡ None
step-floating_end t e = rw e refl

pub go-floating_one : (c : Name) → is_symbol c ≡ true → go (floating 2) (c ∷ []) ≡ Some (floating 1)
go-floating_one c e = rw e refl

pub go-floating_two : (c v : Name) → is_symbol c ≡ true → is_symbol v ≡ true → go (floating 2) (c ∷ v ∷ []) ≡ Some (floating 0)
go-floating_two c v e f = rw (e, f) refl

-- ---- at a keyword

-- a word that is not among some keywords is not the first of them and not among the others
no_keyword : (t k : Name) (ks : List Name) → has_name t (k ∷ ks) ≡ false → (name_eq t k ≡ false) × (has_name t ks ≡ false)
no_keyword t k ks e = or_parts (name_eq t k) (has_name t ks) e

-- after a label the machine stops at each token that is not `$f`, `$e`, `$a` or `$p`
pub key_after_label : (k : Keyword) (t : Name) → IsKeyword k t → (k ≡ Float → ⊥) → (k ≡ Ess → ⊥) → (k ≡ Axiom → ⊥) → (k ≡ Prove → ⊥) → step labelled t ≡ None
key_after_label Open t is no_float no_ess no_axiom no_prove = ap (step labelled) is
key_after_label Close t is no_float no_ess no_axiom no_prove = ap (step labelled) is
key_after_label Const t is no_float no_ess no_axiom no_prove = ap (step labelled) is
key_after_label Var t is no_float no_ess no_axiom no_prove = ap (step labelled) is
key_after_label Disj t is no_float no_ess no_axiom no_prove = ap (step labelled) is
key_after_label Float t is no_float no_ess no_axiom no_prove = absurd (no_float refl)
key_after_label Ess t is no_float no_ess no_axiom no_prove = absurd (no_ess refl)
key_after_label Axiom t is no_float no_ess no_axiom no_prove = absurd (no_axiom refl)
key_after_label Prove t is no_float no_ess no_axiom no_prove = absurd (no_prove refl)
key_after_label Other t is no_float no_ess no_axiom no_prove =
    let p1 = no_keyword t (codes "${") (codes "$}" ∷ codes "$c" ∷ codes "$v" ∷ codes "$d" ∷ codes "$f" ∷ codes "$e" ∷ codes "$a" ∷ codes "$p" ∷ []) is in
    let p2 = no_keyword t (codes "$}") (codes "$c" ∷ codes "$v" ∷ codes "$d" ∷ codes "$f" ∷ codes "$e" ∷ codes "$a" ∷ codes "$p" ∷ []) p1.1 in
    let p3 = no_keyword t (codes "$c") (codes "$v" ∷ codes "$d" ∷ codes "$f" ∷ codes "$e" ∷ codes "$a" ∷ codes "$p" ∷ []) p2.1 in
    let p4 = no_keyword t (codes "$v") (codes "$d" ∷ codes "$f" ∷ codes "$e" ∷ codes "$a" ∷ codes "$p" ∷ []) p3.1 in
    let p5 = no_keyword t (codes "$d") (codes "$f" ∷ codes "$e" ∷ codes "$a" ∷ codes "$p" ∷ []) p4.1 in
    let p6 = no_keyword t (codes "$f") (codes "$e" ∷ codes "$a" ∷ codes "$p" ∷ []) p5.1 in
    let p7 = no_keyword t (codes "$e") (codes "$a" ∷ codes "$p" ∷ []) p6.1 in
    let p8 = no_keyword t (codes "$a") (codes "$p" ∷ []) p7.1 in
    let p9 = no_keyword t (codes "$p") [] p8.1 in
    rw (p6.0, p7.0, p8.0, p9.0) refl

-- between statements it stops at each token that is not `${`, `$}`, `$c`, `$v`, `$d` or a label
pub key_in_front : (k : Keyword) (t : Name) → IsKeyword k t → (k ≡ Open → ⊥) → (k ≡ Close → ⊥) → (k ≡ Const → ⊥) → (k ≡ Var → ⊥) → (k ≡ Disj → ⊥)
    → (k ≡ Other → is_label t ≡ false) → step between t ≡ None
key_in_front Open t is no_open no_close no_const no_var no_disj no_label = absurd (no_open refl)
key_in_front Close t is no_open no_close no_const no_var no_disj no_label = absurd (no_close refl)
key_in_front Const t is no_open no_close no_const no_var no_disj no_label = absurd (no_const refl)
key_in_front Var t is no_open no_close no_const no_var no_disj no_label = absurd (no_var refl)
key_in_front Disj t is no_open no_close no_const no_var no_disj no_label = absurd (no_disj refl)
key_in_front Float t is no_open no_close no_const no_var no_disj no_label = ap (step between) is
key_in_front Ess t is no_open no_close no_const no_var no_disj no_label = ap (step between) is
key_in_front Axiom t is no_open no_close no_const no_var no_disj no_label = ap (step between) is
key_in_front Prove t is no_open no_close no_const no_var no_disj no_label = ap (step between) is
key_in_front Other t is no_open no_close no_const no_var no_disj no_label =
    let p1 = no_keyword t (codes "${") (codes "$}" ∷ codes "$c" ∷ codes "$v" ∷ codes "$d" ∷ codes "$f" ∷ codes "$e" ∷ codes "$a" ∷ codes "$p" ∷ []) is in
    let p2 = no_keyword t (codes "$}") (codes "$c" ∷ codes "$v" ∷ codes "$d" ∷ codes "$f" ∷ codes "$e" ∷ codes "$a" ∷ codes "$p" ∷ []) p1.1 in
    let p3 = no_keyword t (codes "$c") (codes "$v" ∷ codes "$d" ∷ codes "$f" ∷ codes "$e" ∷ codes "$a" ∷ codes "$p" ∷ []) p2.1 in
    let p4 = no_keyword t (codes "$v") (codes "$d" ∷ codes "$f" ∷ codes "$e" ∷ codes "$a" ∷ codes "$p" ∷ []) p3.1 in
    let p5 = no_keyword t (codes "$d") (codes "$f" ∷ codes "$e" ∷ codes "$a" ∷ codes "$p" ∷ []) p4.1 in
    rw (p1.0, p2.0, p3.0, p4.0, p5.0, no_label refl) refl

-- .. so it stops at a token that is neither a keyword nor a label
pub other_in_front : (t : Name) → IsKeyword Other t → is_label t ≡ false → step between t ≡ None
other_in_front t is no_label = key_in_front Other t is (λ e. cc) (λ e. cc) (λ e. cc) (λ e. cc) (λ e. cc) (λ _. no_label)
