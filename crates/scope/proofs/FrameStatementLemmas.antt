-- The active `$f`, `$e` and `$d` after one more statement.
use Rattle.scope.proofs.Words.{◌≡◌, ℕ, suc, ◌+◌, ◌≤◌, Bool, true, false, cond, List, [], ◌∷◌, ◌++◌, length, take, refl, flat_map, ◌∙◌, ap, sym, arith, subst, length-append, append-nil, take_all, flat_map-append, Stmt, Open, Close, Const, Var, Disj, Float, Ess, Axiom, Prove, Database, active, active_from, bare, is_close, stays_open, before_open, as_frame_statement, frame_statements_of, FrameStatement}
use Rattle.scope.proofs.ActiveLemmas.{flat_map-taken}
use Rattle.scope.proofs.BareLemmas.{bare-same}
use Rattle.scope.proofs.StackFollows.{flat_map-close, frame_statements-more}

-- the list after one more statement is the first part of the list before with the statement's
-- entries after it
pub frame_statements-after : (S : Database) (s : Stmt) → take (length (frame_statements_of (S ++ s ∷ []))) (frame_statements_of S ++ as_frame_statement (length S + 1) s) ≡ frame_statements_of (S ++ s ∷ [])
frame_statements-after S s = by (is_close s) refl
  where
    next : (n : ℕ) → n + 1 ≡ 1 + n
    next n = omega arith

    closed : (t : Stmt) → is_close t ≡ true → t ≡ Close
    closed Close h = refl
    closed Open h = cc
    closed (Const names) h = cc
    closed (Var names) h = cc
    closed (Disj names) h = cc
    closed (Float label constant variable) h = cc
    closed (Ess label expr) h = cc
    closed (Axiom label expr) h = cc
    closed (Prove label expr proof) h = cc

    by : (b : Bool) → is_close s ≡ b → take (length (frame_statements_of (S ++ s ∷ []))) (frame_statements_of S ++ as_frame_statement (length S + 1) s) ≡ frame_statements_of (S ++ s ∷ [])
    by true h = subst (λ (t : Stmt). take (length (frame_statements_of (S ++ t ∷ []))) (frame_statements_of S ++ as_frame_statement (length S + 1) t) ≡ frame_statements_of (S ++ t ∷ [])) (sym (closed s h))
        (ap (λ r. take (length r) (frame_statements_of S ++ [])) (flat_map-close (λ p. as_frame_statement p.0 p.1) S refl)
        ∙ (ap (take (length (flat_map (λ p. as_frame_statement p.0 p.1) (before_open (active S))))) (append-nil (frame_statements_of S))
        ∙ (flat_map-taken (λ p. as_frame_statement p.0 p.1) (active S) ∙ sym (flat_map-close (λ p. as_frame_statement p.0 p.1) S refl))))
    by false h =
        let more : frame_statements_of S ++ as_frame_statement (length S + 1) s ≡ frame_statements_of (S ++ s ∷ []) = ap (λ i. frame_statements_of S ++ as_frame_statement i s) (next (length S)) ∙ sym (frame_statements-more S s h) in
        ap (take (length (frame_statements_of (S ++ s ∷ [])))) more ∙ take_all (length (frame_statements_of (S ++ s ∷ []))) (frame_statements_of (S ++ s ∷ [])) (omega arith)

-- there are at most as many active `$f`, `$e` and `$d` as statements
pub frame_statements-fewer : (S : Database) → length (frame_statements_of S) ≤ length S
frame_statements-fewer S = let one = stand (active S) in let all = active-fewer 1 S in omega (arith, one, all)
  where
    single : (at : ℕ) (s : Stmt) → length (as_frame_statement at s) ≤ 1
    single at Open = omega arith
    single at Close = omega arith
    single at (Const names) = omega arith
    single at (Var names) = omega arith
    single at (Disj names) = omega arith
    single at (Float label constant variable) = omega arith
    single at (Ess label expr) = omega arith
    single at (Axiom label expr) = omega arith
    single at (Prove label expr proof) = omega arith

    stand : (es : List (ℕ × Stmt)) → length (flat_map (λ p. as_frame_statement p.0 p.1) es) ≤ length es
    stand [] = omega arith
    stand (p ∷ es) = let rest = stand es in let one = single p.0 p.1 in let all = length-append (as_frame_statement p.0 p.1) (flat_map (λ (p : ℕ × Stmt). as_frame_statement p.0 p.1) es) in omega (arith, rest, one, all)

    active-fewer : (at : ℕ) (S : Database) → length (active_from at S) ≤ length S
    active-fewer at [] = omega arith
    active-fewer at (s ∷ S) = one (stays_open 0 S) (active-fewer (at + 1) S)
      where
        one : (b : Bool) → length (active_from (at + 1) S) ≤ length S → length (cond b ((at, s) ∷ active_from (at + 1) S) (active_from (at + 1) S)) ≤ suc (length S)
        one true h = omega (arith, h)
        one false h = omega (arith, h)

-- each entry of the list, taken as a statement at its position, gives this entry
pub stands-again : (es : List (ℕ × Stmt)) → flat_map (λ e. as_frame_statement e.at e.stmt) (flat_map (λ p. as_frame_statement p.0 p.1) es) ≡ flat_map (λ p. as_frame_statement p.0 p.1) es
stands-again [] = refl
stands-again (p ∷ es) =
    flat_map-append (λ e. as_frame_statement e.at e.stmt) (as_frame_statement p.0 p.1) (flat_map (λ p. as_frame_statement p.0 p.1) es)
    ∙ (ap (λ r. r ++ flat_map (λ e. as_frame_statement e.at e.stmt) (flat_map (λ p. as_frame_statement p.0 p.1) es)) (once p.0 p.1) ∙ ap (λ r. as_frame_statement p.0 p.1 ++ r) (stands-again es))
  where
    once : (at : ℕ) (s : Stmt) → flat_map (λ (e : FrameStatement). as_frame_statement e.at e.stmt) (as_frame_statement at s) ≡ as_frame_statement at s
    once at Open = refl
    once at Close = refl
    once at (Const names) = refl
    once at (Var names) = refl
    once at (Disj names) = refl
    once at (Float label constant variable) = refl
    once at (Ess label expr) = refl
    once at (Axiom label expr) = refl
    once at (Prove label expr proof) = refl

pub stands-bare : (at : ℕ) (s : Stmt) → as_frame_statement at (bare s) ≡ as_frame_statement at s
stands-bare at s = bare-same (as_frame_statement at) (λ l e p. refl) s
