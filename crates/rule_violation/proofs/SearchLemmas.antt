-- Active statements, searched from the end backwards, and the places of names in a list.
use Rattle.rule_violation.proofs.Words.{◌≡◌, ℕ, zero, suc, ◌+◌, ◌-◌, ◌<◌, ◌≤◌, Bool, true, false, not, ◌&&◌, ◌||◌, cond, List, [], ◌∷◌, length, drop, get_or, refl, sym, ◌∙◌, ap, arith, Some, slice_get, add-one, nat_le, Option, None, MatchOption, is_some, or-true, list_any, drop-cons, Stmt, Open, Close, Const, Var, Disj, Float, Ess, Axiom, Prove, Database, stays_open, active_from, ◌==◌, and_parts, slice_get_read, any_passes_from_place, stmt_at, closed_blocks_from, closed_blocks, PassesAt, IsActiveAt}

-- with `d` blocks open before them, statements close only open blocks exactly if `closed_blocks`
-- counts at most `d`
pub stays_open-closed : (d : ℕ) (S : Database) → stays_open d S ≡ nat_le (closed_blocks S) d
stays_open-closed d [] = sym (zero_le d)
  where
    zero_le : (d : ℕ) → nat_le 0 d ≡ true
    zero_le d = grind arith
stays_open-closed d (Open ∷ S) = stays_open-closed (suc d) S ∙ one_less (closed_blocks S) d
  where
    one_less : (n d : ℕ) → nat_le n (suc d) ≡ nat_le (n - 1) d
    one_less n d = grind arith
stays_open-closed zero (Close ∷ S) = sym (none (closed_blocks S))
  where
    none : (n : ℕ) → nat_le (suc n) 0 ≡ false
    none n = grind arith
stays_open-closed (suc d) (Close ∷ S) = stays_open-closed d S ∙ both (closed_blocks S) d
  where
    both : (n d : ℕ) → nat_le n d ≡ nat_le (suc n) (suc d)
    both n d = grind arith
stays_open-closed zero (Const x ∷ S) = stays_open-closed zero S
stays_open-closed (suc d) (Const x ∷ S) = stays_open-closed (suc d) S
stays_open-closed zero (Var x ∷ S) = stays_open-closed zero S
stays_open-closed (suc d) (Var x ∷ S) = stays_open-closed (suc d) S
stays_open-closed zero (Disj x ∷ S) = stays_open-closed zero S
stays_open-closed (suc d) (Disj x ∷ S) = stays_open-closed (suc d) S
stays_open-closed zero (Float l c v ∷ S) = stays_open-closed zero S
stays_open-closed (suc d) (Float l c v ∷ S) = stays_open-closed (suc d) S
stays_open-closed zero (Ess l e ∷ S) = stays_open-closed zero S
stays_open-closed (suc d) (Ess l e ∷ S) = stays_open-closed (suc d) S
stays_open-closed zero (Axiom l e ∷ S) = stays_open-closed zero S
stays_open-closed (suc d) (Axiom l e ∷ S) = stays_open-closed (suc d) S
stays_open-closed zero (Prove l e p ∷ S) = stays_open-closed zero S
stays_open-closed (suc d) (Prove l e p ∷ S) = stays_open-closed (suc d) S

-- a number is at most 0 exactly if it is 0
zero_closed : (n : ℕ) → nat_le n 0 ≡ (n == 0)
zero_closed n = grind arith

-- one more statement in front closes at most one more block
step : (n : ℕ) (s : Stmt) → closed_blocks_from s n ≤ suc n
step n Open = omega arith
step n Close = omega arith
step n (Const x) = omega arith
step n (Var x) = omega arith
step n (Disj x) = omega arith
step n (Float l c v) = omega arith
step n (Ess l e) = omega arith
step n (Axiom l e) = omega arith
step n (Prove l e p) = omega arith

-- with one more statement in front, the closed blocks and the index together stay within the bound
pub closed_few : (n i h k : ℕ) (s : Stmt) → h ≡ i + 1 → n + h ≤ k → closed_blocks_from s n + i ≤ k
closed_few n i h k s e few = omega (arith, step n s, e, few)

module _ (S : Database) (i h : ℕ) (s : Stmt) (closed_later : ℕ) (t : Stmt → Bool) (inside : i < length S) (here : s ≡ get_or S i s) (next : h ≡ i + 1)
    (counts : closed_later ≡ closed_blocks (drop h S)) where
  -- the next index as the successor of this one
  after_is : suc i ≡ h
  after_is = omega (arith, next)

  -- the statements from this one on are this one and those after it
  opened : drop i S ≡ s ∷ drop h S
  opened = drop-cons S i s inside ∙ (ap (λ x. x ∷ drop (suc i) S) (sym here) ∙ ap (λ k. s ∷ drop k S) after_is)

  -- the statement is active exactly if nothing after it closes its block
  stays : stays_open 0 (drop h S) ≡ (closed_later == 0)
  stays = stays_open-closed 0 (drop h S) ∙ (zero_closed (closed_blocks (drop h S)) ∙ ap (λ n. n == 0) (sym counts))

  -- the number of closed blocks, with this statement
  pub closed_on : closed_blocks_from s closed_later ≡ closed_blocks (drop i S)
  closed_on = ap (closed_blocks_from s) counts ∙ ap closed_blocks (sym opened)

  -- a statement that passes the test, and after which no block is closed, is an active one that
  -- passes
  pub found_active : (closed_later == 0 && t s) ≡ true → IsActiveAt S (i + 1) t
  found_active h =
      let parts : ((closed_later == 0) ≡ true) × (t s ≡ true) = and_parts (closed_later == 0) (t s) h in
      record {
        at = record {
          stmt = s;
          is_there = ap (stmt_at S) (add-one i) ∙ slice_get_read S (length S) i s refl inside here;
          passes = parts.1;
        };
        stays = ap (λ k. stays_open 0 (drop k S)) (sym next) ∙ (stays ∙ parts.0);
      }

  -- an active statement from this one on passes exactly if this one does or one after it does
  pub active_back : list_any (λ p. t p.1) (active_from (i + 1) (drop i S)) ≡ ((closed_later == 0 && t s) || list_any (λ p. t p.1) (active_from (h + 1) (drop h S)))
  active_back =
      ap (λ T. list_any (λ p. t p.1) (active_from (i + 1) T)) opened
      ∙ (by (stays_open 0 (drop h S)) (active_from (i + 1 + 1) (drop h S))
      ∙ (ap (λ b. (b && t s) || list_any (λ p. t p.1) (active_from (i + 1 + 1) (drop h S))) stays
      ∙ ap (λ k. (closed_later == 0 && t s) || list_any (λ p. t p.1) (active_from (k + 1) (drop h S))) (sym next)))
    where
      by : (b : Bool) (es : List (ℕ × Stmt)) → list_any (λ p. t p.1) (cond b ((i + 1, s) ∷ es) es) ≡ ((b && t s) || list_any (λ p. t p.1) es)
      by true es = refl
      by false es = refl

  -- if neither this one passes nor one after it, none from this one on does
  pub none_back : list_any (λ p. t p.1) (active_from (h + 1) (drop h S)) ≡ false → (closed_later == 0 && t s) ≡ false → list_any (λ p. t p.1) (active_from (i + 1) (drop i S)) ≡ false
  none_back none not = active_back ∙ (ap (λ b. b || list_any (λ p. t p.1) (active_from (h + 1) (drop h S))) not ∙ none)

-- no statement is left after the end
all_gone : (S : Database) → drop (length S) S ≡ []
all_gone [] = refl
all_gone (s ∷ S) = all_gone S

-- no statement after the end is active
pub none_active : (t : (ℕ × Stmt) → Bool) (S : Database) → list_any t (active_from (length S + 1) (drop (length S) S)) ≡ false
none_active t S = ap (λ T. list_any t (active_from (length S + 1) T)) (all_gone S)

-- no block is closed after the end
pub none_closed : (S : Database) → closed_blocks (drop (length S) S) ≡ 0
none_closed S = ap closed_blocks (all_gone S)

-- a statement that passes the test is found at its position
pub found_at : (S : Database) (i : ℕ) (s : Stmt) (t : Stmt → Bool) → slice_get S i ≡ Some s → t s ≡ true → PassesAt S (i + 1) t
found_at S i s t e passes = record { stmt = s; is_there = ap (stmt_at S) (add-one i) ∙ e; passes = passes }

-- an element of the rest passes exactly if the first does or one after it does
pub rest_is : {A : Type 0} (t : A → Bool) (xs : List A) (i : ℕ) (x : A) → i < length xs → x ≡ get_or xs i x → list_any t (drop i xs) ≡ (t x || list_any t (drop (i + 1) xs))
rest_is t xs i x inside is =
    ap (list_any t) (drop-cons xs i x inside)
    ∙ (ap (λ y. t y || list_any t (drop (suc i) xs)) (sym is) ∙ ap (λ k. t x || list_any t (drop k xs)) (sym (add-one i)))

-- if the first fails the test, an element of the rest passes exactly if one after it does
pub rest_decides : {A : Type 0} (t : A → Bool) (xs : List A) (i : ℕ) (x : A) → i < length xs → x ≡ get_or xs i x → t x ≡ false
    → list_any t (drop i xs) ≡ list_any t (drop (i + 1) xs)
rest_decides t xs i x inside is not = rest_is t xs i x inside is ∙ ap (λ b. b || list_any t (drop (i + 1) xs)) not

-- after the end no element passes
pub rest_empty : {A : Type 0} (t : A → Bool) (xs : List A) (i : ℕ) → length xs ≤ i → list_any t (drop i xs) ≡ false
rest_empty t [] zero h = refl
rest_empty t [] (suc i) h = refl
rest_empty t (x ∷ xs) zero h = absurd (omega (arith, h))
rest_empty t (x ∷ xs) (suc i) h = rest_empty t xs i (omega (arith, h))

-- the rest without its first element is the rest from the next index on
pub rest_after : {A : Type 0} (xs rest : List A) (i : ℕ) (x : A) → x ∷ rest ≡ drop i xs → rest ≡ drop (i + 1) xs
rest_after xs rest i x e = go xs i e ∙ ap (λ k. drop k xs) (sym (add-one i))
  where
    go : (xs : List _) (i : ℕ) → x ∷ rest ≡ drop i xs → rest ≡ drop (suc i) xs
    go [] zero e = cc
    go [] (suc i) e = cc
    go (y ∷ ys) zero e = cc
    go (y ∷ ys) (suc i) e = go ys i e

-- the first of the rest is the element at that place
pub first_is : {A : Type 0} (xs rest : List A) (i : ℕ) (x : A) → x ∷ rest ≡ drop i xs → slice_get xs i ≡ Some x
first_is [] rest zero x e = cc
first_is [] rest (suc i) x e = cc
first_is (y ∷ ys) rest zero x e = let same : x ≡ y = cc in ap Some (sym same)
first_is (y ∷ ys) rest (suc i) x e = first_is ys rest i x e

-- if a statement is active and passes, one of the active statements passes
pub any_active : (t : Stmt → Bool) (n : ℕ) (S : Database) (i : ℕ) (s : Stmt) → slice_get S i ≡ Some s → t s ≡ true → stays_open 0 (drop (suc i) S) ≡ true
    → list_any (λ p. t p.1) (active_from n S) ≡ true
any_active t n [] i s e h kept = cc
any_active t n (r ∷ S) zero s e h kept =
    let same : r ≡ s = cc in
    ap (λ b. list_any (λ p. t p.1) (cond b ((n, r) ∷ active_from (n + 1) S) (active_from (n + 1) S))) kept
    ∙ (ap (λ z. t z || list_any (λ p. t p.1) (active_from (n + 1) S)) same ∙ ap (λ b. b || list_any (λ p. t p.1) (active_from (n + 1) S)) h)
any_active t n (r ∷ S) (suc i) s e h kept = by (any_active t (n + 1) S i s e h kept) (stays_open 0 S) refl
  where
    by : list_any (λ p. t p.1) (active_from (n + 1) S) ≡ true → (b : Bool) → stays_open 0 S ≡ b
        → list_any (λ p. t p.1) (cond (stays_open 0 S) ((n, r) ∷ active_from (n + 1) S) (active_from (n + 1) S)) ≡ true
    by rest true o = ap (λ b. list_any (λ p. t p.1) (cond b ((n, r) ∷ active_from (n + 1) S) (active_from (n + 1) S))) o ∙ (ap (λ b. t r || b) rest ∙ or-true (t r))
    by rest false o = ap (λ b. list_any (λ p. t p.1) (cond b ((n, r) ∷ active_from (n + 1) S) (active_from (n + 1) S))) o ∙ rest

-- a position, which counts from 1, as an index
stmt_index : (S : Database) (i : ℕ) (s : Stmt) → stmt_at S i ≡ Some s → (n : ℕ) × (i ≡ suc n) × (slice_get S n ≡ Some s)
stmt_index S zero s e = cc
stmt_index S (suc n) s e = (n, refl, e)

pub PassesAt-any : (S : Database) (i : ℕ) (t : Stmt → Bool) → PassesAt S i t → list_any t S ≡ true
PassesAt-any S i t is = let at = stmt_index S i is.stmt is.is_there in any_passes_from_place t S at.0 is.stmt at.2 is.passes

pub IsActiveAt-any : (S : Database) (i : ℕ) (t : Stmt → Bool) → IsActiveAt S i t → list_any (λ p. t p.1) (active_from 1 S) ≡ true
IsActiveAt-any S i t is =
    let at = stmt_index S i is.at.stmt is.at.is_there in
    any_active t 1 S at.0 is.at.stmt at.2 is.at.passes (ap (λ k. stays_open 0 (drop k S)) (sym at.1) ∙ is.stays)

-- a search that finds a place, or says that there is none, gives the result of the test
pub some_told : (r : Option ℕ) (b : Bool) (P : ℕ → Type 0) → MatchOption r (b ≡ false) P → ((i : ℕ) → P i → b ≡ true) → is_some r ≡ b
some_told None b P none some = sym none
some_told (Some i) b P h some = sym (some i h)
