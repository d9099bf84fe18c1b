-- The state of the rules after a legal statement of each kind.
use Rattle.scope.proofs.Words.{◌≡◌, ℕ, ◌+◌, ◌<◌, ◌==◌, Bool, true, false, not, ◌&&◌, ◌||◌, List, [], ◌∷◌, ◌++◌, cond, nat_lt, length, None, is_some, refl, Result, Ok, Err, OnOk, is_err, list_any, list_all, ◌∙◌, ap, sym, subst, true≢false, arith, append-nil, not-true, and_parts, ltb-true, Name, name_eq, has_name, Stmt, Open, Close, Const, Var, Disj, Float, Ess, Axiom, Prove, Database, bare, has_float, active_variables, typed_variables, all_different, broken_rule, are_numbers_distinct, name_at, decode, with_names, codes_or_len, code_or_len, HaveCodes, AreCodes, AreDistinct, Declared, kind_in, with_kind, with_kinds, IsRulesState, IsPlain, can_push, symbols_of, AreNumbers, StackHeights, NameKind, with_names-more, codes_or_len-more, has-with_names, same_name, code-at, found-number}
use Rattle.std.proofs.lemmas.List.{append_assoc}
use Rattle.scope.proofs.NamesLemmas.{symbols_of-append, symbols-distinct, active-named}
use Rattle.scope.proofs.SortsLemmas.{numbers-has, is_variable-active, has_float-typed}
use Rattle.scope.proofs.StackFollows.{kept-more}
use Rattle.scope.proofs.GoingBackLemmas.{all-has, inactive-not, can_push-names}
use Rattle.scope.proofs.LegalLemmas.{legal-variables, legal-float}

pub same-kept : {S S' M : Database} {vs vs' ts ts' : List ℕ} {n n' : ℕ} {blocks blocks' : List StackHeights} {mark : StackHeights} → S ≡ S' → vs ≡ vs' → ts ≡ ts' → n ≡ n' → blocks ≡ blocks'
    → IsRulesState S M vs ts n blocks mark → IsRulesState S' M vs' ts' n' blocks' mark
same-kept {S' = S'} {M = M} {vs = vs} {vs' = vs'} {ts = ts} {ts' = ts'} {n = n} {n' = n'} {blocks = blocks} {blocks' = blocks'} {mark = mark} a b c d e k =
    subst (λ (x : List StackHeights). IsRulesState S' M vs' ts' n' x mark) e (subst (λ (x : ℕ). IsRulesState S' M vs' ts' x blocks mark) d (subst (λ (x : List ℕ). IsRulesState S' M vs' x n blocks mark) c
    (subst (λ (x : List ℕ). IsRulesState S' M x ts n blocks mark) b (subst (λ (x : Database). IsRulesState x M vs ts n blocks mark) a k))))

with_kind-more : (names : Declared) (kind : NameKind) (x : Name) → (more : Declared) × (with_kind names kind x ≡ names ++ more)
with_kind-more names kind x = by (is_some (kind_in names x))
  where
    by : (b : Bool) → (more : Declared) × (cond b names (names ++ (x, kind) ∷ []) ≡ names ++ more)
    by true = ([], sym (append-nil names))
    by false = ((x, kind) ∷ [], refl)

pub with_kinds-more : (names : Declared) (kind : NameKind) (xs : List Name) → (more : Declared) × (with_kinds names kind xs ≡ names ++ more)
with_kinds-more names kind [] = ([], sym (append-nil names))
with_kinds-more names kind (x ∷ xs) =
    let one = with_kind-more names kind x in
    let rest = with_kinds-more (with_kind names kind x) kind xs in
    (one.0 ++ rest.0, rest.1 ∙ (ap (λ ns. ns ++ rest.0) one.1 ∙ append_assoc names one.0 rest.0))

plus_zero : (n : ℕ) → n + 0 ≡ n
plus_zero n = omega arith

-- each name of the empty list is among the names
no_names : (names : List Name) → HaveCodes names []
no_names names x h = absurd (true≢false (sym h))

-- numbers that decode to some names are the numbers of these names
pub numbers-of : (names : List Name) (numbers : List ℕ) (xs : List Name) → AreDistinct names → AreCodes names numbers → decode names numbers ≡ xs → codes_or_len names xs ≡ numbers
numbers-of names numbers xs distinct codes stand = ap (codes_or_len names) (sym stand) ∙ by numbers codes
  where
    one : (n : ℕ) → n < length names → code_or_len names (name_at names n) ≡ n
    one n below = (found-number names (name_at names n) n (sym (code-at names (name_at names n) n distinct below refl))).1

    by : (ns : List ℕ) → AreCodes names ns → codes_or_len names (decode names ns) ≡ ns
    by [] h = refl
    by (n ∷ ns) h = let p = and_parts (nat_lt n (length names)) (list_all (λ m. nat_lt m (length names)) ns) h in
        ap (λ m. m ∷ codes_or_len names (decode names ns)) (one n (ltb-true n (length names) p.0)) ∙ ap (λ ms. n ∷ ms) (by ns p.1)

-- the numbers are distinct exactly if the names are
pub numbers-differ : (names : List Name) (numbers : List ℕ) (xs : List Name) → AreDistinct names → AreNumbers names xs numbers → are_numbers_distinct numbers ≡ all_different xs
numbers-differ names numbers xs distinct are = by numbers are.0 ∙ ap all_different are.1
  where
    by : (ns : List ℕ) → AreCodes names ns → are_numbers_distinct ns ≡ all_different (decode names ns)
    by [] h = refl
    by (n ∷ ns) h =
        let p = and_parts (nat_lt n (length names)) (list_all (λ m. nat_lt m (length names)) ns) h in
        let x = name_at names n in
        let f = found-number names x n (sym (code-at names x n distinct (ltb-true n (length names) p.0) refl)) in
        let one : list_any (λ m. m == n) ns ≡ has_name x (decode names ns) =
        ap (λ k. list_any (λ m. m == k) ns) (sym f.1) ∙ (ap (list_any (λ m. m == code_or_len names x)) (sym (numbers-of names ns (decode names ns) distinct p.1 refl)) ∙ numbers-has names x (decode names ns) f.0) in
        ap (λ b. not b && are_numbers_distinct ns) one ∙ ap (λ b. not (has_name x (decode names ns)) && b) (by ns p.1)

-- the second of the numbers of a `$f` is that of its variable
pub float-number : (S : Database) (l c v : Name) (numbers : List ℕ) → AreNumbers (with_names (symbols_of S) []) (c ∷ v ∷ []) numbers → (a : ℕ) × (b : ℕ) × (numbers ≡ a ∷ b ∷ []) × (code_or_len (symbols_of S) v ≡ b)
float-number S l c v numbers are =
    (code_or_len (symbols_of S) c, code_or_len (symbols_of S) v, sym (numbers-of (symbols_of S) numbers (c ∷ v ∷ []) (symbols-distinct S) are.0 are.1), refl)

module _ (S M : Database) (vs ts : List ℕ) (n : ℕ) (blocks : List StackHeights) (mark : StackHeights) (k : IsRulesState S M vs ts n blocks mark) where
  pub accept-variables : (xs : List Name) (numbers : List ℕ) → AreNumbers (with_names (symbols_of S) xs) xs numbers → IsRulesState (S ++ Var xs ∷ []) M (vs ++ numbers) ts n blocks mark
  accept-variables xs numbers are =
      let N : List Name = symbols_of (S ++ Var xs ∷ []) in
      let is : N ≡ with_names (symbols_of S) xs = symbols_of-append S (Var xs) in
      let same : codes_or_len N xs ≡ numbers = ap (λ ns. codes_or_len ns xs) is ∙ numbers-of (with_names (symbols_of S) xs) numbers xs (subst AreDistinct is (symbols-distinct (S ++ Var xs ∷ []))) are.0 are.1 in
      same-kept refl (ap (λ ns. vs ++ ns) same) (append-nil ts) (plus_zero n) refl
      (kept-more S M (Var xs) vs ts n 0 blocks mark refl refl (no_names N) refl k)

  pub can_push-variables : (xs : List Name) (numbers : List ℕ) → broken_rule S (Var xs) ≡ None → AreNumbers (with_names (symbols_of S) xs) xs numbers → can_push vs numbers ≡ true
  can_push-variables xs numbers legal are =
      let l = legal-variables S xs legal in
      let N : List Name = with_names (symbols_of S) xs in
      let more = with_names-more (symbols_of S) xs in
      let stack : vs ≡ codes_or_len N (active_variables S) =
      k.variables_are ∙ (sym (codes_or_len-more (symbols_of S) more.0 (active_variables S) (active-named S)) ∙ ap (λ ns. codes_or_len ns (active_variables S)) (sym more.1)) in
      let same : codes_or_len N xs ≡ numbers = numbers-of N numbers xs (subst AreDistinct (symbols_of-append S (Var xs)) (symbols-distinct (S ++ Var xs ∷ []))) are.0 are.1 in
      ap (λ ns. can_push vs ns) (sym same) ∙ (ap (λ s. can_push s (codes_or_len N xs)) stack
      ∙ can_push-names N (active_variables S) xs (λ x h. has-with_names x (symbols_of S) xs h) l.1
      (λ x h. sym (is_variable-active S x) ∙ inactive-not S x (all-has _ x xs l.0 h)))

  -- the variable of a legal `$f` is a declared symbol
  float-known : (l c v : Name) → broken_rule S (Float l c v) ≡ None → has_name v (symbols_of S) ≡ true
  float-known l c v legal = active-named S v (sym (is_variable-active S v) ∙ (legal-float S l c v legal).0)

  pub float-apart : (l c v : Name) → broken_rule S (Float l c v) ≡ None → list_any (λ n. n == code_or_len (symbols_of S) v) ts ≡ false
  float-apart l c v legal =
      ap (λ s. list_any (λ n. n == code_or_len (symbols_of S) v) s) k.typed_are
      ∙ (numbers-has (symbols_of S) v (typed_variables S) (float-known l c v legal) ∙ (sym (has_float-typed S v) ∙ not-true (has_float S v) (legal-float S l c v legal).1))

  pub accept-float : (l c v : Name) → broken_rule S (Float l c v) ≡ None → IsRulesState (S ++ Float l c v ∷ []) M vs (ts ++ code_or_len (symbols_of S) v ∷ []) (n + 1) blocks mark
  accept-float l c v legal =
      let known = float-known l c v legal in
      let is : symbols_of (S ++ Float l c v ∷ []) ≡ symbols_of S = symbols_of-append S (Float l c v) in
      same-kept refl (append-nil vs) (ap (λ ns. ts ++ code_or_len ns v ∷ []) is) refl refl
      (kept-more S M (Float l c v) vs ts n 1 blocks mark refl refl
      (λ x h. ap (λ z. has_name z (symbols_of (S ++ Float l c v ∷ []))) (only x v h) ∙ (ap (has_name v) is ∙ known)) refl k)
    where
      only : (x v : Name) → (name_eq x v || false) ≡ true → x ≡ v
      only x v h = by (name_eq x v) refl h
        where
          by : (b : Bool) → name_eq x v ≡ b → (b || false) ≡ true → x ≡ v
          by true e h = same_name x v e
          by false e h = cc

  pub accept-plain : (s : Stmt) (m : ℕ) → IsPlain s m → IsRulesState (S ++ s ∷ []) M vs ts (n + m) blocks mark
  accept-plain s m is =
      let N : List Name = symbols_of (S ++ s ∷ []) in
      same-kept refl (ap (λ xs. vs ++ codes_or_len N xs) is.no_variables ∙ append-nil vs) (ap (λ xs. ts ++ codes_or_len N xs) is.untyped ∙ append-nil ts) refl refl
      (kept-more S M s vs ts n m blocks mark is.no_close is.no_open (subst (λ (xs : List Name). HaveCodes N xs) (sym is.untyped) (no_names N)) (is.added_is (1 + length S)) k)

pub bare-plain : (s : Stmt) (m : ℕ) → IsPlain s m → IsPlain (bare s) m
bare-plain (Prove label expr proof) m is = record { no_open = refl; no_close = refl; no_variables = refl; untyped = refl; added_is = λ at. is.added_is at }
bare-plain Open m is = is
bare-plain Close m is = is
bare-plain (Const xs) m is = is
bare-plain (Var xs) m is = is
bare-plain (Disj xs) m is = is
bare-plain (Float label constant variable) m is = is
bare-plain (Ess label expr) m is = is
bare-plain (Axiom label expr) m is = is

pub bare-rule : (S : Database) (s : Stmt) → broken_rule S (bare s) ≡ broken_rule S s
bare-rule S (Prove label expr proof) = refl
bare-rule S Open = refl
bare-rule S Close = refl
bare-rule S (Const xs) = refl
bare-rule S (Var xs) = refl
bare-rule S (Disj xs) = refl
bare-rule S (Float label constant variable) = refl
bare-rule S (Ess label expr) = refl
bare-rule S (Axiom label expr) = refl

-- if a call does not fail, the property of its success holds
pub ok_of : {A B : Type 0} {P : Type 0} (r : Result A B) → is_err r ≡ false → OnOk r P → P
ok_of (Ok x) h p = p
ok_of (Err e) h p = cc
