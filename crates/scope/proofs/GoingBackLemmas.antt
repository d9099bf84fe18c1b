-- The mark, the return to it, and what the rules say of the names to be declared.
use Rattle.scope.proofs.Words.{◌≡◌, ℕ, ◌+◌, ◌==◌, Bool, true, false, not, ◌||◌, ◌&&◌, List, [], ◌∷◌, ◌++◌, length, take, Option, Some, None, is_some, refl, list_any, list_all, flat_map, ◌∙◌, ap, sym, arith, true≢false, or-false, append-nil, map-append, take-map, take_at, nil_from_length, flat_map-append, nat_tests, and_parts, or_parts, not-true, Name, name_eq, has_name, Stmt, Database, stays_open, active_from, active, is_closed, variables, typed_by, was_label, was_symbol, is_constant, is_variable, all_different, codes_or_len, code_or_len, HaveCodes, symbols_of, as_frame_statement, frame_statements_of, FrameStatement, Declared, kind_in, MatchesKinds, is_some_label, is_some_constant, heights_of, blocks_of, can_push, IsRulesState, StackHeights, NameKind, codes_or_len-more, has_name-append, name_same, same_name}
use Rattle.scope.proofs.ActiveLemmas.{active_from-later, below-deficit, no_deficit, deficit, deficit-append, left_open}
use Rattle.scope.proofs.BlocksLemmas.{length-blocks, closed-left}
use Rattle.scope.proofs.NamesLemmas.{symbols_of-later, active-named}
use Rattle.scope.proofs.SortsLemmas.{numbers-has, fresh-kind}

-- ---- the mark, and the return to it

pub kept-mark : (S M : Database) (vs ts : List ℕ) (n : ℕ) (blocks : List StackHeights) (mark heights : StackHeights) → is_closed S ≡ true → heights ≡ heights_of (active S)
    → IsRulesState S M vs ts n blocks mark → IsRulesState S S vs ts n blocks heights
kept-mark S M vs ts n blocks mark heights closed height k = record {
  variables_are = k.variables_are;
  typed_are = k.typed_are;
  typed_known = k.typed_known;
  frame_statement_count_is = k.frame_statement_count_is;
  blocks_are = k.blocks_are;
  never_closes_unopened = k.never_closes_unopened;
  marked = record {
    later = ([], sym (append-nil S), refl);
    closed = closed;
    heights = height;
    typed_known = k.typed_known;
  };
}

stack-back : (f : ℕ × Stmt → List Name) (S M T : Database) (stack : List ℕ) → S ≡ M ++ T → stays_open 0 T ≡ true → HaveCodes (symbols_of M) (flat_map f (active M))
    → stack ≡ codes_or_len (symbols_of S) (flat_map f (active S)) → take (length (flat_map f (active M))) stack ≡ codes_or_len (symbols_of M) (flat_map f (active M))
stack-back f S M T stack e below known is =
    let more = symbols_of-later M T in
    let A : List Name = flat_map f (active M) in
    let split : flat_map f (active S) ≡ A ++ flat_map f (active_from (1 + length M) T) =
    ap (λ D. flat_map f (active D)) e ∙ (ap (flat_map f) (active_from-later 1 M T below) ∙ flat_map-append f (active M) (active_from (1 + length M) T)) in
    ap (take (length A)) is
    ∙ (take-map (code_or_len (symbols_of S)) (length A) (flat_map f (active S))
    ∙ (ap (λ r. codes_or_len (symbols_of S) (take (length A) r)) split
    ∙ (ap (codes_or_len (symbols_of S)) (take_at A (flat_map f (active_from (1 + length M) T)) (length A) refl)
    ∙ (ap (λ ns. codes_or_len ns A) (ap symbols_of e ∙ more.1) ∙ codes_or_len-more (symbols_of M) more.0 A known))))

-- the active `$f`, `$e` and `$d` at the mark are the first of those that are active later
pub frame_statements-back : (S M : Database) (vs ts : List ℕ) (n : ℕ) (blocks : List StackHeights) (mark : StackHeights) → IsRulesState S M vs ts n blocks mark → take (length (frame_statements_of M)) (frame_statements_of S) ≡ frame_statements_of M
frame_statements-back S M vs ts n blocks mark k =
    let f : ℕ × Stmt → List FrameStatement = λ p. as_frame_statement p.0 p.1 in
    let T = k.marked.later.0 in
    ap (λ D. take (length (frame_statements_of M)) (frame_statements_of D)) k.marked.later.1
    ∙ (ap (take (length (frame_statements_of M))) (ap (flat_map f) (active_from-later 1 M T k.marked.later.2) ∙ flat_map-append f (active M) (active_from (1 + length M) T))
    ∙ take_at (frame_statements_of M) (flat_map f (active_from (1 + length M) T)) (length (frame_statements_of M)) refl)

pub kept-back : (S M : Database) (vs ts : List ℕ) (n : ℕ) (blocks : List StackHeights) (mark : StackHeights) → IsRulesState S M vs ts n blocks mark
    → IsRulesState M M (take mark.variables vs) (take mark.typed ts) mark.frame_statements [] mark
kept-back S M vs ts n blocks mark k =
    let km = k.marked in
    let T = km.later.0 in
    let e : S ≡ M ++ T = km.later.1 in
    let below : stays_open 0 T ≡ true = km.later.2 in
    let never : stays_open 0 M ≡ true = below-deficit 0 M (omega (arith, deficit-append M T (no_deficit T below), ap deficit e, no_deficit S k.never_closes_unopened)) in
    let none : left_open M ≡ 0 = closed_none M never km.closed in
    record {
      variables_are = ap (λ z. take z.variables vs) km.heights ∙ stack-back (λ p. variables p.1) S M T vs e below (active-named M) k.variables_are;
      typed_are = ap (λ z. take z.typed ts) km.heights ∙ stack-back (λ p. typed_by p.1) S M T ts e below km.typed_known k.typed_are;
      typed_known = km.typed_known;
      frame_statement_count_is = ap (λ z. z.frame_statements) km.heights;
      blocks_are = sym (nil_from_length (blocks_of M) (length-blocks [] 1 M ∙ none));
      never_closes_unopened = never;
      marked = record {
        later = ([], sym (append-nil M), refl);
        closed = km.closed;
        heights = km.heights;
        typed_known = km.typed_known;
      };
    }
  where
    closed_none : (M : Database) → stays_open 0 M ≡ true → is_closed M ≡ true → left_open M ≡ 0
    closed_none M never closed = by (left_open M) refl
      where
        same : (a : ℕ) → (a == 0) ≡ true → a ≡ 0
        same a h = grind (arith, nat_tests)

        by : (l : ℕ) → left_open M ≡ l → l ≡ 0
        by l e = same l (ap (λ n. n == 0) (sym e) ∙ (sym (closed-left M never) ∙ closed))

-- ---- the consequences of the rules for the names to be declared

pub all-has : (p : Name → Bool) (x : Name) (xs : List Name) → list_all p xs ≡ true → has_name x xs ≡ true → p x ≡ true
all-has p x [] h k = cc
all-has p x (y ∷ xs) h k = by (name_eq x y) refl (and_parts (p y) (list_all p xs) h) k (all-has p x xs)
  where
    by : (b : Bool) → name_eq x y ≡ b → (p y ≡ true) × (list_all p xs ≡ true) → (b || has_name x xs) ≡ true → (list_all p xs ≡ true → has_name x xs ≡ true → p x ≡ true) → p x ≡ true
    by true e h k rest = ap p (same_name x y e) ∙ h.0
    by false e h k rest = rest h.1 k

pub fresh-none : (S : Database) (names : Declared) (x : Name) → MatchesKinds S names → not (was_symbol S x || was_label S x) ≡ true → kind_in names x ≡ None
fresh-none S names x kinds_match h = by (kind_in names x) (fresh-kind S x (kind_in names x) (kinds_match x) ∙ h)
  where
    by : (k : Option NameKind) → not (is_some k) ≡ true → k ≡ None
    by None h = refl
    by (Some k) h = cc

pub inactive-free : (S : Database) (names : Declared) (x : Name) → MatchesKinds S names → not (is_variable S x || is_constant S x || was_label S x) ≡ true
    → (is_some_label (kind_in names x) ≡ false) × (is_some_constant (kind_in names x) ≡ false)
inactive-free S names x kinds_match h =
    let p = or_parts (is_variable S x || is_constant S x) (was_label S x) (not-true (is_variable S x || is_constant S x || was_label S x) h) in
    (sym (kinds_match x).label ∙ p.1, sym (kinds_match x).constant ∙ (or_parts (is_variable S x) (is_constant S x) p.0).1)

pub inactive-not : (S : Database) (x : Name) → not (is_variable S x || is_constant S x || was_label S x) ≡ true → is_variable S x ≡ false
inactive-not S x h =
    let p = or_parts (is_variable S x || is_constant S x) (was_label S x) (not-true (is_variable S x || is_constant S x || was_label S x) h) in
    (or_parts (is_variable S x) (is_constant S x) p.0).0

-- a name in a list differs from a name that is not in it
pub apart_from : (w x : Name) (ws : List Name) → has_name x ws ≡ true → not (has_name w ws) ≡ true → name_eq x w ≡ false
apart_from w x ws h n = by (name_eq x w) refl
  where
    by : (b : Bool) → name_eq x w ≡ b → b ≡ false
    by true e = absurd (true≢false (sym n ∙ (ap (λ z. not (has_name z ws)) (sym (same_name x w e)) ∙ ap not h)))
    by false e = refl

-- names that are distinct and are not on the stack can be pushed
pub can_push-names : (names active ws : List Name) → HaveCodes names ws → all_different ws ≡ true → ((x : Name) → has_name x ws ≡ true → has_name x active ≡ false)
    → can_push (codes_or_len names active) (codes_or_len names ws) ≡ true
can_push-names names active [] known differ apart = refl
can_push-names names active (w ∷ ws) known differ apart =
    let d = and_parts (not (has_name w ws)) (all_different ws) differ in
    let own : has_name w (w ∷ ws) ≡ true = ap (λ b. b || has_name w ws) (name_same w) in
    let first : list_any (λ m. m == code_or_len names w) (codes_or_len names active) ≡ false = numbers-has names w active (known w own) ∙ apart w own in
    ap (λ b. not b && can_push (codes_or_len names active ++ code_or_len names w ∷ []) (codes_or_len names ws)) first
    ∙ (ap (λ s. can_push s (codes_or_len names ws)) (sym (map-append (code_or_len names) active (w ∷ [])))
    ∙ can_push-names names (active ++ w ∷ []) ws (λ x h. known x (later x h)) d.1 (λ x h. has_name-append x active (w ∷ []) ∙ (ap (λ b. b || (name_eq x w || false)) (apart x (later x h)) ∙ or-false (name_eq x w) ∙ apart_from w x ws h d.0)))
  where
    later : (x : Name) → has_name x ws ≡ true → (name_eq x w || has_name x ws) ≡ true
    later x h = by (name_eq x w) h
      where
        by : (b : Bool) → has_name x ws ≡ true → (b || has_name x ws) ≡ true
        by true h = refl
        by false h = h
