-- The stacks of a scope after a statement that opens or closes no block, after a `${` and after a
-- `$}`.
use Rattle.scope.proofs.Words.{◌≡◌, ℕ, zero, suc, ◌+◌, ◌≤◌, Bool, true, false, cond, ◌||◌, nat_lt, List, [], ◌∷◌, ◌++◌, length, take, refl, flat_map, ◌∙◌, ap, sym, arith, append_assoc, true≢false, length-append, append-nil, map-append, take-map, same_from_push, flat_map-append, nat_tests, eqb-true, Name, has_name, Stmt, Open, Close, Database, stays_open, active_from, active, is_open, is_close, is_closed, count, variables, typed_by, codes_or_len, code_or_len, HaveCodes, as_frame_statement, frame_statements_of, symbols_of, heights_of, blocks_from, blocks_of, IsRulesState, IsMarked, StackHeights, has_open, before_open, codes_or_len-more, has-more, has_name-append}
use Rattle.scope.proofs.ActiveLemmas.{active_from-append, active_from-close, stays_open-append, flat_map-taken, from_open, split_open, below-deficit, no_deficit, deficit-close, left_open, count-left_open, count-append, none-left}
use Rattle.scope.proofs.BlocksLemmas.{blocks_from-append, blocks-close}
use Rattle.scope.proofs.NamesLemmas.{symbols_of-later, symbols_of-append, active-named}

-- ---- a statement that is neither `${` nor `$}`

-- a statement that is no `$}` adds its entries to a list of entries of active statements
pub flat_map-more : {A : Type 0} (f : ℕ × Stmt → List A) (S : Database) (s : Stmt) → is_close s ≡ false → flat_map f (active (S ++ s ∷ [])) ≡ flat_map f (active S) ++ f (1 + length S, s)
flat_map-more f S s h =
    ap (flat_map f) (active_from-append 1 S s h)
    ∙ (flat_map-append f (active S) ((1 + length S, s) ∷ []) ∙ ap (λ r. flat_map f (active S) ++ r) (append-nil (f (1 + length S, s))))

stack-more : (f : ℕ × Stmt → List Name) (S : Database) (s : Stmt) (stack : List ℕ) → is_close s ≡ false → HaveCodes (symbols_of S) (flat_map f (active S))
    → stack ≡ codes_or_len (symbols_of S) (flat_map f (active S))
    → stack ++ codes_or_len (symbols_of (S ++ s ∷ [])) (f (1 + length S, s)) ≡ codes_or_len (symbols_of (S ++ s ∷ [])) (flat_map f (active (S ++ s ∷ [])))
stack-more f S s stack h known is =
    let more = symbols_of-later S (s ∷ []) in
    ap (λ r. r ++ codes_or_len (symbols_of (S ++ s ∷ [])) (f (1 + length S, s)))
    (is ∙ (sym (codes_or_len-more (symbols_of S) more.0 (flat_map f (active S)) known) ∙ ap (λ ns. codes_or_len ns (flat_map f (active S))) (sym more.1)))
    ∙ (sym (map-append (code_or_len (symbols_of (S ++ s ∷ []))) (flat_map f (active S)) (f (1 + length S, s)))
    ∙ ap (codes_or_len (symbols_of (S ++ s ∷ []))) (sym (flat_map-more f S s h)))

known-more : (f : ℕ × Stmt → List Name) (S : Database) (s : Stmt) → is_close s ≡ false → HaveCodes (symbols_of S) (flat_map f (active S)) → HaveCodes (symbols_of (S ++ s ∷ [])) (f (1 + length S, s))
    → HaveCodes (symbols_of (S ++ s ∷ [])) (flat_map f (active (S ++ s ∷ [])))
known-more f S s h old new x has =
    let more = symbols_of-later S (s ∷ []) in
    by (has_name x (flat_map f (active S))) refl (sym (has_name-append x (flat_map f (active S)) (f (1 + length S, s))) ∙ (ap (has_name x) (sym (flat_map-more f S s h)) ∙ has))
  where
    by : (b : Bool) → has_name x (flat_map f (active S)) ≡ b → (has_name x (flat_map f (active S)) || has_name x (f (1 + length S, s))) ≡ true → has_name x (symbols_of (S ++ s ∷ [])) ≡ true
    by true e k = ap (has_name x) (symbols_of-later S (s ∷ [])).1 ∙ has-more x (symbols_of S) (symbols_of-later S (s ∷ [])).0 (old x e)
    by false e k = new x (sym (ap (λ b. b || has_name x (f (1 + length S, s))) e) ∙ k)

marked-more : (S M : Database) (s : Stmt) (mark : StackHeights) → is_close s ≡ false → IsMarked S M mark → IsMarked (S ++ s ∷ []) M mark
marked-more S M s mark h k = record {
  later = (k.later.0 ++ s ∷ [], ap (λ D. D ++ s ∷ []) k.later.1 ∙ append_assoc M k.later.0 (s ∷ []), stays_open-append 0 k.later.0 s h ∙ k.later.2);
  closed = k.closed;
  heights = k.heights;
  typed_known = k.typed_known;
}

-- a statement that is no `$}` adds its entries to the active `$f`, `$e` and `$d`
pub frame_statements-more : (S : Database) (s : Stmt) → is_close s ≡ false → frame_statements_of (S ++ s ∷ []) ≡ frame_statements_of S ++ as_frame_statement (1 + length S) s
frame_statements-more S s h = flat_map-more (λ p. as_frame_statement p.0 p.1) S s h

pub kept-more : (S M : Database) (s : Stmt) (vs ts : List ℕ) (n m : ℕ) (blocks : List StackHeights) (mark : StackHeights) → is_close s ≡ false → is_open s ≡ false
    → HaveCodes (symbols_of (S ++ s ∷ [])) (typed_by s) → length (as_frame_statement (1 + length S) s) ≡ m
    → IsRulesState S M vs ts n blocks mark
    → IsRulesState (S ++ s ∷ []) M (vs ++ codes_or_len (symbols_of (S ++ s ∷ [])) (variables s)) (ts ++ codes_or_len (symbols_of (S ++ s ∷ [])) (typed_by s)) (n + m) blocks mark
kept-more S M s vs ts n m blocks mark shut plain known stand k = record {
  variables_are = stack-more (λ p. variables p.1) S s vs shut (active-named S) k.variables_are;
  typed_are = stack-more (λ p. typed_by p.1) S s ts shut k.typed_known k.typed_are;
  typed_known = known-more (λ p. typed_by p.1) S s shut k.typed_known known;
  frame_statement_count_is = let long = ap length (frame_statements-more S s shut) ∙ length-append (frame_statements_of S) (as_frame_statement (1 + length S) s) in let is = k.frame_statement_count_is in omega (arith, long, is, stand);
  blocks_are = k.blocks_are ∙ sym (ap (blocks_from []) (active_from-append 1 S s shut) ∙ (blocks_from-append [] (active S) ((1 + length S, s) ∷ [])
      ∙ (ap (λ b. blocks_of S ++ cond b (heights_of (active S) ∷ []) []) plain ∙ append-nil (blocks_of S))));
  never_closes_unopened = stays_open-append 0 S s shut ∙ k.never_closes_unopened;
  marked = marked-more S M s mark shut k.marked;
}

-- ---- a `${`

pub kept-open : (S M : Database) (vs ts : List ℕ) (n : ℕ) (blocks : List StackHeights) (mark heights : StackHeights) → heights ≡ heights_of (active S) → IsRulesState S M vs ts n blocks mark
    → IsRulesState (S ++ Open ∷ []) M vs ts n (blocks ++ heights ∷ []) mark
kept-open S M vs ts n blocks mark heights height k = record {
  variables_are = sym (append-nil vs) ∙ stack-more (λ p. variables p.1) S Open vs refl (active-named S) k.variables_are;
  typed_are = sym (append-nil ts) ∙ stack-more (λ p. typed_by p.1) S Open ts refl k.typed_known k.typed_are;
  typed_known = known-more (λ p. typed_by p.1) S Open refl k.typed_known (λ x h. absurd (true≢false (sym h)));
  frame_statement_count_is = k.frame_statement_count_is ∙ ap length (sym (append-nil (frame_statements_of S)) ∙ sym (frame_statements-more S Open refl));
  blocks_are = ap (λ b. b ++ heights ∷ []) k.blocks_are ∙ (ap (λ z. blocks_of S ++ z ∷ []) height ∙ sym (ap (blocks_from []) (active_from-append 1 S Open refl) ∙ blocks_from-append [] (active S) ((1 + length S, Open) ∷ [])));
  never_closes_unopened = stays_open-append 0 S Open refl ∙ k.never_closes_unopened;
  marked = marked-more S M Open mark refl k.marked;
}

-- ---- a `$}`

pub flat_map-close : {A : Type 0} (f : ℕ × Stmt → List A) (S : Database) → f (1 + length S, Close) ≡ [] → flat_map f (active (S ++ Close ∷ [])) ≡ flat_map f (before_open (active S))
flat_map-close f S none =
    ap (flat_map f) (active_from-close 1 S)
    ∙ (flat_map-append f (before_open (active S)) ((1 + length S, Close) ∷ [])
    ∙ (ap (λ r. flat_map f (before_open (active S)) ++ (r ++ [])) none ∙ append-nil (flat_map f (before_open (active S)))))

stack-close : (f : ℕ × Stmt → List Name) (S : Database) (stack : List ℕ) → f (1 + length S, Close) ≡ [] → stack ≡ codes_or_len (symbols_of S) (flat_map f (active S))
    → take (length (flat_map f (before_open (active S)))) stack ≡ codes_or_len (symbols_of (S ++ Close ∷ [])) (flat_map f (active (S ++ Close ∷ [])))
stack-close f S stack none is =
    ap (take (length (flat_map f (before_open (active S))))) is
    ∙ (take-map (code_or_len (symbols_of S)) (length (flat_map f (before_open (active S)))) (flat_map f (active S))
    ∙ (ap (codes_or_len (symbols_of S)) (flat_map-taken f (active S) ∙ sym (flat_map-close f S none)) ∙ ap (λ ns. codes_or_len ns (flat_map f (active (S ++ Close ∷ [])))) (sym (symbols_of-append S Close))))

-- if more blocks were opened than closed, a block is open
pub some_open : (S : Database) → stays_open 0 S ≡ true → nat_lt (count is_close S) (count is_open S) ≡ true → 1 ≤ left_open S
some_open S below h = by (count is_open S) (count is_close S) (left_open S) (omega (arith, count-left_open S, no_deficit S below)) h
  where
    by : (a b l : ℕ) → a ≡ b + l → nat_lt b a ≡ true → 1 ≤ l
    by a b zero e h = absurd (no a b (omega arith) h)
      where
        no : (a b : ℕ) → a ≤ b → nat_lt b a ≡ true → ⊥
        no a b e h = grind (arith, nat_tests)
    by a b (suc l) e h = omega arith

pub has_open-some : (at : ℕ) (S : Database) → 1 ≤ left_open S → has_open (active_from at S) ≡ true
has_open-some at S h = by (has_open (active_from at S)) refl
  where
    by : (b : Bool) → has_open (active_from at S) ≡ b → b ≡ true
    by true e = refl
    by false e = absurd (omega (arith, none-left at S e))

later-close : (S M T : Database) → S ≡ M ++ T → is_closed M ≡ true → stays_open 0 T ≡ true → stays_open 0 S ≡ true → 1 ≤ left_open S → stays_open 0 (T ++ Close ∷ []) ≡ true
later-close S M T e closed below all some =
    below-deficit 0 (T ++ Close ∷ []) (omega (arith, deficit-close T, no_deficit T below, balance))
  where
    balance : 1 ≤ left_open T
    balance = omega (
      arith,
      eqb-true (count is_open M) (count is_close M) closed,
      count-left_open T,
      no_deficit T below,
      count-left_open S,
      no_deficit S all,
      ap (count is_open) e ∙ count-append is_open M T,
      ap (count is_close) e ∙ count-append is_close M T,
    )

known-close : (f : ℕ × Stmt → List Name) (S : Database) → f (1 + length S, Close) ≡ [] → HaveCodes (symbols_of S) (flat_map f (active S)) → HaveCodes (symbols_of (S ++ Close ∷ [])) (flat_map f (active (S ++ Close ∷ [])))
known-close f S none known x h =
    ap (has_name x) (symbols_of-append S Close)
    ∙ known x (ap (has_name x) (ap (flat_map f) (split_open (active S)) ∙ flat_map-append f (before_open (active S)) (from_open (active S)))
    ∙ has-more x (flat_map f (before_open (active S))) (flat_map f (from_open (active S))) (ap (has_name x) (sym (flat_map-close f S none)) ∙ h))

pub kept-close : (S M : Database) (vs ts : List ℕ) (n : ℕ) (blocks front : List StackHeights) (mark last : StackHeights) → nat_lt (count is_close S) (count is_open S) ≡ true
    → blocks ≡ front ++ last ∷ [] → IsRulesState S M vs ts n blocks mark
    → IsRulesState (S ++ Close ∷ []) M (take last.variables vs) (take last.typed ts) last.frame_statements front mark
kept-close S M vs ts n blocks front mark last legal split k =
    let some = some_open S k.never_closes_unopened legal in
    let ends : front ++ last ∷ [] ≡ blocks_from [] (before_open (active S)) ++ heights_of (before_open (active S)) ∷ [] =
    sym split ∙ (k.blocks_are ∙ blocks-close [] (active S) (has_open-some 1 S some)) in
    let both = same_from_push front (blocks_from [] (before_open (active S))) last (heights_of (before_open (active S))) ends in
    record {
      variables_are = ap (λ z. take z.variables vs) both.1 ∙ stack-close (λ p. variables p.1) S vs refl k.variables_are;
      typed_are = ap (λ z. take z.typed ts) both.1 ∙ stack-close (λ p. typed_by p.1) S ts refl k.typed_are;
      typed_known = known-close (λ p. typed_by p.1) S refl k.typed_known;
      frame_statement_count_is = ap (λ z. z.frame_statements) both.1 ∙ ap length (sym (flat_map-close (λ p. as_frame_statement p.0 p.1) S refl));
      blocks_are = both.0 ∙ sym (ap (blocks_from []) (active_from-close 1 S) ∙ (blocks_from-append [] (before_open (active S)) ((1 + length S, Close) ∷ []) ∙ append-nil (blocks_from [] (before_open (active S)))));
      never_closes_unopened = below-deficit 0 (S ++ Close ∷ []) (omega (arith, deficit-close S, no_deficit S k.never_closes_unopened, some));
      marked = let km = k.marked in record {
        later = (km.later.0 ++ Close ∷ [], ap (λ D. D ++ Close ∷ []) km.later.1 ∙ append_assoc M km.later.0 (Close ∷ []), later-close S M km.later.0 km.later.1 km.closed km.later.2 k.never_closes_unopened some);
        closed = km.closed;
        heights = km.heights;
        typed_known = km.typed_known;
      };
    }
