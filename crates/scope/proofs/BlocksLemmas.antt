-- The open blocks, and the heights of the stacks before each.
use Rattle.scope.proofs.Words.{◌≡◌, ℕ, suc, ◌+◌, ◌==◌, Bool, true, false, not, cond, ◌||◌, nat_lt, List, [], ◌∷◌, ◌++◌, length, refl, ◌∙◌, ap, sym, arith, append_assoc, append-nil, nat_tests, Stmt, Open, Database, count, stays_open, active_from, is_open, is_close, is_closed, heights_of, blocks_from, StackHeights, has_open, before_open}
use Rattle.scope.proofs.ActiveLemmas.{left_open, count-left_open, no_deficit}

pub blocks_from-append : (pre es fs : List (ℕ × Stmt)) → blocks_from pre (es ++ fs) ≡ blocks_from pre es ++ blocks_from (pre ++ es) fs
blocks_from-append pre [] fs = ap (λ p. blocks_from p fs) (sym (append-nil pre))
blocks_from-append pre (p ∷ es) fs =
    ap (λ r. cond (is_open p.1) (heights_of pre ∷ r) r) (blocks_from-append (pre ++ p ∷ []) es fs)
    ∙ (by (is_open p.1) (blocks_from (pre ++ p ∷ []) es) (blocks_from (pre ++ p ∷ [] ++ es) fs)
    ∙ ap (λ q. blocks_from pre (p ∷ es) ++ blocks_from q fs) (append_assoc pre (p ∷ []) es))
  where
    by : (b : Bool) (xs ys : List StackHeights) → cond b (heights_of pre ∷ (xs ++ ys)) (xs ++ ys) ≡ cond b (heights_of pre ∷ xs) xs ++ ys
    by true xs ys = refl
    by false xs ys = refl

pub length-blocks : (pre : List (ℕ × Stmt)) (at : ℕ) (S : Database) → length (blocks_from pre (active_from at S)) ≡ left_open S
length-blocks pre at [] = refl
length-blocks pre at (Open ∷ S) = by (stays_open 0 S) (length-blocks (pre ++ (at, Open) ∷ []) (at + 1) S) (length-blocks pre (at + 1) S)
  where
    by : (b : Bool) → length (blocks_from (pre ++ (at, Open) ∷ []) (active_from (at + 1) S)) ≡ left_open S → length (blocks_from pre (active_from (at + 1) S)) ≡ left_open S
        → length (blocks_from pre (cond b ((at, Open) ∷ active_from (at + 1) S) (active_from (at + 1) S))) ≡ cond b (suc (left_open S)) (left_open S)
    by true e f = ap suc e
    by false e f = f
length-blocks pre at (s ∷ S) = by (stays_open 0 S) (length-blocks (pre ++ (at, s) ∷ []) (at + 1) S) (length-blocks pre (at + 1) S)
  where
    by : (b : Bool) → length (blocks_from (pre ++ (at, s) ∷ []) (active_from (at + 1) S)) ≡ left_open S → length (blocks_from pre (active_from (at + 1) S)) ≡ left_open S
        → length (blocks_from pre (cond b ((at, s) ∷ active_from (at + 1) S) (active_from (at + 1) S))) ≡ left_open S
    by true e f = e
    by false e f = f

pub closed-left : (S : Database) → stays_open 0 S ≡ true → is_closed S ≡ (left_open S == 0)
closed-left S h = by (count is_open S) (count is_close S) (left_open S) (omega (arith, count-left_open S, no_deficit S h))
  where
    by : (a b l : ℕ) → a ≡ b + l → (a == b) ≡ (l == 0)
    by a b l e = grind (arith, nat_tests)

pub open-left_open : (S : Database) → stays_open 0 S ≡ true → nat_lt (count is_close S) (count is_open S) ≡ not (left_open S == 0)
open-left_open S h = by (count is_open S) (count is_close S) (left_open S) (omega (arith, count-left_open S, no_deficit S h))
  where
    by : (a b l : ℕ) → a ≡ b + l → nat_lt b a ≡ not (l == 0)
    by a b l e = grind (arith, nat_tests)

-- if no block is open, the list of heights is empty
no_blocks : (pre es : List (ℕ × Stmt)) → has_open es ≡ false → blocks_from pre es ≡ []
no_blocks pre [] h = refl
no_blocks pre (p ∷ es) h = by (is_open p.1) h (no_blocks (pre ++ p ∷ []) es)
  where
    by : (b : Bool) → (b || has_open es) ≡ false → (has_open es ≡ false → blocks_from (pre ++ p ∷ []) es ≡ [])
        → cond b (heights_of pre ∷ blocks_from (pre ++ p ∷ []) es) (blocks_from (pre ++ p ∷ []) es) ≡ []
    by true h rest = cc
    by false h rest = rest h

-- the last heights are those of the statements in front of the last open block, and the others are
-- those of the earlier blocks
pub blocks-close : (pre es : List (ℕ × Stmt)) → has_open es ≡ true → blocks_from pre es ≡ blocks_from pre (before_open es) ++ heights_of (pre ++ before_open es) ∷ []
blocks-close pre [] h = cc
blocks-close pre (p ∷ es) h = by (has_open es) refl (is_open p.1) refl h (blocks-close (pre ++ p ∷ []) es)
  where
    move : (b : Bool) (xs : List StackHeights) (z z' : StackHeights) → z ≡ z' → cond b (heights_of pre ∷ (xs ++ z ∷ [])) (xs ++ z ∷ []) ≡ cond b (heights_of pre ∷ xs) xs ++ z' ∷ []
    move true xs z z' e = ap (λ y. heights_of pre ∷ (xs ++ y ∷ [])) e
    move false xs z z' e = ap (λ y. xs ++ y ∷ []) e

    by : (o : Bool) → has_open es ≡ o → (b : Bool) → is_open p.1 ≡ b → (b || has_open es) ≡ true
        → (has_open es ≡ true → blocks_from (pre ++ p ∷ []) es ≡ blocks_from (pre ++ p ∷ []) (before_open es) ++ heights_of (pre ++ p ∷ [] ++ before_open es) ∷ [])
        → cond (is_open p.1) (heights_of pre ∷ blocks_from (pre ++ p ∷ []) es) (blocks_from (pre ++ p ∷ []) es)
        ≡ blocks_from pre (cond o (p ∷ before_open es) []) ++ heights_of (pre ++ cond o (p ∷ before_open es) []) ∷ []
    by true o b i h rest =
        ap (λ r. cond (is_open p.1) (heights_of pre ∷ r) r) (rest o)
        ∙ move (is_open p.1) (blocks_from (pre ++ p ∷ []) (before_open es)) _ _ (ap heights_of (append_assoc pre (p ∷ []) (before_open es)))
    by false o true i h rest =
        ap (λ c. cond c (heights_of pre ∷ blocks_from (pre ++ p ∷ []) es) (blocks_from (pre ++ p ∷ []) es)) i
        ∙ (ap (λ r. heights_of pre ∷ r) (no_blocks (pre ++ p ∷ []) es o) ∙ ap (λ q. heights_of q ∷ []) (sym (append-nil pre)))
    by false o false i h rest = absurd (no h o)
      where
        no : has_open es ≡ true → has_open es ≡ false → ⊥
        no a b = cc
