-- The fault of an item that cannot be done.
use Rattle.explain.proofs.Words.{◌≡◌, ℕ, zero, suc, ◌+◌, ◌-◌, ◌<◌, ◌≤◌, cond, List, [], ◌∷◌, ◌++◌, length, take, get_or, arith, refl, sym, ◌∙◌, ap, subst, Some, None, Option, slice_get, Name, Stmt, Database, Expr, Carries, IsPosition, ArePositions, Item, Cite, Recall, Mark, item_of, items_of, ItemFault, UnknownLabel, Inactive, NotEarlier, TooFewResults, OtherTypecode, OtherExpression, NotDisjoint, TooManySymbols, NoMarkedResult, IsCitationFault, IsLabelCitationFault, CitationGives, of_hypothesis, of_assertion, take_more, slice_get-map, SYMBOLS_LIMIT, le-ltb, stmt_at, same_Some}
use Rattle.verify.specs.Machine.{State, Cites, of_hypothesis as cites_hypothesis, of_assertion as cites_assertion, RunsItem, with_result, with_mark}
use Rattle.verify.proofs.Words.{take_all, option_map, slice_get-get_or}

-- ---- the positions of labels

pub found-length : (S : Database) (labels : List Name) (positions : List (Option ℕ)) → ArePositions S labels positions → length labels ≡ length positions
found-length S labels positions are = sym are.count

pub found-at : (S : Database) (labels : List Name) (positions : List (Option ℕ)) (k : ℕ) → ArePositions S labels positions → k < length positions → IsPosition S (get_or labels k []) (get_or positions k None)
found-at S labels positions k are less = are.each k (let c = are.count in omega (arith, less, c))

-- ---- the meaning of a number

-- a number greater than the count of labels is a recall
pub recall_item : (labels : List Name) (number : ℕ) → length labels < number → item_of labels number ≡ Recall (suc (number - length labels - 1))
recall_item labels zero l = absurd (omega (arith, l))
recall_item labels (suc n) l =
    let same : n - length labels ≡ suc n - length labels - 1 = omega (arith, l) in
    ap (λ b. cond b (Cite (get_or labels n [])) (Recall (suc (n - length labels)))) (le-ltb n (length labels) (omega (arith, l))) ∙ ap (λ k. Recall (suc k)) same

-- the fault of a citation of a statement is that of a citation of its label
pub cited_fails : (S : Database) (names : List Name) (at : ℕ) (h : State) (i : ℕ) (s : Stmt) (label : Name) (fault : ItemFault) → Carries S i s label → IsCitationFault S names at h i s fault → IsLabelCitationFault S names at h label fault
cited_fails S names at h i s label UnknownLabel carries fails = absurd fails
cited_fails S names at h i s label (Inactive j) carries fails = (i, s, carries, fails)
cited_fails S names at h i s label (NotEarlier j) carries fails = (i, s, carries, fails)
cited_fails S names at h i s label (TooFewResults b t n) carries fails = (i, s, carries, fails)
cited_fails S names at h i s label (OtherTypecode b p r) carries fails = (i, s, carries, fails)
cited_fails S names at h i s label (OtherExpression b p q r) carries fails = (i, s, carries, fails)
cited_fails S names at h i s label (NotDisjoint b x y u v) carries fails = (i, s, carries, fails)
cited_fails S names at h i s label TooManySymbols carries fails = (i, s, carries, fails)
cited_fails S names at h i s label NoMarkedResult carries fails = absurd fails

-- if a statement gives an expression, the machine can cite its label
pub cites : (S : Database) (at i : ℕ) (s : Stmt) (label : Name) (stack below : List Expr) (e : Expr) → Carries S i s label → CitationGives S at i s stack below e → Cites S at label stack below e
cites S at i s label stack below e carries (of_hypothesis active same whole) = cites_hypothesis i s carries active same whole
cites S at i s label stack below e carries (of_assertion σ fits whole same) = cites_assertion i s σ carries fits whole same

module _ (S : Database) (at : ℕ) (h : State) (light : h.weight ≤ SYMBOLS_LIMIT) where
  -- if a mark cannot be made, the stack is empty
  pub mark_fails : ((next : State) → RunsItem S at h Mark next → SYMBOLS_LIMIT < next.weight) → h.stack ≡ []
  mark_fails stuck = by h.stack refl
    where
      by : (stack : List Expr) → h.stack ≡ stack → h.stack ≡ []
      by [] e = e
      by (x ∷ xs) e =
          let n = length xs in
          let split : h.stack ≡ take n (x ∷ xs) ++ get_or (x ∷ xs) n [] ∷ [] =
          e ∙ (sym (take_all (n + 1) (x ∷ xs) (omega arith)) ∙ take_more (x ∷ xs) n [] (omega arith)) in
          absurd (let over = stuck (with_mark h (get_or (x ∷ xs) n [])) (take n (x ∷ xs), get_or (x ∷ xs) n [], split, refl) in omega (arith, over, light))

  -- with a recall of a saved result that has no step within the limit, the lengths of all results
  -- exceed it
  pub recall_heavy : (k : ℕ) → ((next : State) → RunsItem S at h (Recall (suc k)) next → SYMBOLS_LIMIT < next.weight) → k < length h.saved
      → (e : Expr) × (slice_get h.saved k ≡ Some e) × (SYMBOLS_LIMIT < h.weight + length e)
  recall_heavy k stuck less =
      let there = slice_get-get_or h.saved k [] less in
      (get_or h.saved k [], there, stuck (with_result h h.stack (get_or h.saved k [])) (get_or h.saved k [], there, refl))

  -- with a citation that has no step within the limit, the lengths of all results exceed it, if the
  -- statement gives a result
  pub cite_stuck : (label : Name) (i : ℕ) (r : Stmt) → Carries S i r label → ((next : State) → RunsItem S at h (Cite label) next → SYMBOLS_LIMIT < next.weight)
      → (s : Stmt) (below : List Expr) (e : Expr) → stmt_at S i ≡ Some s → CitationGives S at i s h.stack below e → SYMBOLS_LIMIT < h.weight + length e
  cite_stuck label i r carries stuck s below e stands gives =
      let same : r ≡ s = same_Some r s (sym carries.stands ∙ stands) in
      stuck (with_result h below e) (below, e, cites S at i s label h.stack below e (subst (λ t. Carries S i t label) same carries) gives, refl)

-- the item at an index is that of the number at the index
pub what_is : (labels : List Name) (numbers : List ℕ) (items : List Item) (k : ℕ) (what : Item) → items_of labels numbers ≡ items → slice_get items k ≡ Some what → k < length numbers
    → item_of labels (get_or numbers k 0) ≡ what
what_is labels numbers items k what is there less =
    same_Some (item_of labels (get_or numbers k 0)) what
    (sym (slice_get-map (item_of labels) numbers k ∙ ap (option_map (item_of labels)) (slice_get-get_or numbers k 0 less)) ∙ subst (λ l. slice_get l k ≡ Some what) (sym is) there)
