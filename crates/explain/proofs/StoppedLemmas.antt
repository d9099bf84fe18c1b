-- The item or the end where the run stops is the first fault.
use Rattle.explain.proofs.Words.{nat_lt, nat_tests, ◌≡◌, Bool, true, false, ℕ, suc, ◌+◌, ◌-◌, ◌<◌, ◌≤◌, List, [], ◌∷◌, length, map, take, get_or, arith, refl, sym, ◌∙◌, ap, subst, Option, Some, None, slice_get, Name, Stmt, Database, Expr, decode, stmt_at, Carries, Item, Cite, Recall, Mark, item_of, items_of, ItemFault, TooManySymbols, NoMarkedResult, Reason, CitationGives, IsItemFault, RunsWithinLimit, IsFirstFault, IsPosition, ArePositions, Results, State, IsStopped, item-cite, get_or_default, same_Some, SYMBOLS_LIMIT}
use Rattle.explain.proofs.CitationFaultLemmas.{excerpt_named}
use Rattle.explain.specs.declared.reason.Reason.TheVariants as reason
use Rattle.explain.specs.FirstFault.{IsEndReason}
use Rattle.explain.proofs.RunItemLemmas.{mark_fails, recall_heavy, cite_stuck, recall_item, what_is, found-at}
use Rattle.verify.specs.RunsItemByNumber.{named}
use Rattle.verify.specs.Stops.{IsNotOnly}
use Rattle.verify.proofs.Words.{take_all, length-map, slice_get-get_or, slice_get_within}

module _ (S : Database) (names : List Name) (at : ℕ) (items : List Item) (k : ℕ) (st : Results ℕ) (stopped : IsStopped S at names items k st) where
  -- the results before the item, by name
  abbrev pub held : State
  held = named names st

  -- the items before the item run within the limit
  pub runs_well : RunsWithinLimit S at (take k items) held
  runs_well = record { runs = stopped.stops.runs; light = stopped.light }

  -- a mark without a result
  pub fails_mark : (what : Item) → slice_get items k ≡ Some what → Mark ≡ what → IsItemFault S names at held what NoMarkedResult
  fails_mark what there same = subst (λ i. IsItemFault S names at held i NoMarkedResult) same (mark_fails S at held stopped.light (stopped.stops.stuck Mark (there ∙ ap Some (sym same))))

  -- a recall of a saved result, or of one that is not saved
  pub fails_recall_heavy : (what : Item) (i : ℕ) → slice_get items k ≡ Some what → Recall (suc i) ≡ what → i < length st.saved → IsItemFault S names at held what TooManySymbols
  fails_recall_heavy what i there same less =
      let m = length-map st.saved (decode names) in
      subst (λ w. IsItemFault S names at held w TooManySymbols) same
      (recall_heavy S at held stopped.light i (stopped.stops.stuck (Recall (suc i)) (there ∙ ap Some (sym same))) (omega (arith, m, less)))

  pub fails_recall_none : (what : Item) (i : ℕ) → Recall (suc i) ≡ what → length st.saved ≤ i → IsItemFault S names at held what NoMarkedResult
  fails_recall_none what i same over =
      let m = length-map st.saved (decode names) in
      subst (λ w. IsItemFault S names at held w NoMarkedResult) same
      (λ e saved. let w = slice_get_within (map (decode names) st.saved) i e saved in omega (arith, w, m, over))

  pub fails_recall : (what : Item) (i : ℕ) (fault : ItemFault) → slice_get items k ≡ Some what → Recall (suc i) ≡ what
      → (i < length st.saved → fault ≡ TooManySymbols) → (length st.saved ≤ i → fault ≡ NoMarkedResult) → IsItemFault S names at held what fault
  fails_recall what i fault there same marked unmarked = by (nat_lt i (length st.saved)) refl
    where
      by : (b : Bool) → nat_lt i (length st.saved) ≡ b → IsItemFault S names at held what fault
      by true e =
          let less : i < length st.saved = grind (arith, nat_tests) in
          subst (IsItemFault S names at held what) (sym (marked less)) (fails_recall_heavy what i there same less)
      by false e =
          let over : length st.saved ≤ i = grind (arith, nat_tests) in
          subst (IsItemFault S names at held what) (sym (unmarked over)) (fails_recall_none what i same over)

  -- with each result that a citation gives, the lengths of all results exceed the limit
  pub cannot_cite : (label : Name) (i : ℕ) (r : Stmt) → slice_get items k ≡ Some (Cite label) → Carries S i r label
      → (s : Stmt) (below : List Expr) (e : Expr) → stmt_at S i ≡ Some s → CitationGives S at i s held.stack below e → SYMBOLS_LIMIT < held.weight + length e
  cannot_cite label i r there carries = cite_stuck S at held stopped.light label i r carries (stopped.stops.stuck (Cite label) there)

  -- the fault of an item is the first fault
  pub first_at : (s : Stmt) (what : Item) (fault : ItemFault) → slice_get items k ≡ Some what → IsItemFault S names at held what fault → IsFirstFault S names at s items (reason.Item k fault)
  first_at s what fault there fails = (held, what, runs_well, there, fails)

-- the fault at the end
module _ (S : Database) (names : List Name) (at : ℕ) (items : List Item) (st : Results ℕ) (s : Stmt) (stopped : IsStopped S at names items (length items) st) (other : IsNotOnly names st s) where
  whole : RunsWithinLimit S at items (held S names at items (length items) st stopped)
  whole = subst (λ is. RunsWithinLimit S at is (held S names at items (length items) st stopped)) (take_all (length items) items (omega arith)) (runs_well S names at items (length items) st stopped)

  pub first_end : (r : Reason) → IsEndReason st.stack r → IsFirstFault S names at s items r
  first_end (reason.Item k fault) is = absurd is
  first_end (reason.ResultCount count) is = (held S names at items (length items) st stopped, whole, is.0 ∙ sym (length-map st.stack (decode names)), is.1)
  first_end (reason.OtherTheorem proved) is = (
    held S names at items (length items) st stopped,
    decode names is.0,
    whole,
    ap (map (decode names)) is.1,
    λ same. other (ap (map (decode names)) is.1 ∙ ap (λ e. e ∷ []) same),
    excerpt_named names is.0 proved is.2,
  )

-- ---- items by their numbers

module _ (labels : List Name) (numbers : List ℕ) (items : List Item) (k : ℕ) (is : items_of labels numbers ≡ items) where
  pub number_within : k < length items → k < length numbers
  number_within less = let l = length-map numbers (item_of labels) in let same = ap length is in omega (arith, less, l, same)

  -- the item at an index is that of the number at the index
  pub item_there : k < length items → slice_get items k ≡ Some (item_of labels (get_or numbers k 0))
  item_there less =
      let there = slice_get-get_or items k Mark less in
      there ∙ ap Some (sym (what_is labels numbers items k (get_or items k Mark) is there (number_within less)))

  pub mark_there : (what : Item) → slice_get items k ≡ Some what → k < length items → get_or numbers k 0 ≡ 0 → Mark ≡ what
  mark_there what there less zero_is = ap (item_of labels) (sym zero_is) ∙ what_is labels numbers items k what is there (number_within less)

  pub recall_there : (what : Item) (n : ℕ) → slice_get items k ≡ Some what → k < length items → n ≡ length labels → n < get_or numbers k 0 → Recall (suc (get_or numbers k 0 - n - 1)) ≡ what
  recall_there what n there less same over =
      ap (λ m. Recall (suc (get_or numbers k 0 - m - 1))) same ∙ (sym (recall_item labels (get_or numbers k 0) (omega (arith, same, over))) ∙ what_is labels numbers items k what is there (number_within less))

  pub cite_there : k < length items → (get_or numbers k 0 ≡ 0 → ⊥) → get_or numbers k 0 ≤ length labels → slice_get items k ≡ Some (Cite (get_or labels (get_or numbers k 0 - 1) []))
  cite_there less some within =
      item_there less ∙ ap Some (item-cite labels (get_or numbers k 0) (get_or numbers k 0 - 1) (omega (arith, some)) (omega (arith, some, within)))

-- the position at an index is that of the statement with the label at the index
pub position_at : (S : Database) (labels : List Name) (positions : List (Option ℕ)) (k : ℕ) (d o : Option ℕ) → ArePositions S labels positions → k < length positions → o ≡ get_or positions k d → IsPosition S (get_or labels k []) o
position_at S labels positions k d o are less is = subst (IsPosition S (get_or labels k [])) (get_or_default positions k None d less ∙ sym is) (found-at S labels positions k are less)

-- a stack of one result
pub one_result : (stack : List (List ℕ)) (e : List ℕ) → length stack ≡ 1 → slice_get stack 0 ≡ Some e → stack ≡ e ∷ []
one_result [] e one there = absurd (omega (arith, one))
one_result (x ∷ []) e one there = ap (λ y. y ∷ []) (same_Some x e there)
one_result (x ∷ y ∷ r) e one there = absurd (omega (arith, one))
