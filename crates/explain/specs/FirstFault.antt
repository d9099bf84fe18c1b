-- The first fault of the run over the items of a proof: at an item, or at the end, after all
-- earlier items succeed.
-- Source: Metamath, 4.2.6 and appendix B; the limit is this project's.
-- The code stops at this fault.
use Rattle.std.specs.Prelude.{◌≡◌, ◌≢◌, ℕ, ◌+◌, ◌<◌, ◌≤◌, true, IsTrue, List, [], ◌∷◌, ◌++◌, length, take, Some, slice_get}
use Rattle.explain.specs.Words.{Name, Stmt, Expr, Database, before, expr_of, is_assertion, hypotheses, Carries, IsHypothesis, Item, Cite, Recall, Mark, Numbered, HeldResults, SYMBOLS_LIMIT, State, start, IsSaved, Runs}
use Rattle.explain.specs.declared.reason.ItemFault.{ItemFault}
use Rattle.explain.specs.declared.reason.ItemFault.TheVariants.{UnknownLabel, Inactive, NotEarlier, TooFewResults, OtherTypecode, OtherExpression, NotDisjoint, TooManySymbols, NoMarkedResult}
use Rattle.explain.specs.declared.reason.Reason.{Reason}
use Rattle.explain.specs.declared.reason.Reason.TheVariants as reason
use Rattle.explain.specs.CitationResults.{CitationGives, named_results}
use Rattle.explain.specs.Excerpts.{IsExcerpt, IsExcerptOf}
use Rattle.explain.specs.WrongResults.{IsResultsFault}

-- the last results on the stack, one for each mandatory hypothesis of the earlier assertion s at a,
-- are wrong
pub record HasWrongResults (S : Database) (names : List Name) (at : ℕ) (h : State) (a : ℕ) (s : Stmt) (fault : ItemFault) : Type 0 where
  pub earlier : a < at
  pub assertion : IsTrue (is_assertion s)
  pub below : List Expr
  pub results : List Expr
  pub whole : h.stack ≡ below ++ results
  pub count : length results ≡ length (hypotheses (before S a) s)
  pub wrong : IsResultsFault S names at a s results fault

-- a citation of the statement s at i gives a result with which the weight (the sum of the lengths
-- of the results of all citations and recalls so far) exceeds the limit
pub record ExceedsLimit (S : Database) (at : ℕ) (h : State) (i : ℕ) (s : Stmt) : Type 0 where
  pub below : List Expr
  pub result : Expr
  pub gives : CitationGives S at i s h.stack below result
  pub heavy : SYMBOLS_LIMIT < h.weight + length result

-- the fault of a citation of the statement s at i
abbrev pub IsCitationFault : Database → List Name → ℕ → State → ℕ → Stmt → ItemFault → Type 0
IsCitationFault S names at h i s (Inactive j) = (j ≡ i) × (i < at) × (IsHypothesis S at i s → ⊥) × (is_assertion s ≡ true → ⊥)
IsCitationFault S names at h i s (NotEarlier j) = (j ≡ i) × (at ≤ i)
IsCitationFault S names at h i s (TooFewResults b required present) = (b ≡ i) × (i < at) × IsTrue (is_assertion s)
    × (required ≡ length (hypotheses (before S i) s)) × (present ≡ length h.stack) × (present < required)
IsCitationFault S names at h i s (OtherTypecode b p r) = HasWrongResults S names at h i s (OtherTypecode b p r)
IsCitationFault S names at h i s (OtherExpression b p q r) = HasWrongResults S names at h i s (OtherExpression b p q r)
IsCitationFault S names at h i s (NotDisjoint b x y u v) = HasWrongResults S names at h i s (NotDisjoint b x y u v)
IsCitationFault S names at h i s TooManySymbols = ExceedsLimit S at h i s
IsCitationFault S names at h i s fault = ⊥

-- the fault of a citation of a label: no statement has it, or a citation of its statement has the
-- fault
abbrev pub IsLabelCitationFault : Database → List Name → ℕ → State → Name → ItemFault → Type 0
IsLabelCitationFault S names at h label UnknownLabel = (i : ℕ) (s : Stmt) → Carries S i s label → ⊥
IsLabelCitationFault S names at h label fault = (i : ℕ) × (s : Stmt) × Carries S i s label × IsCitationFault S names at h i s fault

-- the fault of a recall: no result is marked with the number, or the weight would exceed the limit
abbrev pub IsRecallFault : State → ℕ → ItemFault → Type 0
IsRecallFault h k NoMarkedResult = (e : Expr) → IsSaved h.saved k e → ⊥
IsRecallFault h k TooManySymbols = (e : Expr) × IsSaved h.saved k e × (SYMBOLS_LIMIT < h.weight + length e)
IsRecallFault h k fault = ⊥

-- the fault of a mark: there is no result
abbrev pub IsMarkFault : State → ItemFault → Type 0
IsMarkFault h NoMarkedResult = h.stack ≡ []
IsMarkFault h fault = ⊥

-- the fault of an item
abbrev pub IsItemFault : Database → List Name → ℕ → State → Item → ItemFault → Type 0
IsItemFault S names at h (Cite label) fault = IsLabelCitationFault S names at h label fault
IsItemFault S names at h (Recall k) fault = IsRecallFault h k fault
IsItemFault S names at h Mark fault = IsMarkFault h fault

-- the fault of an item after these results
abbrev pub IsItemFaultAfter : Numbered → ℕ → HeldResults → Item → ItemFault → Type 0
IsItemFaultAfter f at results item fault = IsItemFault f.statements f.names at (named_results f results) item fault

-- the items run to the state h, within the limit
pub record RunsWithinLimit (S : Database) (at : ℕ) (items : List Item) (h : State) : Type 0 where
  pub runs : Runs S at start items h
  pub light : h.weight ≤ SYMBOLS_LIMIT

-- the first fault of the run over the items of a proof of the statement s at `at`
abbrev pub IsFirstFault : Database → List Name → ℕ → Stmt → List Item → Reason → Type 0
IsFirstFault S names at s items (reason.Item k fault) =
    (h : State) × (item : Item) × RunsWithinLimit S at (take k items) h × (slice_get items k ≡ Some item) × IsItemFault S names at h item fault
IsFirstFault S names at s items (reason.ResultCount count) = (h : State) × RunsWithinLimit S at items h × (count ≡ length h.stack) × (count ≢ 1)
IsFirstFault S names at s items (reason.OtherTheorem proved) =
    (h : State) × (e : Expr) × RunsWithinLimit S at items h × (h.stack ≡ e ∷ []) × (e ≢ expr_of s) × IsExcerptOf names e proved

-- the number of results at the end is not one, or this is the beginning of the only result, by
-- number
abbrev pub IsEndReason : List (List ℕ) → Reason → Type 0
IsEndReason stack (reason.ResultCount count) = (count ≡ length stack) × (count ≢ 1)
IsEndReason stack (reason.OtherTheorem proved) = (e : List ℕ) × (stack ≡ e ∷ []) × IsExcerpt e proved
IsEndReason stack r = ⊥
