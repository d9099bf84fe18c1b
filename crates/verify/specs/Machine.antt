-- The effect of one item on the results so far: a machine over expressions.
-- Metamath, 4.2.6: the stack of a proof; appendix B: the results that were marked.
-- The code keeps ranges of one buffer of numbers in place of expressions.
use Rattle.std.specs.Prelude.{◌≡◌, ℕ, zero, suc, ◌+◌, List, [], ◌∷◌, ◌++◌, length, Some, slice_get}
use Rattle.verify.specs.Words.{Name, Stmt, Expr, Database, expr_of, Images, applied, Carries, IsHypothesis, IsInstance, premises, Item, Cite, Recall, Mark}

-- the stack of results, the last on top; the results that were marked; the weight so far
pub record Results (A : Type 0) : Type 0 where
  pub stack : List (List A)
  pub saved : List (List A)
  pub weight : ℕ

-- results over names
abbrev pub State : Type 0
State = Results Name

-- no results
abbrev pub start : State
start = record { stack = []; saved = []; weight = 0 }

-- the citation of a label replaces the results above `below` with e
pub data Cites (S : Database) (at : ℕ) (label : Name) (stack below : List Expr) (e : Expr) : Type 0 where
  of_hypothesis : (i : ℕ) (s : Stmt) → Carries S i s label → IsHypothesis S at i s → e ≡ expr_of s → stack ≡ below → Cites S at label stack below e
  of_assertion : (a : ℕ) (s : Stmt) (σ : Images) → Carries S a s label → IsInstance S at a s σ
      → stack ≡ below ++ premises S a s σ → e ≡ applied σ (expr_of s) → Cites S at label stack below e

-- e is the result saved as number k, from 1
abbrev pub IsSaved : {A : Type 0} → List (List A) → ℕ → List A → Type 0
IsSaved saved zero e = ⊥
IsSaved saved (suc k) e = slice_get saved k ≡ Some e

-- e was pushed onto the results `below`
abbrev pub with_result : {A : Type 0} → Results A → List (List A) → List A → Results A
with_result st below e = record { stack = below ++ e ∷ []; saved = st.saved; weight = st.weight + length e }

-- e was marked
abbrev pub with_mark : {A : Type 0} → Results A → List A → Results A
with_mark st e = record { stack = st.stack; saved = st.saved ++ e ∷ []; weight = st.weight }

-- the item takes the results st to st'
abbrev pub RunsItem : Database → ℕ → State → Item → State → Type 0
RunsItem S at st (Cite label) st' = (below : List Expr) × (e : Expr) × Cites S at label st.stack below e × (st' ≡ with_result st below e)
RunsItem S at st (Recall k) st' = (e : Expr) × IsSaved st.saved k e × (st' ≡ with_result st st.stack e)
RunsItem S at st Mark st' = (below : List Expr) × (e : Expr) × (st.stack ≡ below ++ e ∷ []) × (st' ≡ with_mark st e)

-- the items, one after the other, take the results st to st'
abbrev pub Runs : Database → ℕ → State → List Item → State → Type 0
Runs S at st [] st' = st ≡ st'
Runs S at st (item ∷ items) st' = (next : State) × RunsItem S at st item next × Runs S at next items st'
