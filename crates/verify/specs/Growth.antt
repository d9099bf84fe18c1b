-- The effect of one item on the derivations so far: a machine over derivations.
-- Metamath, 4.2.6 and appendix B: the stack of a proof, read as trees.
-- The code keeps each node once, by number; here the trees are whole.
use Rattle.std.specs.Prelude.{◌≡◌, ℕ, zero, suc, List, [], ◌∷◌, ◌++◌, length, Some, slice_get}
use Rattle.verify.specs.Words.{Name, Stmt, Database, before, hypotheses, Carries, IsHypothesis, Item, Cite, Recall, Mark}
use Rattle.verify.specs.Derivations.{Derivation, hyp, apply, from_list}
use Rattle.verify.specs.Spells.{IsCitable}

-- the stack of derivations, the last on top; the derivations that were marked
pub record Trees : Type 0 where
  pub stack : List Derivation
  pub saved : List Derivation

-- a stack and marked derivations
abbrev pub trees : List Derivation → List Derivation → Trees
trees stack saved = record { stack = stack; saved = saved }

-- the citation of a label replaces the derivations above `below` with t
pub data Builds (S : Database) (at : ℕ) (label : Name) (stack below : List Derivation) (t : Derivation) : Type 0 where
  a_hypothesis : (i : ℕ) (s : Stmt) → Carries S i s label → IsHypothesis S at i s → t ≡ hyp i → stack ≡ below → Builds S at label stack below t
  an_assertion : (a : ℕ) (s : Stmt) (children : List Derivation) → Carries S a s label → IsCitable S at a s → length children ≡ length (hypotheses (before S a) s)
      → stack ≡ below ++ children → t ≡ apply a (from_list children) → Builds S at label stack below t

-- t is the derivation saved as number k, from 1
abbrev pub IsSavedTree : List Derivation → ℕ → Derivation → Type 0
IsSavedTree saved zero t = ⊥
IsSavedTree saved (suc k) t = slice_get saved k ≡ Some t

-- the item takes the derivations st to st'
abbrev pub Grows : Database → ℕ → Trees → Item → Trees → Type 0
Grows S at st (Cite label) st' = (below : List Derivation) × (t : Derivation) × Builds S at label st.stack below t × (st' ≡ trees (below ++ t ∷ []) st.saved)
Grows S at st (Recall k) st' = (t : Derivation) × IsSavedTree st.saved k t × (st' ≡ trees (st.stack ++ t ∷ []) st.saved)
Grows S at st Mark st' = (below : List Derivation) × (t : Derivation) × (st.stack ≡ below ++ t ∷ []) × (st' ≡ trees st.stack (st.saved ++ t ∷ []))

-- the items, one after the other, take the derivations st to st'
abbrev pub GrowsBy : Database → ℕ → Trees → List Item → Trees → Type 0
GrowsBy S at st [] st' = st ≡ st'
GrowsBy S at st (item ∷ items) st' = (next : Trees) × Grows S at st item next × GrowsBy S at next items st'

-- t in place of the derivations above `below`
abbrev pub with_tree : Trees → List Derivation → Derivation → Trees
with_tree st below t = trees (below ++ t ∷ []) st.saved
