-- The derivation that the items of a proof spell.
-- Metamath, appendix B: items in the order of a stack; a marked result may be recalled.
-- The code runs over the items once; here the items of a derivation begin with those of its
-- children.
use Rattle.std.specs.Prelude.{◌≡◌, ℕ, suc, ◌+◌, ◌<◌, IsTrue, List, [], ◌∷◌, ◌++◌, length, Some, slice_get}
use Rattle.verify.specs.Words.{Name, Stmt, Expr, Database, is_assertion, Carries, IsHypothesis, Item, Cite, Recall, Mark}
use Rattle.verify.specs.Derivations.{Derivation, Derivations, hyp, apply, none, more}
use Rattle.verify.specs.Concludes.{Concludes}

-- an earlier assertion
pub record IsCitable (S : Database) (at a : ℕ) (s : Stmt) : Type 0 where
  pub earlier : a < at
  pub assertion : IsTrue (is_assertion s)

mutual
  -- With the first list of derivations marked, the items spell the derivation, and leave the second
  -- list marked; the number is the items' weight: the sum of the lengths of all conclusions of
  -- citations and recalls.
  pub data Spells (S : Database) (at : ℕ) : List Derivation → List Item → Derivation → List Derivation → ℕ → Type 0 where
    cites_hypothesis : {marked : List Derivation} {i : ℕ} {label : Name}
        → (s : Stmt) (e : Expr) → Carries S i s label → IsHypothesis S at i s → Concludes S at (hyp i) e
        → Spells S at marked (Cite label ∷ []) (hyp i) marked (length e)
    cites_assertion : {marked after : List Derivation} {items : List Item} {a : ℕ} {children : Derivations} {weight : ℕ}
        → (s : Stmt) (e : Expr) (label : Name) (front : List Item) (front_weight : ℕ)
        → Carries S a s label → IsCitable S at a s → Concludes S at (apply a children) e
        → SpellsAll S at marked front children after front_weight
        → items ≡ front ++ Cite label ∷ [] → weight ≡ front_weight + length e
        → Spells S at marked items (apply a children) after weight
    recalls : {marked : List Derivation} {k : ℕ} {t : Derivation}
        → (e : Expr) → slice_get marked k ≡ Some t → Concludes S at t e
        → Spells S at marked (Recall (suc k) ∷ []) t marked (length e)
    marks : {marked after : List Derivation} {items : List Item} {t : Derivation} {weight : ℕ}
        → (front : List Item) (before : List Derivation) → Spells S at marked front t before weight
        → items ≡ front ++ Mark ∷ [] → after ≡ before ++ t ∷ []
        → Spells S at marked items t after weight

  -- the items spell derivations one after the other
  pub data SpellsAll (S : Database) (at : ℕ) : List Derivation → List Item → Derivations → List Derivation → ℕ → Type 0 where
    spells_none : {marked : List Derivation} → SpellsAll S at marked [] none marked 0
    spells_more : {marked after : List Derivation} {items : List Item} {t : Derivation} {children : Derivations} {weight : ℕ}
        → (first rest : List Item) (between : List Derivation) (first_weight rest_weight : ℕ)
        → Spells S at marked first t between first_weight → SpellsAll S at between rest children after rest_weight
        → items ≡ first ++ rest → weight ≡ first_weight + rest_weight
        → SpellsAll S at marked items (more t children) after weight
