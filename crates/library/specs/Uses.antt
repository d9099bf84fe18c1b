-- The statements that the proof of a `$p` rests on, by its own citations or by those of the `$p`
-- that it cites, and the users of a statement.
-- Source: Metamath, 4.2.6 and appendix B: a proof cites by labels; a label that is listed and not
-- cited does not count.
-- The code walks the positions once, from the `$p` down or from the statement up; here one citation
-- leads to the next.
use Rattle.std.specs.Prelude.{◌≡◌, ◌↔◌, ℕ, ◌<◌, Bool, true, false, IsTrue, List, [], ◌∷◌, map, Some, slice_get}
use Rattle.library.specs.Words.{Name, Stmt, Axiom, Database, bares, stmt_at, proof_of, Carries, Item, Writes, label_or_empty, mandatory_labels, IsProvable}
use Rattle.proof_code.specs.declared.item.Item.TheVariants.{Cite}

-- the tokens of the `$p` at j write these items
pub record HasItems (S : Database) (j : ℕ) (items : List Item) : Type 0 where
  pub stmt : Stmt
  pub provable : IsProvable S j stmt
  pub written : Writes (proof_of stmt) (mandatory_labels (bares S) j stmt) items

-- one of the items cites the statement at a
pub record ItemsCite (S : Database) (items : List Item) (a : ℕ) : Type 0 where
  pub index : ℕ
  pub label : Name
  pub cited : Stmt
  pub cites : slice_get items index ≡ Some (Cite label)
  pub carries : Carries S a cited label

-- an item of the `$p` at j cites the statement at a
pub record Cites (S : Database) (j a : ℕ) : Type 0 where
  pub items : List Item
  pub has : HasItems S j items
  pub one : ItemsCite S items a

-- the statement is a `$a`
abbrev pub is_axiom : Stmt → Bool
is_axiom (Axiom label expr) = true
is_axiom s = false

-- a `$a` is at that position
pub record IsAxiomAt (S : Database) (a : ℕ) : Type 0 where
  pub stmt : Stmt
  pub stands : stmt_at S a ≡ Some stmt
  pub kind : IsTrue (is_axiom stmt)

-- the `$p` at j rests on the statement at a: it cites it, or cites a `$p` that rests on it
pub data RestsOn (S : Database) : ℕ → ℕ → Type 0 where
  directly : {j a : ℕ} → Cites S j a → RestsOn S j a
  through : {j b a : ℕ} → Cites S j b → RestsOn S b a → RestsOn S j a

-- the `$p` at j rests on the `$a` at a, which `Library::trace` then lists
abbrev pub Uses : Database → ℕ → ℕ → Type 0
Uses S j a = RestsOn S j a × IsAxiomAt S a

-- the `$p` at j is a user of the statement at a, which `Library::usage` lists: it cites the
-- statement, or, if all users are asked for (`true`), rests on it
abbrev pub IsUser : Database → Bool → ℕ → ℕ → Type 0
IsUser S true a j = RestsOn S j a
IsUser S false a j = Cites S j a

-- each number is above those before it, the first of them above this one
abbrev pub Rises : ℕ → List ℕ → Type 0
Rises above [] = Unit {0}
Rises above (n ∷ ns) = (above < n) × Rises n ns

-- the number is in the list
abbrev pub IsIn : ℕ → List ℕ → Type 0
IsIn n ns = (k : ℕ) × (slice_get ns k ≡ Some n)

-- the labels are those of the statements that pass, each once, in order
pub record AreLabelsOf (S : Database) (Passes : ℕ → Type 0) (labels : List Name) : Type 0 where
  pub positions : List ℕ
  pub rising : Rises 0 positions
  pub passing : (a : ℕ) → IsIn a positions ↔ Passes a
  pub labelled : labels ≡ map (λ a. label_or_empty (stmt_at S a)) positions
