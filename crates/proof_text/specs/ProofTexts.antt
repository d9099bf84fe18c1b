-- The text of a `$p` with a proof that has another form and spells the same derivation.
-- Metamath, 4.2.6 and appendix B: a normal proof and a compressed one may spell one derivation.
-- The code writes a text from the steps of a proof, reads it back, and compares the steps.
use Rattle.std.specs.Prelude.{◌≡◌, ℕ, Bool, true, false, List, [], ◌∷◌, Some}
use Rattle.mm_lex.specs.Alphabet.{Name}
use Rattle.mm_read.specs.Reads.{Reads}
use Rattle.mm_read.specs.Statements.{Database, Expr}
use Rattle.mm_read.specs.declared.stmt.Stmt.{Stmt}
use Rattle.mm_read.specs.declared.stmt.Stmt.TheVariants.{Prove}
use Rattle.proof_code.specs.Writes.{Writes, is_compressed}
use Rattle.proof_code.specs.declared.item.Item.{Item}
use Rattle.scope.specs.Active.{bares, stmt_at}
use Rattle.verify.specs.Derivations.{Derivation}
use Rattle.verify.specs.Proves.{mandatory_labels}
use Rattle.verify.specs.Right.{Derives}
use Rattle.proof_text.specs.declared.form.TextForm.{TextForm}
use Rattle.proof_text.specs.declared.form.TextForm.TheVariants.{Normal, Compressed}

-- the tokens write items, under the mandatory labels of the `$p` s at a position, that spell this
-- derivation of it
pub record WritesDerivation (S : Database) (at : ℕ) (s : Stmt) (tokens : List Name) (t : Derivation) : Type 0 where
  pub items : List Item
  pub written : Writes tokens (mandatory_labels S at s) items
  pub derives : Derives S at items t

-- whether a proof in this form is compressed
abbrev pub is_compressed_form : TextForm → Bool
is_compressed_form Normal = false
is_compressed_form Compressed = true

-- both statements are a `$p` with one label and one expression, and the new one has a proof in this
-- form that spells the derivation
pub record IsRewritten (S : Database) (at : ℕ) (form : TextForm) (old new : Stmt) (t : Derivation) : Type 0 where
  pub label : Name
  pub expr : Expr
  pub proof : List Name
  pub tokens : List Name
  pub is_old : old ≡ Prove label expr proof
  pub is_new : new ≡ Prove label expr tokens
  pub in_form : is_compressed tokens ≡ is_compressed_form form
  pub written : WritesDerivation S at (Prove label expr []) tokens t

-- the text reads as the statement at a position with such a proof
pub record IsTextOf (D : Database) (at : ℕ) (form : TextForm) (text : List ℕ) (t : Derivation) : Type 0 where
  pub old : Stmt
  pub new : Stmt
  pub stands : stmt_at D at ≡ Some old
  pub reads : Reads text (new ∷ [])
  pub rewritten : IsRewritten (bares D) at form old new t

-- the same for the derivation that these items spell
pub record IsProofText (D : Database) (at : ℕ) (items : List Item) (form : TextForm) (text : List ℕ) : Type 0 where
  pub tree : Derivation
  pub was : Derives (bares D) at items tree
  pub is_text : IsTextOf D at form text tree
