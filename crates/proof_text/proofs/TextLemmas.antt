-- The text that was read back.
use Rattle.std.proofs.Common.{◌≡◌, ℕ, List, [], ◌∷◌, length, get_or, Some, true, refl, ap, subst, sym, ◌∙◌, arith}
use Rattle.std.specs.List.{list_all}
use Rattle.mm_lex.specs.Alphabet.{Name}
use Rattle.mm_lex.specs.Words.{spaced, words_of, is_word}
use Rattle.mm_lex.proofs.WordsLemmas.{words_of-spaced}
use Rattle.mm_read.specs.Statements.{Database, Expr}
use Rattle.mm_read.specs.Reads.{Reads}
use Rattle.mm_read.specs.declared.stmt.Stmt.{Stmt}
use Rattle.mm_read.specs.declared.stmt.Stmt.TheVariants.{Prove}
use Rattle.proof_code.specs.Writes.{is_compressed}
use Rattle.scope.specs.Active.{bare, bares, stmt_at}
use Rattle.verify.specs.Derivations.{Derivation}
use Rattle.verify.specs.Right.{IsProvable}
use Rattle.proof_text.specs.ProofTexts.{IsRewritten, IsTextOf, WritesDerivation, is_compressed_form}
use Rattle.proof_text.specs.declared.form.TextForm.{TextForm}

-- lists of words with the same text are the same
pub same-words : (xs ys : List Name) → list_all is_word xs ≡ true → list_all is_word ys ≡ true → spaced xs ≡ spaced ys → xs ≡ ys
same-words xs ys p q e = sym (words_of-spaced xs p) ∙ (ap words_of e ∙ words_of-spaced ys q)

-- a list of one statement
pub one-statement : (S : Database) (x : Stmt) → length S ≡ 1 → x ≡ get_or S 0 x → S ≡ x ∷ []
one-statement [] x one e = absurd (omega (arith, one))
one-statement (s ∷ []) x one e = ap (λ v. v ∷ []) (sym e)
one-statement (s ∷ r ∷ S) x one e = absurd (omega (arith, one))

-- the `$p` at a position, without its proof
pub bare-provable : (F : Database) (at : ℕ) (old : Stmt) (label : Name) (expr : Expr) (proof : List Name) → stmt_at F at ≡ Some (bare old) → old ≡ Prove label expr proof → IsProvable F at (Prove label expr [])
bare-provable F at old label expr proof stands is_old = record {
  stands = stands ∙ ap (λ s. Some (bare s)) is_old;
  provable = refl;
}

pub rewritten : (S : Database) (at : ℕ) (form : TextForm) (old new : Stmt) (t : Derivation) (label label' : Name) (expr expr' : Expr) (proof tokens : List Name)
    → old ≡ Prove label expr proof → new ≡ Prove label' expr' tokens → label ≡ label' → expr ≡ expr' → is_compressed tokens ≡ is_compressed_form form
    → WritesDerivation S at (Prove label expr []) tokens t → IsRewritten S at form old new t
rewritten S at form old new t label label' expr expr' proof tokens is_old is_new same_label same_expr in_form written = record {
  label = label;
  expr = expr;
  proof = proof;
  tokens = tokens;
  is_old = is_old;
  is_new = is_new ∙ (ap (λ l. Prove l expr' tokens) (sym same_label) ∙ ap (λ e. Prove label e tokens) (sym same_expr));
  in_form = in_form;
  written = written;
}

-- the text reads as the new statement
pub text-of : (D F : Database) (at : ℕ) (form : TextForm) (text : List ℕ) (t : Derivation) (read : Database) (old new : Stmt) → F ≡ bares D → stmt_at D at ≡ Some old
    → Reads text read → length read ≡ 1 → new ≡ get_or read 0 new → IsRewritten F at form old new t → IsTextOf D at form text t
text-of D F at form text t read old new same stands reads one first is = record {
  old = old;
  new = new;
  stands = stands;
  reads = subst (Reads text) (one-statement read new one first) reads;
  rewritten = subst (λ S. IsRewritten S at form old new t) same is;
}
