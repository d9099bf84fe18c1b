-- A legal statement and earlier statements; a constant is never a variable.
use Rattle.frame.proofs.Words.{sym, ◌∙◌, ap, subst, arith, ◌≡◌, suc, ◌-◌, true, false, not, List, [], ◌∷◌, ◌++◌, length, take, Option, Some, slice_get, refl, take-append_seam, not-false, false_from_ne_true, Name, Stmt, Database, G1, G2, G3, G4, G5, G6, G7, G8, G9, G10, stmt_at, before, is_variable, is_constant, MatchesKind, kind_in, is_some_constant, is_some_variable, IsLegal, keeps, active-was, is_variable-active, naming_of, NameKind, Constant, AreAllLegal}
use Rattle.frame.proofs.LegalLabels.{all-fail}
use Rattle.frame.proofs.NamingLemmas.{naming-all}

-- ---- the properties of a legal statement

pub record Keeps (S : Database) (s : Stmt) : Type 0 where
  pub g5 : keeps S s G5 ≡ true
  pub g6 : keeps S s G6 ≡ true
  pub g7 : keeps S s G7 ≡ true
  pub g9 : keeps S s G9 ≡ true

pub legal-keeps : (S : Database) (s : Stmt) → IsLegal S s → Keeps S s
legal-keeps S s h =
    let r = all-fail (λ rule. not (keeps S s rule)) (G1 ∷ G2 ∷ G3 ∷ G4 ∷ G5 ∷ G6 ∷ G7 ∷ G8 ∷ G9 ∷ G10 ∷ []) h in
    record {
      g5 = not-false (keeps S s G5) r.1.1.1.1.0;
      g6 = not-false (keeps S s G6) r.1.1.1.1.1.0;
      g7 = not-false (keeps S s G7) r.1.1.1.1.1.1.0;
      g9 = not-false (keeps S s G9) r.1.1.1.1.1.1.1.1.0;
    }

-- the element after A is at the index `length A`
pub stands-at : {X : Type 0} (A : List X) (t : X) (B : List X) → slice_get (A ++ t ∷ B) (length A) ≡ Some t
stands-at [] t B = refl
stands-at (a ∷ A) t B = stands-at A t B

pub kept-legal : (S A : Database) (t : Stmt) (B : Database) → AreAllLegal S → S ≡ A ++ t ∷ B → IsLegal A t
kept-legal S A t B all whole =
    let at : stmt_at S (suc (length A)) ≡ Some t = ap (λ v. slice_get v (length A)) whole ∙ stands-at A t B in
    let one : suc (length A) - 1 ≡ length A = omega arith in
    let cut : before S (suc (length A)) ≡ A = ap (λ n. take n S) one ∙ (ap (take (length A)) whole ∙ take-append_seam A (t ∷ B)) in
    subst (λ D. IsLegal D t) cut (all (suc (length A)) t at)

pub constant-no_variable : (S : Database) (x : Name) → AreAllLegal S → is_constant S x ≡ true → is_variable S x ≡ false
constant-no_variable S x all h = false_from_ne_true (is_variable S x) (λ e. apart (kind_in (naming_of S) x) (sym told.constant ∙ h) (sym told.variable ∙ active-was 1 S x (sym (is_variable-active S x) ∙ e)))
  where
    told : MatchesKind S x (kind_in (naming_of S) x)
    told = (naming-all S all).kinds_match x

    apart : (kind : Option NameKind) → is_some_constant kind ≡ true → is_some_variable kind ≡ true → ⊥
    apart (Some Constant) c v = cc
    apart kind c v = cc
