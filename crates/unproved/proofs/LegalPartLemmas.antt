-- The statements that are left when each that breaks a rule is left out.
use Rattle.unproved.proofs.Words.{◌≡◌, ◌∙◌, ℕ, zero, suc, ◌+◌, ◌-◌, ◌<◌, ◌≤◌, ◌==◌, Bool, List, [], ◌∷◌, ◌++◌, length, Option, Some, None, cond, not, nat_lt, true, refl, sym, ap, subst, arith, list_all, map-append, Stmt, Database, AllLegal, AreShaped, is_shaped, Open, Close, bare, bares, broken_rule, end_rule, first_broken, numbered, or_later, count, is_close, is_open, G10, and_parts}
use Rattle.std.specs.Prelude.{replicate}
use Rattle.std.proofs.lemmas.Bool.{and_from, eq-eqb, lt-ltb, ltb-true}
use Rattle.std.proofs.lemmas.List.{append-nil}
use Rattle.std.proofs.Common.{append_assoc}
use Rattle.library.proofs.CheckedDatabaseLemmas.{bares-bares}
use Rattle.library.proofs.JoinedRulesLemmas.{AreLegal, broken-bares, none-join}
use Rattle.scope.proofs.ActiveLemmas.{count-append}
use Rattle.scope.proofs.LegalLemmas.{legal-close}
use Rattle.scope.specs.Legal.{IsLegal}
use Rattle.scope.specs.declared.rule.Rule.{Rule}
use Rattle.std.specs.Iterator.{Yields}
use Rattle.std.specs.Vec.Iter.{into_iter_items, into_iter_steps}
use Rattle.std.specs.declared.vec.IntoIter.{IntoIter}
use Rattle.unproved.specs.declared.legal_part.LeftOut.{LeftOut}
use Rattle.unproved.specs.LegalPart.{Sifted, both, sift_by, sift_one, sift_from, sifted, frames_after, open_after, open_step, closed}

-- ---- one statement more

one-is : (w : Sifted) (at : ℕ) (s : Stmt) → sift_one w at s ≡ sift_by w at s (broken_rule w.kept s)
unfolding sift_one
one-is w at s = refl

sift-snoc : (w : Sifted) (at : ℕ) (S : Database) (s : Stmt) → sift_from w at (S ++ s ∷ []) ≡ sift_one (sift_from w at S) (at + length S) s
sift-snoc w at [] s = let none : at ≡ at + 0 = omega arith in ap (λ n. sift_one w n s) none
sift-snoc w at (r ∷ S) s =
    let place : suc at + length S ≡ at + suc (length S) = omega arith in
    sift-snoc (sift_one w at r) (suc at) S s ∙ ap (λ n. sift_one (sift_from (sift_one w at r) (suc at) S) n s) place

module _ (S kept frames : Database) (left : List LeftOut) (s : Stmt) (position : ℕ) (broken : Option Rule) (kept_is : kept ≡ (sifted S).kept) (left_is : left ≡ (sifted S).left_out)
    (place : position ≡ 1 + length S) (frames_are : frames ≡ bares kept) (broken_is : broken ≡ broken_rule frames s) where
  whole : both kept left ≡ sifted S
  whole = ap (λ k. both k left) kept_is ∙ ap (λ l. both (sifted S).kept l) left_is

  rule : broken ≡ broken_rule (sifted S).kept s
  rule = broken_is ∙ (broken-bares frames kept (ap bares frames_are ∙ bares-bares kept) s ∙ ap (λ U. broken_rule U s) kept_is)

  step : sift_by (both kept left) position s broken ≡ sifted (S ++ s ∷ [])
  step =
      ap (λ w. sift_by w position s broken) whole
      ∙ (ap (λ r. sift_by (sifted S) position s r) rule
      ∙ (sym (one-is (sifted S) position s) ∙ (ap (λ n. sift_one (sifted S) n s) place ∙ sym (sift-snoc (both [] []) 1 S s))))

  pub kept-more : (new : Database) → new ≡ (sift_by (both kept left) position s broken).kept → new ≡ (sifted (S ++ s ∷ [])).kept
  kept-more new e = e ∙ ap (λ w. w.kept) step

  pub left-out-more : (new : List LeftOut) → new ≡ (sift_by (both kept left) position s broken).left_out → new ≡ (sifted (S ++ s ∷ [])).left_out
  left-out-more new e = e ∙ ap (λ w. w.left_out) step

pub frames-more : (r : Option Rule) (frames frames' kept kept' : Database) (left : List LeftOut) (at : ℕ) (s : Stmt) → frames ≡ bares kept → frames' ≡ frames_after r frames s
    → kept' ≡ (sift_by (both kept left) at s r).kept → frames' ≡ bares kept'
frames-more None frames frames' kept kept' left at s are more is = more ∙ (ap (λ U. U ++ bare s ∷ []) are ∙ (sym (map-append bare kept (s ∷ [])) ∙ ap bares (sym is)))
frames-more (Some broken) frames frames' kept kept' left at s are more is = more ∙ (are ∙ ap bares (sym is))

-- ---- the kept statements are well shaped

all-push : (S : Database) (s : Stmt) → AreShaped S → is_shaped s ≡ true → AreShaped (S ++ s ∷ [])
all-push [] s all one = and_from (is_shaped s) true one refl
all-push (r ∷ S) s all one =
    let parts = and_parts (is_shaped r) (list_all is_shaped S) all in
    and_from (is_shaped r) (list_all is_shaped (S ++ s ∷ [])) parts.0 (all-push S s parts.1 one)

shaped-by : (w : Sifted) (at : ℕ) (s : Stmt) (r : Option Rule) → AreShaped w.kept → is_shaped s ≡ true → AreShaped (sift_by w at s r).kept
shaped-by w at s None all one = all-push w.kept s all one
shaped-by w at s (Some broken) all one = all

shaped-from : (w : Sifted) (at : ℕ) (S : Database) → AreShaped w.kept → AreShaped S → AreShaped (sift_from w at S).kept
shaped-from w at [] all are = all
shaped-from w at (s ∷ S) all are =
    let parts = and_parts (is_shaped s) (list_all is_shaped S) are in
    shaped-from (sift_one w at s) (suc at) S (subst (λ v. AreShaped v.kept) (sym (one-is w at s)) (shaped-by w at s (broken_rule w.kept s) all parts.0)) parts.1

pub shaped-closes : (S : Database) (n : ℕ) → AreShaped S → AreShaped (S ++ replicate n Close)
shaped-closes [] zero all = refl
shaped-closes [] (suc n) all = shaped-closes [] n all
shaped-closes (s ∷ S) n all =
    let parts = and_parts (is_shaped s) (list_all is_shaped S) all in
    and_from (is_shaped s) (list_all is_shaped (S ++ replicate n Close)) parts.0 (shaped-closes S n parts.1)

pub shaped-part : (S : Database) → AreShaped S → AreShaped (closed (sifted S).kept)
shaped-part S are = shaped-closes (sifted S).kept (open_after 0 (sifted S).kept) (shaped-from (both [] []) 1 S refl are)

-- ---- blocks

pub replicate-push : (n : ℕ) → replicate n Close ++ Close ∷ [] ≡ replicate (n + 1) Close
replicate-push zero = refl
replicate-push (suc n) = let e : suc (n + 1) ≡ suc n + 1 = omega arith in ap (λ r. Close ∷ r) (replicate-push n) ∙ ap (λ k. replicate k Close) e

-- ---- the statements that are kept are legal

legal-push : (S A : Database) (s : Stmt) → AreLegal S A → IsLegal (S ++ A) s → AreLegal S (A ++ s ∷ [])
legal-push S [] s all one = (subst (λ U. IsLegal U s) (append-nil S) one, tt)
legal-push S (a ∷ A) s all one = (all.0, legal-push (S ++ a ∷ []) A s all.1 (subst (λ U. IsLegal U s) (sym (append_assoc S (a ∷ []) A)) one))

legal-by : (w : Sifted) (at : ℕ) (s : Stmt) (r : Option Rule) → broken_rule w.kept s ≡ r → AreLegal [] w.kept → AreLegal [] (sift_by w at s r).kept
legal-by w at s None is all = legal-push [] w.kept s all is
legal-by w at s (Some broken) is all = all

legal-from : (w : Sifted) (at : ℕ) (S : Database) → AreLegal [] w.kept → AreLegal [] (sift_from w at S).kept
legal-from w at [] all = all
legal-from w at (s ∷ S) all = legal-from (sift_one w at s) (suc at) S (subst (λ v. AreLegal [] v.kept) (sym (one-is w at s)) (legal-by w at s (broken_rule w.kept s) refl all))

-- so many blocks are open after statements
abbrev IsDepth : ℕ → Database → Type 0
IsDepth depth S = depth + count is_close S ≡ count is_open S

module _ (S : Database) (depth : ℕ) (is : IsDepth depth S) where
  closed_more : (s : Stmt) → count is_close (S ++ s ∷ []) ≡ count is_close S + count is_close (s ∷ [])
  closed_more s = count-append is_close S (s ∷ [])

  opened_more : (s : Stmt) → count is_open (S ++ s ∷ []) ≡ count is_open S + count is_open (s ∷ [])
  opened_more s = count-append is_open S (s ∷ [])

  depth-step : (s : Stmt) → IsLegal S s → IsDepth (open_step depth s) (S ++ s ∷ [])
  depth-step Open _ = omega (arith, is, closed_more Open, opened_more Open)
  depth-step Close legal = close-step (ltb-true (count is_close S) (count is_open S) (legal-close S legal))
    where
      close-step : count is_close S < count is_open S → IsDepth (depth - 1) (S ++ Close ∷ [])
      close-step less = omega (arith, is, closed_more Close, opened_more Close, less)
  depth-step s _ = omega (arith, is, closed_more s, opened_more s)

depth-from : (S A : Database) (depth : ℕ) → AreLegal S A → IsDepth depth S → IsDepth (open_after depth A) (S ++ A)
depth-from S [] depth legal is = subst (IsDepth depth) (sym (append-nil S)) is
depth-from S (a ∷ A) depth legal is =
    subst (IsDepth (open_after (open_step depth a) A)) (append_assoc S (a ∷ []) A) (depth-from (S ++ a ∷ []) A (open_step depth a) legal.1 (depth-step S depth is a legal.0))

-- a `$}` for each open block breaks no rule, and leaves none open
none-closes : (n at : ℕ) (S : Database) → IsDepth n S → first_broken at S (replicate n Close) ≡ None
none-closes zero at S is =
    let same : (count is_open S == count is_close S) ≡ true = eq-eqb (count is_open S) (count is_close S) (omega (arith, is)) in
    ap (λ b. numbered at (cond b None (Some G10))) same
none-closes (suc n) at S is =
    let less : nat_lt (count is_close S) (count is_open S) ≡ true = lt-ltb (count is_close S) (count is_open S) (omega (arith, is)) in
    ap (λ b. or_later at (cond (not b) (Some G10) None) (first_broken (at + 1) (S ++ Close ∷ []) (replicate n Close))) less
    ∙ none-closes n (at + 1) (S ++ Close ∷ []) (omega (arith, is, count-append is_close S (Close ∷ []), count-append is_open S (Close ∷ [])))

pub legal-closed : (S : Database) → AllLegal (closed (sifted S).kept)
legal-closed S =
    let kept : Database = (sifted S).kept in
    let legal : AreLegal [] kept = legal-from (both [] []) 1 S tt in
    none-join 1 1 [] kept (replicate (open_after 0 kept) Close) legal (none-closes (open_after 0 kept) 1 kept (depth-from [] kept 0 legal refl))

-- the kept statements, as they are made
module _ (S kept all : Database) (kept_is : kept ≡ (sifted S).kept) (all_is : all ≡ closed kept) where
  same : all ≡ closed (sifted S).kept
  same = all_is ∙ ap closed kept_is

  pub part-shaped : AreShaped S → AreShaped all
  part-shaped are = subst AreShaped (sym same) (shaped-part S are)

  pub part-legal : AllLegal all
  part-legal = subst AllLegal (sym same) (legal-closed S)

-- ---- a list that is gone over from the front

pub taken_front : {X A : Type 0} (s : IntoIter X A) (xs : List X) (t : IntoIter X A) → Yields into_iter_steps s xs t → into_iter_items s ≡ xs ++ into_iter_items t
taken_front s [] t y = ap into_iter_items y
taken_front s (x ∷ xs) t y = y.1.0 ∙ ap (λ ys. x ∷ ys) (taken_front y.0 xs t y.2)
