-- Statements whose unproved `$p` are replaced with `$a`.
use Rattle.unproved.proofs.Words.{◌≡◌, ℕ, zero, suc, ◌+◌, ◌-◌, ◌<◌, List, [], ◌∷◌, ◌∙◌, length, drop, get_or, slice_set, ap, sym, arith, true, and_parts, drop_more, get_or_default, list_all, AreShaped, Database, Stmt, is_shaped, Open, as_axiom, assumed}
use Rattle.library.specs.Words.{Prove}

-- a well-shaped `$p` is well shaped as a `$a`
pub shaped-axiom : (s : Stmt) → is_shaped s ≡ true → is_shaped (as_axiom s) ≡ true
shaped-axiom (Prove label expr proof) h = let w = and_parts _ _ h in w.0
shaped-axiom s h = h

-- statements stay well shaped when one is replaced with a well-shaped one
pub shaped-set : (S : Database) (i : ℕ) (s : Stmt) → AreShaped S → is_shaped s ≡ true → AreShaped (slice_set S i s)
shaped-set [] i s h e = h
shaped-set (first ∷ S) zero s h e = let w = and_parts (is_shaped first) (list_all is_shaped S) h in rw e w.1
shaped-set (first ∷ S) (suc i) s h e =
    let w = and_parts (is_shaped first) (list_all is_shaped S) h in
    let f : is_shaped first ≡ true = w.0 in
    rw f (shaped-set S i s w.1 e)

-- each of a list of well-shaped statements is well shaped
pub shaped-get : (S : Database) (i : ℕ) (d : Stmt) → i < length S → AreShaped S → is_shaped (get_or S i d) ≡ true
shaped-get [] i d less h = absurd (omega (arith, less))
shaped-get (first ∷ S) zero d less h = let w = and_parts (is_shaped first) (list_all is_shaped S) h in w.0
shaped-get (first ∷ S) (suc i) d less h =
    let w = and_parts (is_shaped first) (list_all is_shaped S) h in
    shaped-get S i d (omega (arith, less)) w.1

-- replacing the statement at the next position of the list leaves the later positions to be
-- replaced
module _ (S : Database) (positions : List ℕ) (i : ℕ) (old new : Stmt) (less : i < length positions) (within : get_or positions i 0 - 1 < length S)
    (was : old ≡ get_or S (get_or positions i 0 - 1) old) (now : new ≡ as_axiom old) where
  pub assumed-on : assumed (slice_set S (get_or positions i 0 - 1) new) (drop (i + 1) positions) ≡ assumed S (drop i positions)
  assumed-on =
      sym (ap (assumed S) (drop_more positions i 0 less)
      ∙ (ap (λ s. assumed (slice_set S (get_or positions i 0 - 1) (as_axiom s)) (drop (i + 1) positions)) (sym (was ∙ get_or_default S (get_or positions i 0 - 1) old Open within))
      ∙ ap (λ s. assumed (slice_set S (get_or positions i 0 - 1) s) (drop (i + 1) positions)) (sym now)))

  pub shaped-on : AreShaped S → AreShaped (slice_set S (get_or positions i 0 - 1) new)
  shaped-on h =
      let e : is_shaped old ≡ true = ap is_shaped was ∙ shaped-get S (get_or positions i 0 - 1) old within h in
      shaped-set S (get_or positions i 0 - 1) new h (ap is_shaped now ∙ shaped-axiom old e)
