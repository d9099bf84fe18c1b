-- Legal statements are good if exactly their unproved `$p` are replaced with `$a`.
use Rattle.unproved.proofs.Words.{◌≡◌, ℕ, zero, suc, ◌+◌, ◌-◌, ◌<◌, ◌≤◌, IsTrue, List, [], ◌∷◌, ◌++◌, length, get_or, slice_get, slice_set, Some, refl, ◌∙◌, ap, sym, subst, arith, inl, inr, cases_lt, map-append, stands-within, Good, IsProved, IsProvedIfProvable, AllLegal, Database, IsProvable, Stmt, Writes, bares, is_provable, mandatory_labels, proof_of, Open, Close, Const, Var, Disj, Float, Ess, Axiom, Prove, bare, broken_rule, numbered, or_later, some-same, AreUnproved, as_axiom, assumed}
use Rattle.library.specs.Words.{first_broken}
use Rattle.unproved.proofs.PlainLemmas.{broken_rule-plains, end_rule-plains, plains}
use Rattle.unproved.proofs.PlainRightLemmas.{labels-same, right-same}

-- ---- statements that differ only in their kinds

plain-plain : (s : Stmt) → as_axiom (as_axiom s) ≡ as_axiom s
plain-plain (Prove label expr proof) = refl
plain-plain Open = refl
plain-plain Close = refl
plain-plain (Const names) = refl
plain-plain (Var names) = refl
plain-plain (Disj names) = refl
plain-plain (Float label constant variable) = refl
plain-plain (Ess label expr) = refl
plain-plain (Axiom label expr) = refl

plain-bare : (s : Stmt) → as_axiom (bare s) ≡ as_axiom s
plain-bare (Prove label expr proof) = refl
plain-bare Open = refl
plain-bare Close = refl
plain-bare (Const names) = refl
plain-bare (Var names) = refl
plain-bare (Disj names) = refl
plain-bare (Float label constant variable) = refl
plain-bare (Ess label expr) = refl
plain-bare (Axiom label expr) = refl

plains-bares : (S : Database) → plains (bares S) ≡ plains S
plains-bares [] = refl
plains-bares (s ∷ S) = λ j. plain-bare s j ∷ plains-bares S j

plains-set : (S : Database) (i : ℕ) → plains (slice_set S i (as_axiom (get_or S i Open))) ≡ plains S
plains-set [] i = refl
plains-set (s ∷ S) zero = ap (λ t. t ∷ plains S) (plain-plain s)
plains-set (s ∷ S) (suc i) = ap (λ T. as_axiom s ∷ T) (plains-set S i)

plains-assumed : (S : Database) (positions : List ℕ) → plains (assumed S positions) ≡ plains S
plains-assumed S [] = refl
plains-assumed S (at ∷ positions) = plains-assumed (slice_set S (at - 1) (as_axiom (get_or S (at - 1) Open))) positions ∙ plains-set S (at - 1)

first-plains : (at : ℕ) (S T : Database) → first_broken at (plains S) (plains T) ≡ first_broken at S T
first-plains at S [] = ap (numbered at) (end_rule-plains S)
first-plains at S (s ∷ T) =
    ap (λ r. or_later at r (first_broken (at + 1) (plains S ++ as_axiom s ∷ []) (plains T))) (broken_rule-plains S s)
    ∙ ap (or_later at (broken_rule S s)) (ap (λ U. first_broken (at + 1) U (plains T)) (sym (map-append as_axiom S (s ∷ []))) ∙ first-plains (at + 1) (S ++ s ∷ []) T)

legal-assumed : (S : Database) (positions : List ℕ) → AllLegal S → AllLegal (assumed S positions)
legal-assumed S positions legal =
    sym (first-plains 1 [] (assumed S positions)) ∙ (ap (first_broken 1 []) (plains-assumed S positions) ∙ (first-plains 1 [] S ∙ legal))

-- ---- the `$p` that are left

no-proof : (s : Stmt) → IsTrue (is_provable (as_axiom s)) → ⊥
no-proof (Prove label expr proof) h = cc
no-proof Open h = cc
no-proof Close h = cc
no-proof (Const names) h = cc
no-proof (Var names) h = cc
no-proof (Disj names) h = cc
no-proof (Float label constant variable) h = cc
no-proof (Ess label expr) h = cc
no-proof (Axiom label expr) h = cc

left-in : (S : Database) (i n : ℕ) (s : Stmt) → slice_get (slice_set S i (as_axiom (get_or S i Open))) n ≡ Some s → IsTrue (is_provable s)
    → (slice_get S n ≡ Some s) × (i ≡ n → ⊥)
left-in [] i n s e p = cc
left-in (t ∷ S) zero zero s e p =
    let here : slice_get (slice_set (t ∷ S) zero (as_axiom (get_or (t ∷ S) zero Open))) zero ≡ Some (as_axiom t) = refl in
    absurd (no-proof t (subst (λ u. IsTrue (is_provable u)) (some-same e here) p))
left-in (t ∷ S) zero (suc n) s e p = (e, λ q. omega (arith, q))
left-in (t ∷ S) (suc i) zero s e p = (e, λ q. omega (arith, q))
left-in (t ∷ S) (suc i) (suc n) s e p = let w = left-in S i n s e p in (w.0, λ q. w.1 (omega (arith, q)))

-- a `$p` that is left when the statement at x is assumed was there before, and is not at x
left-one : (S : Database) (x at : ℕ) (s : Stmt) → IsProvable (slice_set S (x - 1) (as_axiom (get_or S (x - 1) Open))) at s → IsProvable S at s × (x ≡ at → ⊥)
left-one S x zero s p = absurd (let e = p.stands in cc)
left-one S x (suc n) s p =
    let w = left-in S (x - 1) n s p.stands p.provable in
    (record { stands = w.0; provable = p.provable }, λ q. w.1 (omega (arith, q)))

abbrev Avoids : ℕ → List ℕ → Type 0
Avoids at [] = Unit {0}
Avoids at (x ∷ positions) = (x ≡ at → ⊥) × Avoids at positions

left : (S : Database) (positions : List ℕ) (at : ℕ) (s : Stmt) → IsProvable (assumed S positions) at s → IsProvable S at s × Avoids at positions
left S [] at s p = (p, tt)
left S (x ∷ positions) at s p =
    let w = left (slice_set S (x - 1) (as_axiom (get_or S (x - 1) Open))) positions at s p in
    let v = left-one S x at s w.0 in
    (v.0, (v.1, w.1))

-- a position that is not in the list is that of a proved `$p`, if there is a `$p`
proved-else : (S : Database) (start end : ℕ) (positions : List ℕ) (at : ℕ) → AreUnproved S start end positions → start < at → at ≤ end → Avoids at positions → IsProvedIfProvable S at
proved-else S start end [] at are above below avoids = are at above below
proved-else S start end (x ∷ positions) at are above below avoids = elim (cases_lt x at) [
  | inl more ↦ proved-else S x end positions at are.4 more below avoids.1
  | inr less ↦ elim (cases_lt at x) [
    | inl before ↦ are.3 at above before
    | inr same ↦ absurd (avoids.0 (omega (arith, less, same)))
  ]
]

module _ (S : Database) (positions : List ℕ) (legal : AllLegal S) (are : AreUnproved S 0 (length S) positions) where
  same : plains (bares S) ≡ plains (bares (assumed S positions))
  same = plains-bares S ∙ (sym (plains-assumed S positions) ∙ sym (plains-bares (assumed S positions)))

  proved-still : (at : ℕ) (s : Stmt) → IsProvable (assumed S positions) at s → IsProvable S at s → IsProved S at → IsProved (assumed S positions) at
  proved-still at s now p proved = record {
    stmt = s;
    items = proved.items;
    provable = now;
    written = subst (λ labels. Writes (proof_of s) labels proved.items) (labels-same (bares S) (bares (assumed S positions)) same at s s refl)
        (subst (λ t. Writes (proof_of t) (mandatory_labels (bares S) at t) proved.items) (some-same proved.provable.stands p.stands) proved.written);
    right = right-same (bares S) (bares (assumed S positions)) same at proved.items proved.right;
  }

  pub assumed-good : Good (assumed S positions)
  assumed-good = record {
    legal = legal-assumed S positions legal;
    proved = λ at s p.
        let w = left S positions at s p in
        let within = stands-within S at s w.0.stands in
        proved-still at s p w.0 (proved-else S 0 (length S) positions at are (omega (arith, within.0)) within.1 w.1 s w.0);
  }

-- for the code: legal statements are good if exactly the unproved `$p` are assumed
pub good_assumed : (S : Database) (positions : List ℕ) → AllLegal S → AreUnproved S 0 (length S) positions → Good (assumed S positions)
good_assumed S positions legal are = assumed-good S positions legal are
