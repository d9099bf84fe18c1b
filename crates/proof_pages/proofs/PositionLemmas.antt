-- The position of the statement with a label is that of the first one with it.
use Rattle.std.specs.Prelude.{◌≡◌, ℕ, zero, suc, ◌+◌, ◌-◌, ◌<◌, ◌≤◌, length, Bool, true, false, if◌then◌else◌, List, [], ◌∷◌, Option, Some, None, slice_get}
use Rattle.std.proofs.Common.{ap, sym, ◌∙◌, subst, arith, refl, true≢false}
use Rattle.mm_lex.specs.Alphabet.{Name, name_eq}
use Rattle.mm_lex.proofs.NameLemmas.{name_same, same_name}
use Rattle.mm_read.specs.declared.stmt.Stmt.{Stmt}
use Rattle.mm_read.specs.Statements.{Database}
use Rattle.scope.specs.Active.{stmt_at, label_of, has_label}
use Rattle.frame.specs.AtPosition.{IsPosition, HasLabelsOnce, HasLegalProperties}
use Rattle.frame.specs.Citations.{Carries}
use Rattle.proof_pages.specs.LabelPages.{is_assertion_at, next_among, next_of, position_from, position_in, previous_of}

-- a label that is there is the label
labelled : (label : Name) (o : Option Name) → has_label label o ≡ true → o ≡ Some label
labelled label None h = absurd (true≢false (sym h))
labelled label (Some l) h = ap Some (sym (same_name label l h))

-- the statement at index i after the position n has the label
record IsFound (S : Database) (n p : ℕ) (label : Name) : Type 0 where
  pub index : ℕ
  pub stmt : Stmt
  pub there : slice_get S index ≡ Some stmt
  pub carried : label_of stmt ≡ Some label
  pub place : p ≡ n + index

found : (n : ℕ) (S : Database) (label : Name) (p : ℕ) → position_from n S label ≡ Some p → IsFound S n p label
found n [] label p h = absurd (let e = h in cc)
found n (s ∷ S) label p h = by (found (n + 1) S label p) (has_label label (label_of s)) refl h
  where
    by : (position_from (n + 1) S label ≡ Some p → IsFound S (n + 1) p label) → (t : Bool) → has_label label (label_of s) ≡ t → (if t then Some n else position_from (n + 1) S label) ≡ Some p
        → IsFound (s ∷ S) n p label
    by more true e k = record { index = 0; stmt = s; there = refl; carried = labelled label (label_of s) e; place = (let same : n ≡ p = cc in omega (arith, same)) }
    by more false e k =
        let f = more k in
        record { index = suc f.index; stmt = f.stmt; there = f.there; carried = f.carried; place = (let q = f.place in omega (arith, q)) }

none-found : (n : ℕ) (S : Database) (label : Name) → position_from n S label ≡ None → (i : ℕ) (s : Stmt) → slice_get S i ≡ Some s → label_of s ≡ Some label → ⊥
none-found n [] label h i s there carried = let e = there in cc
none-found n (r ∷ S) label h i s there carried = by (none-found (n + 1) S label) (has_label label (label_of r)) refl h i there
  where
    by : (position_from (n + 1) S label ≡ None → (i : ℕ) (s : Stmt) → slice_get S i ≡ Some s → label_of s ≡ Some label → ⊥) → (t : Bool) → has_label label (label_of r) ≡ t
        → (if t then Some n else position_from (n + 1) S label) ≡ None → (i : ℕ) → slice_get (r ∷ S) i ≡ Some s → ⊥
    by more true e k i there = let bad = k in cc
    by more false e k zero there =
        let same : r ≡ s = cc in
        let has : has_label label (label_of r) ≡ true = ap (λ o. has_label label o) (ap label_of same ∙ carried) ∙ name_same label in
        true≢false (sym has ∙ e)
    by more false e k (suc i) there = more k i s there carried

-- no statement has the label
pub position_empty : (S : Database) (label : Name) → length S ≡ 0 → None ≡ position_in S label
position_empty [] label none = refl
position_empty (s ∷ S) label none = absurd (omega (arith, none))

-- ---- the assertions before and after

-- the position before is that of an assertion, or of none
pub previous_found : (S : Database) (old new at : ℕ) → 0 < old → new ≡ old - 1 → previous_of S old ≡ previous_of S at → is_assertion_at S new ≡ true → Some new ≡ previous_of S at
previous_found S old new at some step inv is =
    let next : old ≡ suc new = omega (arith, step, some) in
    ap (λ b. if b then Some new else previous_of S new) (sym is) ∙ (ap (previous_of S) (sym next) ∙ inv)

pub previous_on : (S : Database) (old new at : ℕ) → 0 < old → new ≡ old - 1 → previous_of S old ≡ previous_of S at → is_assertion_at S new ≡ false → previous_of S new ≡ previous_of S at
previous_on S old new at some step inv is =
    let next : old ≡ suc new = omega (arith, step, some) in
    ap (λ b. if b then Some new else previous_of S new) (sym is) ∙ (ap (previous_of S) (sym next) ∙ inv)

pub previous_none : (S : Database) (old at : ℕ) → old ≡ 0 → previous_of S old ≡ previous_of S at → None ≡ previous_of S at
previous_none S old at none inv = ap (previous_of S) (sym none) ∙ inv

-- the same for the position after
pub next_found : (S : Database) (old new at : ℕ) → old < length S → new ≡ old + 1 → next_of S old ≡ next_of S at → is_assertion_at S new ≡ true → Some new ≡ next_of S at
next_found S old new at within step inv is =
    let some : length S - old ≡ suc (length S - new) = omega (arith, step, within) in
    ap (λ b. if b then Some new else next_of S new) (sym is)
    ∙ (ap (λ k. if is_assertion_at S k then Some k else next_among S k (length S - new)) step ∙ (ap (next_among S old) (sym some) ∙ inv))

pub next_on : (S : Database) (old new at : ℕ) → old < length S → new ≡ old + 1 → next_of S old ≡ next_of S at → is_assertion_at S new ≡ false → next_of S new ≡ next_of S at
next_on S old new at within step inv is =
    let some : length S - old ≡ suc (length S - new) = omega (arith, step, within) in
    ap (λ b. if b then Some new else next_of S new) (sym is)
    ∙ (ap (λ k. if is_assertion_at S k then Some k else next_among S k (length S - new)) step ∙ (ap (next_among S old) (sym some) ∙ inv))

pub next_none : (S : Database) (old at : ℕ) → length S ≤ old → next_of S old ≡ next_of S at → None ≡ next_of S at
next_none S old at past inv = let none : length S - old ≡ 0 = omega (arith, past) in ap (next_among S old) (sym none) ∙ inv

-- the answer of a search for the label
pub position_is : (S : Database) (names : List Name) (label : Name) (answer : Option ℕ) → HasLegalProperties S names → IsPosition S label answer → answer ≡ position_in S label
position_is S names label answer legal is = by answer is (position_in S label) refl
  where
    once : HasLabelsOnce S
    once = legal.once

    by : (a : Option ℕ) → IsPosition S label a → (o : Option ℕ) → position_in S label ≡ o → a ≡ o
    by None h None e = refl
    by None h (Some p) e =
        let f = found 1 S label p e in
        let next : p ≡ suc f.index = (let q = f.place in omega (arith, q)) in
        absurd (h p f.stmt (record { stands = ap (stmt_at S) next ∙ f.there; carried = f.carried }))
    by (Some zero) h o e = absurd (let bad = h.1.stands in cc)
    by (Some (suc i)) h None e = absurd (none-found 1 S label e i h.0 h.1.stands h.1.carried)
    by (Some (suc i)) h (Some p) e =
        let f = found 1 S label p e in
        let next : p ≡ suc f.index = (let q = f.place in omega (arith, q)) in
        ap Some (once (suc i) p h.0 f.stmt label h.1 (record { stands = ap (stmt_at S) next ∙ f.there; carried = f.carried }))
