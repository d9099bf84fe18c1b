use Rattle.frame.proofs.Words.{◌≡◌, ◌<◌, ap, subst, arith, length, get_or, ℕ, zero, suc, false, ◌∙◌, get_or_read, Name, Database, Stmt, stmt_at, was_label, IsNumberOf, labels_of, Carries, statements_of, positions_from}
use Rattle.frame.proofs.NamingLemmas.{stored-naming}
use Rattle.frame.proofs.StoredReading.{label-place, label-none}
use Rattle.frame.proofs.CutStorage.{length-positions}
use Rattle.frame.proofs.frames.Frames.position.Goals as goal
use Rattle.frame.proofs.frames.Frames.position.Goals.{In_ok-number}

found : (S : Database) (x : Name) (n p : ℕ) → IsNumberOf (labels_of S) x n → p ≡ get_or (positions_from 1 S) n 0 → (s : Stmt) × Carries S p s x
found S x n p k e =
    let r = label-place 1 S x n k.0 k.1 in
    let at : p ≡ suc r.0 = omega (arith, e, r.4) in
    (r.1, record { stands = ap (stmt_at S) at ∙ r.2; carried = r.3 })

none : (S : Database) (x : Name) → was_label S x ≡ false → (i : ℕ) (s : Stmt) → Carries S i s x → ⊥
none S x free zero s c = let g = c.stands in cc
none S x free (suc i) s c = label-none S x free i s c.stands c.carried

numbered : (c : In_ok-number) → IsNumberOf (labels_of (statements_of c.self.inside.storage)) c.args.label.now c.in_ok-number.number
numbered c = subst (λ ls. IsNumberOf ls c.args.label.now c.in_ok-number.number) c.self.invariant.kept.labels_kept c.in_ok-number.ensures.found

below : (c : In_ok-number) → c.in_ok-number.number < length c.self.inside.storage.positions.items
below c = omega (arith, ap length c.self.invariant.kept.positions_kept, length-positions 1 (statements_of c.self.inside.storage), (numbered c).0)

pub returns-in_err-number : goal.returns-in_err-number
returns-in_err-number c =
    let k = c.self.inside.storage in
    rw (c.from_residual.ensures, ← c.self.view_is) (none (statements_of k) c.args.label.now (((stored-naming k c.self.invariant).kinds_match c.args.label.now).label ∙ c.in_err-number.ensures.none))

pub index-requires : goal.index-requires
index-requires c = omega (arith, below (goal.at.index-requires c).In_ok-number, c.self.inside.storage.positions.ok.0)

pub returns : goal.returns
returns c =
    let k = c.self.inside.storage in let w = (goal.at.returns c).In_ok-number in
    rw (← c.self.view_is)
    (found (statements_of k) c.args.label.now c.in_ok-number.number c.index.result.now (numbered w)
    (get_or_read k.positions.items _ _ (below w) c.index.ensures 0 ∙ ap (λ q. get_or q c.in_ok-number.number 0) c.self.invariant.kept.positions_kept))
