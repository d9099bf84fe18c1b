use Rattle.steps.proofs.Words.{◌++◌, ◌∷◌, [], arith, length, length-append, map, sym, ◌∙◌, ap, subst, refl, AreInBuffer, row_of, row}
use Rattle.steps.proofs.DraftRowLemmas.{rows-more, buffer-snoc, buffer-weaken}
use Rattle.steps.proofs.steps_table.ProofTable.push.Goals as goal

pub invariant_of-self-in_err-push : goal.invariant_of-self-in_err-push
invariant_of-self-in_err-push c =
    let s = ap length c.in_ok-extend.ensures.added in
    let l = length-append c.self.inside.symbols c.args.expr.now in
    subst (AreInBuffer (length c.extend.new.self)) (sym c.in_err-push.ensures.items)
    (buffer-weaken (length c.self.inside.symbols) (length c.extend.new.self) c.self.inside.stored.items (omega (arith, s, l)) c.self.invariant)

pub invariant_of-self-2 : goal.invariant_of-self-2
invariant_of-self-2 c =
    let s = ap length c.in_ok-extend.ensures.added in
    let l = length-append c.self.inside.symbols c.args.expr.now in
    let b = c.range_between-range.ensures in
    let p = c.len-start.ensures.len in
    let q = c.len.ensures.len in
    subst (AreInBuffer (length c.extend.new.self)) (sym c.in_ok-push.ensures.items)
    (buffer-snoc (length c.self.inside.symbols) (length c.extend.new.self) c.self.inside.stored.items _ (omega (arith, s, l)) c.self.invariant (omega (arith, s, l, b, p, q)) (omega (arith, s, l, b, p, q)))

pub returns : goal.returns
returns c =
    let b = c.range_between-range.ensures in
    ap (λ ps. map (row_of c.extend.new.self) ps) c.in_ok-push.ensures.items
    ∙ (rows-more c.self.inside.symbols c.args.expr.now c.extend.new.self c.self.inside.stored.items _ (record { position = c.args.position; taken = c.args.taken.items }) c.self.invariant c.in_ok-extend.ensures.added
    (b.0 ∙ c.len-start.ensures.len) (b.1 ∙ c.len.ensures.len) refl refl
    ∙ ap (λ rs. rs ++ row c.args.position c.args.taken.items c.args.expr.now ∷ []) c.self.view_is)
