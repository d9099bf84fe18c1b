use Rattle.subst.proofs.Words.{◌≡◌, ℕ, ◌<◌, ◌≤◌, List, Option, Some, length, nat_eq, cond, lookup, slice_set, length-set, arith, sym, ◌∙◌, ap, subst, Result, Ok, Err, SymbolRange, images_in_round, AreUpTo}
use Rattle.std.specs.Result.{OnErr}
use Rattle.subst.proofs.ImageTableLemmas.{placed-image, placed-more, placed-ranges, image-set, up_to-set, up_to-more}
use Rattle.subst.proofs.image_ranges.ImageRanges.set.Goals as goal
use Rattle.subst.proofs.image_ranges.ImageRanges.set.Goals.{then-index-len+in_ok-widen, else-index-len}

on-err : {T E P : Type 0} (r : Result T E) → P → OnErr r P
on-err (Ok x) p = tt
on-err (Err e) p = p

pub returns-in_err-widen-clause-same : goal.returns-in_err-widen-clause-same
returns-in_err-widen-clause-same c =
    let p = c.widen.ensures.ranges in
    let same = c.in_err-widen.ensures.err in
    on-err c.from_residual.result (rw (same, p.1) (placed-ranges c.self.inside.round 0 c.self.inside.rounds.items c.self.inside.ranges.items p.0 c.self.invariant.2) ∙ c.self.view_is)

-- the tables have the symbol, and the images are as before
ready : (c : goal.After-put) → let t = c.if-index-len.self-inside in
    (1 ≤ t.round) × AreUpTo t.round t.rounds.items × (length t.rounds.items ≤ length t.ranges.items) × (c.args.symbol < length t.rounds.items)
    × (images_in_round t.round 0 t.rounds.items t.ranges.items ≡ c.args.self.now)
ready c =
    let round = c.self.inside.round in
    let rounds = c.self.inside.rounds.items in
    let ranges = c.self.inside.ranges.items in
    elim c.if-index-len.branch [
      | then-index-len+in_ok-widen w ↦
          let e = w.in_ok-widen.ensures.ok in
          let p = w.widen.ensures.ranges in
          rw w.self-inside-is (
            c.self.invariant.0,
            subst (AreUpTo round) (sym e.1) (up_to-more round rounds e.0 c.self.invariant.1),
            w.in_ok-widen.ensures.there.1,
            w.in_ok-widen.ensures.there.0,
            rw (e.1, p.1) (placed-more round 0 rounds ranges p.0 e.0 c.self.invariant.0 c.self.invariant.2) ∙ c.self.view_is,
          )
      | else-index-len w ↦ rw w.self-inside-is (c.self.invariant.0, c.self.invariant.1, c.self.invariant.2, omega (arith, w.if-index-len.false, c.len.ensures), c.self.view_is)
    ]

pub invariant_of-self-2 : goal.invariant_of-self-2
invariant_of-self-2 c =
    let t = c.if-index-len.self-inside in
    let r = ready c in (
      r.0,
      subst (AreUpTo t.round) (sym c.put.ensures.rounds) (up_to-set t.round t.rounds.items c.args.symbol t.round r.1 (omega arith)),
      rw (c.put.ensures.rounds, c.put.ensures.ranges) (omega (arith, length-set t.rounds.items c.args.symbol t.round, length-set t.ranges.items c.args.symbol c.args.range, r.2)),
    )

pub returns-clause-ok : goal.returns-clause-ok
returns-clause-ok c x =
    let t = c.if-index-len.self-inside in
    let r = ready c in
    rw (c.put.ensures.rounds, c.put.ensures.ranges)
    (placed-image t.round (slice_set t.rounds.items c.args.symbol t.round) (slice_set t.ranges.items c.args.symbol c.args.range) x
    ∙ (image-set t.round t.rounds.items t.ranges.items c.args.symbol c.args.range x r.3 r.2
    ∙ ap (λ (o : Option SymbolRange). cond (nat_eq x c.args.symbol) (Some c.args.range) o)
    (sym (placed-image t.round t.rounds.items t.ranges.items x) ∙ ap (λ (ps : List (ℕ × SymbolRange)). lookup (nat_eq x) ps) r.4)))
