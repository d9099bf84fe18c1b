use Rattle.std.proofs.Common.{◌≡◌, ◌+◌, ◌∙◌, ℕ, Bool, true, false, suc, ap, sym, arith, drop, get_or, length, ◌<◌, ◌≤◌, List, drop-cons, add-one, zero-add, refl, if◌then◌else◌}
use Rattle.synod.proofs.WeighLemmas.{weigh_from, weigh_from-zero}
use Rattle.synod.proofs.weights.Weights.is_quorum.Goals as goal

next : (picks : ℕ → Bool) (ws : List ℕ) (i w more total n : ℕ) → i < length ws → w ≡ get_or ws i 0 → more ≡ (if picks i then w else 0) → n + weigh_from picks i (drop i ws) ≡ total → (n + more) + weigh_from picks (i + 1) (drop (i + 1) ws) ≡ total
next picks ws i w more total n in_list read counted before =
    let here : weigh_from picks i (drop i ws) ≡ (if picks i then w else 0) + weigh_from picks (suc i) (drop (suc i) ws) =
    ap (λ (vs : List ℕ). weigh_from picks i vs) (drop-cons ws i 0 in_list)
    ∙ ap (λ (v : ℕ). (if picks i then v else 0) + weigh_from picks (suc i) (drop (suc i) ws)) (sym read) in
    let there : weigh_from picks (i + 1) (drop (i + 1) ws) ≡ weigh_from picks (suc i) (drop (suc i) ws) = ap (λ (j : ℕ). weigh_from picks j (drop j ws)) (add-one i) in
    omega (arith, here, there, counted, before)

at_most : (mark : Bool) (w more one picked all : ℕ) → more ≡ (if mark then w else 0) → one ≡ w → picked ≤ all → picked + more ≤ all + one
at_most true w more one picked all counted is below = omega (arith, counted, is, below)
at_most false w more one picked all counted is below = omega (arith, counted, is, below)

pub loop-i-init : goal.loop-i-init
loop-i-init c = record {
  total = zero-add _ ∙ weigh_from-zero (λ k. true) c.as_slice-weights.result.now;
  marked = zero-add _ ∙ weigh_from-zero (λ k. get_or c.args.marks.now k false) c.as_slice-weights.result.now;
  few = omega arith;
  fewer = omega arith;
}

pub loop-i-preserved : goal.loop-i-preserved
loop-i-preserved c =
    let byte = c.type_inv.weights c.loop-i.i in
    record {
      total = next (λ k. true) c.as_slice-weights.result.now c.loop-i.i (get_or c.as_slice-weights.result.now c.loop-i.i 0) c.from-total.result _ c.loop-i.total c.loop-i-test.true refl c.from-total.ensures c.loop-i.invariant.total;
      marked = next (λ k. get_or c.args.marks.now k false) c.as_slice-weights.result.now c.loop-i.i (get_or c.as_slice-weights.result.now c.loop-i.i 0) c.weight_if_marked-marked.result _ c.loop-i.marked c.loop-i-test.true refl c.weight_if_marked-marked.ensures c.loop-i.invariant.marked;
      few = omega (arith, byte, c.from-total.ensures, c.loop-i.invariant.few);
      fewer = at_most (get_or c.args.marks.now c.loop-i.i false) (get_or c.as_slice-weights.result.now c.loop-i.i 0) c.weight_if_marked-marked.result c.from-total.result c.loop-i.marked c.loop-i.total c.weight_if_marked-marked.ensures c.from-total.ensures c.loop-i.invariant.fewer;
    }
