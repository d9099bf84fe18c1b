use Rattle.frame.specs.ListsOfPairs.{is_numbered_pair}
use Rattle.std.proofs.lemmas.List.Sums.{sum_by_more}
use Rattle.subst.proofs.PastLemmas.{past-taken}
use Rattle.subst.proofs.Words.{◌≡◌, ℕ, ◌&&◌, ◌+◌, arith, numbered_row, length, take, get_or, sym, ◌∙◌, ap, list_all, list_all_more, below-at}
use Rattle.subst.proofs.DisjointImageLemmas.{row-tells}
use Rattle.subst.proofs.disjoint_images.are_pairs.Goals as goal

pub read_row-requires : goal.read_row-requires
read_row-requires c = below-at (length c.args.pairs.now.names) c.args.variables.now c.loop-variable.variable-index 0 c.requires.variables c.loop-variable-test.true

-- one variable more is counted
step : (first so_far row others work sum all : ℕ) → work ≡ first + so_far → sum ≡ work + row → all ≡ sum + others → all ≡ first + (so_far + (row + others))
step first so_far row others work sum all a b c = omega arith

pub loop-variable-preserved : goal.loop-variable-preserved
loop-variable-preserved c =
    let v = c.args.pairs.now in
    let variables = c.args.variables.now in
    let others = c.args.others.now in
    let n = c.loop-variable.variable-index in
    let told = c.has_all-all.ensures ∙ row-tells v (get_or variables n 0) c.read_row.new.row others c.in_ok-sum.ensures.row c.requires.others in
    let more = sum_by_more (λ u. numbered_row v u + length others) variables n 0 c.loop-variable-test.true in record {
      told =
          ap (λ b. b && c.has_all-all.result) c.loop-variable.invariant.told
          ∙ (ap (λ b. list_all (λ u. list_all (is_numbered_pair v u) others) (take n variables) && b) told
          ∙ sym (list_all_more (λ u. list_all (is_numbered_pair v u) others) variables n 0 c.loop-variable-test.true));
      counted = step c.args.work.now _ _ _ c.loop-variable.work _ _ c.loop-variable.invariant.counted c.in_ok-sum.ensures.counted c.in_ok-work.ensures.ok ∙ ap (λ s. c.args.work.now + s) (sym more);
    }

pub returns-then-is_more-clause-costly : goal.returns-then-is_more-clause-costly
returns-then-is_more-clause-costly c e =
    let v = c.args.pairs.now in
    let others = c.args.others.now in
    let n = c.loop-variable.variable-index in
    let more = sum_by_more (λ u. numbered_row v u + length others) c.args.variables.now n 0 c.loop-variable-test.true in
    past-taken c.args.left (λ u. numbered_row v u + length others) c.args.variables.now (n + 1) c.args.work.now c.in_ok-work.field-0
    (step c.args.work.now _ _ _ c.loop-variable.work _ _ c.loop-variable.invariant.counted c.in_ok-sum.ensures.counted c.in_ok-work.ensures.ok ∙ ap (λ s. c.args.work.now + s) (sym more))
    (sym c.is_more.ensures ∙ c.if-is_more.true)
