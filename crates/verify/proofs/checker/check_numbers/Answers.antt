use Rattle.verify.proofs.Words.{arith, length-map, item_of, items_of, stands-within}
use Rattle.verify.proofs.StopLemmas.{stops-wrong, stops-right, stops-other}
use Rattle.verify.proofs.checker.check_numbers.Goals as goal
use Rattle.verify.proofs.checker.check_numbers.Goals.{else-done-numbers-via-then-done-numbers+else-is_only, else-done-numbers-via-else-done-numbers}

pub returns-then-is_only : goal.returns-then-is_only
returns-then-is_only c = record {
  answer = λ labels are.
      let s = c.requires.provable.0 in let stands = c.requires.provable.1.stands in let l = length-map c.args.numbers.now (item_of labels) in
      stops-right c.args.frames.now.statements c.args.frames.now.names c.args.at c.active_pairs-pairs.ensures.legal (items_of labels c.args.numbers.now) c.in-Ok.done
      c.run_items.new.buffers.results.results s stands (c.in-Ok.ensures.stops labels are) c.expr.result.now
      (let all = c.if-done-numbers.true in omega (arith, all, l)) (c.expr.ensures.same s stands) (c.is_only.ensures.only.0 c.if-is_only.true) c.is_only.ensures.light;
  counted = λ labels are. c.in-Ok.ensures.counted labels are;
}

pub returns-else-done-numbers : goal.returns-else-done-numbers
returns-else-done-numbers c = record {
  answer = λ labels are right.
      let s = c.requires.provable.0 in let stands = c.requires.provable.1.stands in let l = length-map c.args.numbers.now (item_of labels) in
      let stops = c.in-Ok.ensures.stops labels are in
      elim c.else-done-numbers.branch [
        | else-done-numbers-via-then-done-numbers+else-is_only w ↦
            stops-other c.args.frames.now.statements c.args.frames.now.names c.args.at c.active_pairs-pairs.ensures.legal (items_of labels c.args.numbers.now) c.in-Ok.done
            c.run_items.new.buffers.results.results s stands stops w.expr.result.now
            (let all = w.if-done-numbers.true in omega (arith, all, l)) (w.expr.ensures.same s stands) w.expr.ensures.codes
            (λ one. let e = w.is_only.ensures.only.1 one in let f = w.if-is_only.false in cc) right
        | else-done-numbers-via-else-done-numbers w ↦
            stops-wrong c.args.frames.now.statements c.args.frames.now.names c.args.at c.active_pairs-pairs.ensures.legal (items_of labels c.args.numbers.now) c.in-Ok.done
            c.run_items.new.buffers.results.results s stands stops
            (let few = w.if-done-numbers.false in let within = stops.within in omega (arith, few, within, l)) right
      ];
  counted = λ labels are. c.in-Ok.ensures.counted labels are;
}

pub expr-requires : goal.expr-requires
expr-requires c = stands-within c.args.frames.now.statements c.args.at c.requires.provable.0 c.requires.provable.1.stands
