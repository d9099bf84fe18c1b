use Rattle.commands.proofs.Words.{bytes_eq, ◌≡◌, ◌+◌, ◌≤◌, true, false, length, sym, arith, length-take-le}
use Rattle.commands.proofs.TextsLemmas.{passed_none, passed_few, passed_fits, passed_more, found_text, found_few, found_rest}
use Rattle.commands.proofs.text_form.lines_until.Goals as goal

pub loop-line-init : goal.loop-line-init
loop-line-init c = passed_none c.args.word.now c.args.all.now c.new-lines.result c.new-lines.ensures

pub overflow_add-count : goal.overflow_add-count
overflow_add-count c = let few = passed_few c.loop-line.invariant c.in-Some.line.now c.take.new.self c.in-Some.ensures in omega arith

pub slice_bounds-text-end : goal.slice_bounds-text-end
slice_bounds-text-end c =
    let fits = passed_fits c.loop-line.invariant c.in-Some.line.now c.take.new.self c.in-Some.ensures in
    sym (length-take-le c.loop-line.len c.args.all.now (omega arith))

pub returns-then-eq : goal.returns-then-eq
returns-then-eq c =
    let same : bytes_eq c.in-Some.line.now c.args.word.now ≡ true = cc in (
      found_text c.loop-line.invariant c.in-Some.line.now c.take.new.self c.in-Some.ensures same,
      found_few c.loop-line.invariant c.in-Some.line.now c.take.new.self c.in-Some.ensures,
      found_rest c.loop-line.invariant c.in-Some.line.now c.take.new.self c.in-Some.ensures,
    )

pub overflow_add-len-in-Some : goal.overflow_add-len-in-Some
overflow_add-len-in-Some c = let fits = passed_fits c.loop-line.invariant c.in-Some.line.now c.take.new.self c.in-Some.ensures in omega arith

pub loop-line-preserved : goal.loop-line-preserved
loop-line-preserved c =
    let other : bytes_eq c.in-Some.line.now c.args.word.now ≡ false = cc in
    passed_more c.loop-line.invariant c.in-Some.line.now c.take.new.self c.in-Some.ensures other
