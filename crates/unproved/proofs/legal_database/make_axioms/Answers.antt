use Rattle.unproved.proofs.Words.{rules, arith, ◌≡◌, ◌-◌, ◌<◌, ◌≤◌, ◌∙◌, length, get_or, length-set, IsPositionOf}
use Rattle.unproved.proofs.AssumedLemmas.{assumed-on, shaped-on}
use Rattle.unproved.proofs.legal_database.make_axioms.Goals as goal

pub loop-at-preserved : goal.loop-at-preserved
loop-at-preserved c =
    let S = c.loop-at.statements.items in
    let positions = c.args.unproved.now in
    let i = c.loop-at.at-index in
    let less : i < length positions = c.loop-at-test.true in
    let here : IsPositionOf (length c.args.statements.now.items) (get_or positions i 0) = c.requires.within i 0 less in
    let low : 1 ≤ get_or positions i 0 = here.0 in
    let high : get_or positions i 0 ≤ length c.args.statements.now.items = here.1 in
    let count : length S ≡ length c.args.statements.now.items = c.loop-at.invariant.count in
    let within : get_or positions i 0 - 1 < length S = omega (arith, low, high, count) in
    let was : c.index_mut.result.now ≡ get_or S (get_or positions i 0 - 1) c.index_mut.result.now = search rules in
    record {
      count = length-set S (get_or positions i 0 - 1) c.make_axiom.new.statement ∙ count;
      shaped = shaped-on S positions i c.index_mut.result.now c.make_axiom.new.statement less within was c.make_axiom.ensures c.loop-at.invariant.shaped;
      left = assumed-on S positions i c.index_mut.result.now c.make_axiom.new.statement less within was c.make_axiom.ensures ∙ c.loop-at.invariant.left;
    }
