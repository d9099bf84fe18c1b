use Rattle.frame.proofs.Words.{◌≡◌, ◌≤◌, ◌∙◌, ◌+◌, ℕ, List, [], Entry, ap, sym, subst, arith, length, length-map, stmt_by, shapes_of, take, take-length, take-take, length-take, active_with}
use Rattle.entries.specs.Mentions.{before, mentions_of, positions_of}
use Rattle.frame.specs.Stored.MentionLists.{IsTail}
use Rattle.frame.proofs.MentionWalkLemmas.{walk-end, walk-next, walk-start, walk-top}
use Rattle.frame.proofs.first_active.first_active.Goals as goal
use Rattle.frame.proofs.first_active.first_active.Goals.{After-stack-stack}

within : (es : List Entry) (at : ℕ) → at ≤ length es + 1 → at ≤ length (shapes_of es) + 1
within es at le = omega (arith, le, length-map es (λ e. stmt_by e.kind [] []))

first : (c : After-stack-stack) → before c.args.at (mentions_of c.args.mentions.now c.args.code) ≡ take c.stack-stack.ensures.front.0 (mentions_of c.args.mentions.now c.args.code)
first c = sym c.stack-stack.ensures.before ∙ c.stack-stack.ensures.front.1

pub loop-table-init : goal.loop-table-init
loop-table-init c =
    let list = mentions_of c.args.mentions.now c.args.code in
    let es = c.args.entries.now in
    record {
      front = (length (before c.args.at list), omega arith, c.stack-stack.ensures.before ∙ sym (take-length (before c.args.at list)));
      tail = subst (λ l. IsTail (active_with c.args.table es c.args.code c.args.at) (positions_of l)) (sym c.stack-stack.ensures.before)
          (walk-start c.args.table es (shapes_of es) c.args.code list c.requires.list c.args.at c.stack-stack.ensures.front.0 c.requires.place.0 (within es c.args.at c.requires.place.1) (first (goal.at.loop-table-init c).After-stack-stack));
    }

pub is_found-requires-clause-place : goal.is_found-requires-clause-place
is_found-requires-clause-place c = λ m last.
    let es = c.args.entries.now in
    let t = walk-top c.args.table es (shapes_of es) c.args.code (mentions_of c.args.mentions.now c.args.code) c.requires.list c.args.at c.stack-stack.ensures.front.0 c.requires.place.0 (within es c.args.at c.requires.place.1) (first (goal.at.is_found-requires-clause-place c).After-stack-stack)
    c.loop-table.stack last.0 m (record { front = c.loop-table.invariant.front; tail = c.loop-table.invariant.tail }) last.1 in
    (t.0.sound.one, t.1, c.requires.place.1)

pub loop-table-preserved : goal.loop-table-preserved
loop-table-preserved c =
    let es = c.args.entries.now in
    let w = walk-next c.args.table es (shapes_of es) c.args.code (mentions_of c.args.mentions.now c.args.code) c.requires.list c.args.at c.stack-stack.ensures.front.0 c.requires.place.0 (within es c.args.at c.requires.place.1) (first (goal.at.loop-table-preserved c).After-stack-stack)
    c.loop-table.stack c.pop-passed.new.self c.pop-passed.result (record { front = c.loop-table.invariant.front; tail = c.loop-table.invariant.tail })
    (λ e. sym c.loop-table-test.true ∙ c.is_found.ensures.none e) (λ m l. sym c.loop-table-test.true ∙ c.is_found.ensures.last m l) c.pop-passed.ensures.some c.pop-passed.ensures.front c.pop-passed.ensures.none in
    record { front = w.front; tail = w.tail }

pub returns : goal.returns
returns c =
    let list = mentions_of c.args.mentions.now c.args.code in
    let es = c.args.entries.now in
    let is = first (goal.at.returns c).After-stack-stack in
    let f = c.loop-table.invariant.front in
    let low = f.1 in
    record {
      active = walk-end c.args.table es (shapes_of es) c.args.code list c.requires.list c.args.at c.stack-stack.ensures.front.0 c.requires.place.0 (within es c.args.at c.requires.place.1) is
          c.loop-table.stack (record { front = f; tail = c.loop-table.invariant.tail }) (λ m l. sym c.loop-table-test.false ∙ c.is_found.ensures.last m l);
      front = (f.0, f.2 ∙ (ap (take f.0) is ∙ take-take f.0 c.stack-stack.ensures.front.0 list (omega (arith, low, ap length is, length-take c.stack-stack.ensures.front.0 list))));
    }
