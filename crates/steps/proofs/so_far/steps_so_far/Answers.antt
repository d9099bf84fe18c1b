use Rattle.steps.proofs.Words.{◌≡◌, [], length, take, sym, subst, arith, steps_of}
use Rattle.verify.proofs.StopLemmas.{count-items}
use Rattle.steps.proofs.ListeningLemmas.{draft-start}
use Rattle.steps.proofs.SoFarLemmas.{steps-so-far, rows-so-far, all-taken, all-done}
use Rattle.steps.specs.SoFar.{AreStepsSoFar}
use Rattle.steps.proofs.so_far.steps_so_far.Goals as goal

pub so_far-requires : goal.so_far-requires
so_far-requires c =
    let heard = rw c.in-Right.is at (c.in_ok-results.ensures.heard (draft-start c.args.frames.now c.args.at c.new-draft.result (c.new-draft.ensures.draft c.args.frames.now.statements c.args.at c.args.frames.now.names []) c.new-draft.ensures.empty.0 c.new-draft.ensures.empty.1 c.new-draft.ensures.empty.2)) in
    heard.draft.inside

pub returns-in-Right-clause-rows : goal.returns-in-Right-clause-rows
returns-in-Right-clause-rows c =
    let heard = rw c.in-Right.is at (c.in_ok-results.ensures.heard (draft-start c.args.frames.now c.args.at c.new-draft.result (c.new-draft.ensures.draft c.args.frames.now.statements c.args.at c.args.frames.now.names []) c.new-draft.ensures.empty.0 c.new-draft.ensures.empty.1 c.new-draft.ensures.empty.2)) in
    rows-so-far c.args.frames.now c.args.at c.args.items.now c.in-Right.results c.run.new.listener heard c.so_far.result.table c.so_far.ensures.table

pub returns-in-Right-clause-steps : goal.returns-in-Right-clause-steps
returns-in-Right-clause-steps c =
    let heard = rw c.in-Right.is at (c.in_ok-results.ensures.heard (draft-start c.args.frames.now c.args.at c.new-draft.result (c.new-draft.ensures.draft c.args.frames.now.statements c.args.at c.args.frames.now.names []) c.new-draft.ensures.empty.0 c.new-draft.ensures.empty.1 c.new-draft.ensures.empty.2)) in
    let r = c.so_far.result in
    let count = count-items c.parts.result.labels.now c.parts.result.numbers.now c.args.items.now c.parts.ensures in
    let all : c.so_far.result.done ≡ length c.args.items.now = omega (arith, count, c.so_far.ensures.done) in
    subst (λ is. AreStepsSoFar c.args.frames.now.statements c.args.at is (steps_of r.table) r.stack.items) (all-taken r.done c.args.items.now all)
    (steps-so-far c.args.frames.now c.args.at c.args.items.now c.in-Right.results c.run.new.listener heard r.table c.so_far.ensures.table r.stack.items c.so_far.ensures.stack)

pub returns-in-Right-clause-done : goal.returns-in-Right-clause-done
returns-in-Right-clause-done c =
    let count = count-items c.parts.result.labels.now c.parts.result.numbers.now c.args.items.now c.parts.ensures in
    let all : c.so_far.result.done ≡ length c.args.items.now = omega (arith, count, c.so_far.ensures.done) in
    all-done c.args.frames.now.statements c.args.at c.args.items.now c.so_far.result.done all

pub so_far-requires-in-Failed-Item : goal.so_far-requires-in-Failed-Item
so_far-requires-in-Failed-Item c =
    let heard = rw (c.in-Failed-Item.is, c.in-Failed-Item.field-0-is) at (c.in_ok-results.ensures.heard (draft-start c.args.frames.now c.args.at c.new-draft.result (c.new-draft.ensures.draft c.args.frames.now.statements c.args.at c.args.frames.now.names []) c.new-draft.ensures.empty.0 c.new-draft.ensures.empty.1 c.new-draft.ensures.empty.2)) in
    heard.draft.inside

pub returns-in-Failed-Item-clause-rows : goal.returns-in-Failed-Item-clause-rows
returns-in-Failed-Item-clause-rows c =
    let heard = rw (c.in-Failed-Item.is, c.in-Failed-Item.field-0-is) at (c.in_ok-results.ensures.heard (draft-start c.args.frames.now c.args.at c.new-draft.result (c.new-draft.ensures.draft c.args.frames.now.statements c.args.at c.args.frames.now.names []) c.new-draft.ensures.empty.0 c.new-draft.ensures.empty.1 c.new-draft.ensures.empty.2)) in
    rows-so-far c.args.frames.now c.args.at (take c.in-Failed-Item.item c.args.items.now) c.in-Failed-Item.results c.run.new.listener heard c.so_far-in-Failed-Item.result.table c.so_far-in-Failed-Item.ensures.table

pub returns-in-Failed-Item-clause-steps : goal.returns-in-Failed-Item-clause-steps
returns-in-Failed-Item-clause-steps c =
    let heard = rw (c.in-Failed-Item.is, c.in-Failed-Item.field-0-is) at (c.in_ok-results.ensures.heard (draft-start c.args.frames.now c.args.at c.new-draft.result (c.new-draft.ensures.draft c.args.frames.now.statements c.args.at c.args.frames.now.names []) c.new-draft.ensures.empty.0 c.new-draft.ensures.empty.1 c.new-draft.ensures.empty.2)) in
    let r = c.so_far-in-Failed-Item.result in
    subst (λ n. AreStepsSoFar c.args.frames.now.statements c.args.at (take n c.args.items.now) (steps_of r.table) r.stack.items) (sym c.so_far-in-Failed-Item.ensures.done)
    (steps-so-far c.args.frames.now c.args.at (take c.in-Failed-Item.item c.args.items.now) c.in-Failed-Item.results c.run.new.listener heard r.table c.so_far-in-Failed-Item.ensures.table r.stack.items c.so_far-in-Failed-Item.ensures.stack)

pub so_far-requires-in-Failed-End : goal.so_far-requires-in-Failed-End
so_far-requires-in-Failed-End c =
    let heard = rw (c.in-Failed-End.is, c.in-Failed-End.field-0-is) at (c.in_ok-results.ensures.heard (draft-start c.args.frames.now c.args.at c.new-draft.result (c.new-draft.ensures.draft c.args.frames.now.statements c.args.at c.args.frames.now.names []) c.new-draft.ensures.empty.0 c.new-draft.ensures.empty.1 c.new-draft.ensures.empty.2)) in
    heard.draft.inside

pub returns-in-Failed-End-clause-rows : goal.returns-in-Failed-End-clause-rows
returns-in-Failed-End-clause-rows c =
    let heard = rw (c.in-Failed-End.is, c.in-Failed-End.field-0-is) at (c.in_ok-results.ensures.heard (draft-start c.args.frames.now c.args.at c.new-draft.result (c.new-draft.ensures.draft c.args.frames.now.statements c.args.at c.args.frames.now.names []) c.new-draft.ensures.empty.0 c.new-draft.ensures.empty.1 c.new-draft.ensures.empty.2)) in
    rows-so-far c.args.frames.now c.args.at c.args.items.now c.in-Failed-End.results c.run.new.listener heard c.so_far-in-Failed-End.result.table c.so_far-in-Failed-End.ensures.table

pub returns-in-Failed-End-clause-steps : goal.returns-in-Failed-End-clause-steps
returns-in-Failed-End-clause-steps c =
    let heard = rw (c.in-Failed-End.is, c.in-Failed-End.field-0-is) at (c.in_ok-results.ensures.heard (draft-start c.args.frames.now c.args.at c.new-draft.result (c.new-draft.ensures.draft c.args.frames.now.statements c.args.at c.args.frames.now.names []) c.new-draft.ensures.empty.0 c.new-draft.ensures.empty.1 c.new-draft.ensures.empty.2)) in
    let r = c.so_far-in-Failed-End.result in
    let count = count-items c.parts.result.labels.now c.parts.result.numbers.now c.args.items.now c.parts.ensures in
    let all : c.so_far-in-Failed-End.result.done ≡ length c.args.items.now = omega (arith, count, c.so_far-in-Failed-End.ensures.done) in
    subst (λ is. AreStepsSoFar c.args.frames.now.statements c.args.at is (steps_of r.table) r.stack.items) (all-taken r.done c.args.items.now all)
    (steps-so-far c.args.frames.now c.args.at c.args.items.now c.in-Failed-End.results c.run.new.listener heard r.table c.so_far-in-Failed-End.ensures.table r.stack.items c.so_far-in-Failed-End.ensures.stack)

pub returns-in-Failed-End-clause-done : goal.returns-in-Failed-End-clause-done
returns-in-Failed-End-clause-done c =
    let count = count-items c.parts.result.labels.now c.parts.result.numbers.now c.args.items.now c.parts.ensures in
    let all : c.so_far-in-Failed-End.result.done ≡ length c.args.items.now = omega (arith, count, c.so_far-in-Failed-End.ensures.done) in
    all-done c.args.frames.now.statements c.args.at c.args.items.now c.so_far-in-Failed-End.result.done all
