use Rattle.explain.proofs.Words.{get_or, Mark}
use Rattle.verify.proofs.Words.{slice_get-get_or}
use Rattle.explain.proofs.StoppedLemmas.{first_at, first_end}
use Rattle.explain.proofs.run.first_fault.Goals as goal

pub returns-in_ok-fault-in-Item-clause-first : goal.returns-in_ok-fault-in-Item-clause-first
returns-in_ok-fault-in-Item-clause-first c = λ s stands.
    let S = c.args.frames.now.statements in let names = c.args.frames.now.names in let items = c.args.items.now in
    let f = rw c.in-Item.is at (rw c.in-Some.is at c.in_ok-failure.ensures.first) in
    let what = get_or items c.in-Item.item Mark in let there = slice_get-get_or items c.in-Item.item Mark f.0 in
    first_at S names c.args.at items c.in-Item.item c.in-Item.results.results f.1 s what c.in_ok-fault-in-Item.fault there (c.in_ok-fault-in-Item.ensures what there)

pub returns-in_ok-end_reason-in-End-clause-first : goal.returns-in_ok-end_reason-in-End-clause-first
returns-in_ok-end_reason-in-End-clause-first c = λ s stands.
    let f = rw c.in-End.is at (rw c.in-Some.is at c.in_ok-failure.ensures.first) in
    first_end c.args.frames.now.statements c.args.frames.now.names c.args.at c.args.items.now c.in-End.results.results s f.0 (f.1 s stands) c.in_ok-end_reason-in-End.field-0 c.in_ok-end_reason-in-End.ensures
