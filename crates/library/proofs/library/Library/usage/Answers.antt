use Rattle.library.proofs.Words.{rules, refl, stands-within}
use Rattle.library.proofs.QueriesLemmas.{named, no-label, usage-label}
use Rattle.library.proofs.library.Library.usage.Goals as goal

pub citing_labels-requires : goal.citing_labels-requires
citing_labels-requires c =
    let n = named c.database-database.result.now c.frames.result.now.statements c.frames.ensures.same c.args.label.now c.in-Some.at c.in-Some.ensures in
    stands-within c.database-database.result.now c.in-Some.at n.0 n.1.stands

pub returns-in_ok-citing_labels-in-Some-clause-labels : goal.returns-in_ok-citing_labels-in-Some-clause-labels
returns-in_ok-citing_labels-in-Some-clause-labels c =
    let n = named c.database-database.result.now c.frames.result.now.statements c.frames.ensures.same c.args.label.now c.in-Some.at c.in-Some.ensures in
    rw (← c.database-database.ensures) (c.in-Some.at, n.0, n.1, c.in_ok-citing_labels-in-Some.ensures)

pub returns-in_ok-citing_labels-in-Some-clause-no_label : goal.returns-in_ok-citing_labels-in-Some-clause-no_label
returns-in_ok-citing_labels-in-Some-clause-no_label c =
    rw (← c.database-database.ensures) (usage-label c.database-database.result.now c.frames.result.now.statements c.frames.ensures.same c.args.label.now c.in-Some.at c.in-Some.ensures (search rules))

pub returns-in_err-citing_labels-in-Some-clause-no_label : goal.returns-in_err-citing_labels-in-Some-clause-no_label
returns-in_err-citing_labels-in-Some-clause-no_label c =
    rw (← c.database-database.ensures) (usage-label c.database-database.result.now c.frames.result.now.statements c.frames.ensures.same c.args.label.now c.in-Some.at c.in-Some.ensures (search rules))

pub returns-in-None-clause-no_label : goal.returns-in-None-clause-no_label
returns-in-None-clause-no_label c =
    rw (← c.database-database.ensures) ((λ e. no-label c.database-database.result.now c.frames.result.now.statements c.frames.ensures.same c.args.label.now c.in-None.ensures), λ none. refl)
