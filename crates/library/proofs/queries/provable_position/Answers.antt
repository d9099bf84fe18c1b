use Rattle.library.proofs.Words.{◌≡◌, Some, sym, ◌∙◌, ap, is_provable, stands-within, NamesProvable}
use Rattle.library.proofs.QueriesLemmas.{named, no-label, not-both}
use Rattle.library.proofs.queries.provable_position.Goals as goal

pub returns-in_default-clause-found : goal.returns-in_default-clause-found
returns-in_default-clause-found c = no-label c.args.database.now c.frames.result.now.statements c.frames.ensures.same c.args.label.now c.in_default.ensures

pub statement-requires : goal.statement-requires
statement-requires c =
    let n = named c.args.database.now c.frames.result.now.statements c.frames.ensures.same c.args.label.now c.in-Some.at c.in-Some.ensures in
    stands-within c.args.database.now c.in-Some.at n.0 n.1.stands

pub returns-then-is_provable-clause-found : goal.returns-then-is_provable-clause-found
returns-then-is_provable-clause-found c =
    let n = named c.args.database.now c.frames.result.now.statements c.frames.ensures.same c.args.label.now c.in-Some.at c.in-Some.ensures in
    let e : Some n.0 ≡ Some c.statement.result.now = sym n.1.stands ∙ c.statement.ensures.stands in
    let same : n.0 ≡ c.statement.result.now = cc in
    let proof : NamesProvable c.args.database.now c.args.label.now c.in-Some.at =
    record { stmt = n.0; carries = n.1; provable = record { stands = n.1.stands; provable = ap is_provable same ∙ (sym c.is_provable.ensures ∙ c.if-is_provable.true) } } in
    (proof, not-both c.args.database.now c.frames.ensures.good c.args.label.now c.in-Some.at proof)

pub returns-else-is_provable-clause-found : goal.returns-else-is_provable-clause-found
returns-else-is_provable-clause-found c =
    let n = named c.args.database.now c.frames.result.now.statements c.frames.ensures.same c.args.label.now c.in-Some.at c.in-Some.ensures in
    let e : Some n.0 ≡ Some c.statement.result.now = sym n.1.stands ∙ c.statement.ensures.stands in
    let same : n.0 ≡ c.statement.result.now = cc in
    record { position = c.in-Some.at; stmt = n.0; carries = n.1; other = ap is_provable same ∙ (sym c.is_provable.ensures ∙ c.if-is_provable.false) }
