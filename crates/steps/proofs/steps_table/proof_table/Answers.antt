use Rattle.steps.proofs.Words.{◌≡◌, ◌-◌, [], length, map, sym, subst, ap, ◌∙◌, AreInBuffer, AreSteps, AreRows, rows_of, row_of, steps_of, expr_in, expr_of}
use Rattle.steps.proofs.ListeningLemmas.{draft-start, all-steps, last-expr}
use Rattle.steps.proofs.UnfoldLemmas.{unfolds}
use Rattle.steps.proofs.steps_table.proof_table.Goals as goal

pub run-requires : goal.run-requires
run-requires c = (c.requires.1.stmt, c.requires.1.stands)

pub unreachable-requires : goal.unreachable-requires
unreachable-requires c = (rw c.in-Failed.is at c.in_ok-results.ensures.outcome).0 c.requires

pub returns-clause-rows : goal.returns-clause-rows
returns-clause-rows c =
    let S = c.args.frames.now.statements in let names = c.args.frames.now.names in let at = c.args.at in let items = c.args.items.now in let d = c.run.new.listener in
    let table : map (row_of c.into_symbols.result) d.stored.items ≡ rows_of c.in-Right.results.symbols d = ap (λ s. map (row_of s) d.stored.items) c.into_symbols.ensures in
    let heard = rw c.in-Right.is at (c.in_ok-results.ensures.heard (draft-start c.args.frames.now c.args.at c.new-draft.result (c.new-draft.ensures.draft c.args.frames.now.statements c.args.at c.args.frames.now.names []) c.new-draft.ensures.empty.0 c.new-draft.ensures.empty.1 c.new-draft.ensures.empty.2)) in
    subst (AreRows S at names) (sym table) heard.draft.rows

pub returns-clause-steps : goal.returns-clause-steps
returns-clause-steps c =
    let S = c.args.frames.now.statements in let names = c.args.frames.now.names in let at = c.args.at in let items = c.args.items.now in let d = c.run.new.listener in
    let table : map (row_of c.into_symbols.result) d.stored.items ≡ rows_of c.in-Right.results.symbols d = ap (λ s. map (row_of s) d.stored.items) c.into_symbols.ensures in
    let heard = rw c.in-Right.is at (c.in_ok-results.ensures.heard (draft-start c.args.frames.now c.args.at c.new-draft.result (c.new-draft.ensures.draft c.args.frames.now.statements c.args.at c.args.frames.now.names []) c.new-draft.ensures.empty.0 c.new-draft.ensures.empty.1 c.new-draft.ensures.empty.2)) in
    let one = (rw c.in-Right.is at c.in_ok-results.ensures.outcome).1 c.requires.1.stmt c.requires.1.stands in
    subst (λ t. AreSteps S at items (steps_of t)) (sym table) (all-steps S at names c.in-Right.results.symbols items d heard.recorded (expr_of c.requires.1.stmt) (heard.agrees.stack ∙ one))

pub returns-clause-last : goal.returns-clause-last
returns-clause-last c = λ s stands.
    let S = c.args.frames.now.statements in let names = c.args.frames.now.names in let at = c.args.at in let items = c.args.items.now in let d = c.run.new.listener in
    let table : map (row_of c.into_symbols.result) d.stored.items ≡ rows_of c.in-Right.results.symbols d = ap (λ s. map (row_of s) d.stored.items) c.into_symbols.ensures in
    let heard = rw c.in-Right.is at (c.in_ok-results.ensures.heard (draft-start c.args.frames.now c.args.at c.new-draft.result (c.new-draft.ensures.draft c.args.frames.now.statements c.args.at c.args.frames.now.names []) c.new-draft.ensures.empty.0 c.new-draft.ensures.empty.1 c.new-draft.ensures.empty.2)) in
    let one = (rw c.in-Right.is at c.in_ok-results.ensures.outcome).1 s stands in
    subst (λ t. expr_in names t (length t - 1) ≡ expr_of s) (sym table) (last-expr S at names c.in-Right.results.symbols items d heard.recorded (expr_of s) (heard.agrees.stack ∙ one))

pub returns-clause-derives : goal.returns-clause-derives
returns-clause-derives c = unfolds c.args.frames.now.statements c.args.at c.run.ensures.legal.once c.args.items.now _ c.requires (returns-clause-steps c)

pub invariant_of-result : goal.invariant_of-result
invariant_of-result c =
    let heard = rw c.in-Right.is at (c.in_ok-results.ensures.heard (draft-start c.args.frames.now c.args.at c.new-draft.result (c.new-draft.ensures.draft c.args.frames.now.statements c.args.at c.args.frames.now.names []) c.new-draft.ensures.empty.0 c.new-draft.ensures.empty.1 c.new-draft.ensures.empty.2)) in
    subst (λ s. AreInBuffer (length s) c.run.new.listener.stored.items) (sym c.into_symbols.ensures) heard.draft.inside
