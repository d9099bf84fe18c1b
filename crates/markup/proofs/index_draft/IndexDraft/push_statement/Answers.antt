use Rattle.std.specs.Prelude.{◌≡◌, ◌+◌, OnOk, codes}
use Rattle.std.proofs.Common.{sym, subst}
use Rattle.markup.specs.Drafts.{state_of, with_assertion, with_statement}
use Rattle.markup.specs.Rows.{assertion_row}
use Rattle.markup.proofs.index_draft.IndexDraft.push_statement.Goals as goal

pub returns-in-Prove : goal.returns-in-Prove
returns-in-Prove c =
    let old = state_of c.args.self.now in
    let new = state_of c.push_assertion-in-Prove.new.self in
    subst (λ s. OnOk c.push_assertion-in-Prove.result (new ≡ with_statement old c.args.is_unproved c.args.index s)) (sym c.in-Prove.is)
    (subst (λ label. OnOk c.push_assertion-in-Prove.result (new ≡ with_assertion old (assertion_row (codes "theorem") label c.in-Prove.expr (c.args.index + 1))))
    c.as_bytes-in-Prove.ensures.bytes c.push_assertion-in-Prove.ensures)
