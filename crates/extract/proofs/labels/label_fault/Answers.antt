use Rattle.extract.proofs.Words.{sym, ◌∙◌, named, no-label, stands-within}
use Rattle.extract.proofs.labels.label_fault.Goals as goal

pub returns-in_default : goal.returns-in_default
returns-in_default c = no-label c.args.statements.now c.args.frames.now.statements c.requires.same c.args.label.now c.in_default.ensures

pub is_assertion_at-requires : goal.is_assertion_at-requires
is_assertion_at-requires c =
    let n = named c.args.statements.now c.args.frames.now.statements c.requires.same c.args.label.now c.in-Some.at c.in-Some.ensures in
    stands-within c.args.statements.now c.in-Some.at n.0 n.1.stands

pub returns-then-is_among : goal.returns-then-is_among
returns-then-is_among c =
    let n = named c.args.statements.now c.args.frames.now.statements c.requires.same c.args.label.now c.in-Some.at c.in-Some.ensures in
    (record { position = c.in-Some.at; stmt = n.0; carries = n.1; assertion = sym (c.is_assertion_at.ensures n.0 n.1.stands) ∙ c.if-is_assertion_at.true }, sym c.is_among.ensures ∙ c.if-is_among.true)

pub returns-else-is_among : goal.returns-else-is_among
returns-else-is_among c =
    let n = named c.args.statements.now c.args.frames.now.statements c.requires.same c.args.label.now c.in-Some.at c.in-Some.ensures in
    (record { position = c.in-Some.at; stmt = n.0; carries = n.1; assertion = sym (c.is_assertion_at.ensures n.0 n.1.stands) ∙ c.if-is_assertion_at.true }, sym c.is_among.ensures ∙ c.if-is_among.false)

pub returns-else-is_assertion_at : goal.returns-else-is_assertion_at
returns-else-is_assertion_at c =
    let n = named c.args.statements.now c.args.frames.now.statements c.requires.same c.args.label.now c.in-Some.at c.in-Some.ensures in
    record { position = c.in-Some.at; stmt = n.0; carries = n.1; other = sym (c.is_assertion_at.ensures n.0 n.1.stands) ∙ c.if-is_assertion_at.false }
