use Rattle.frame.proofs.Words.{◌∙◌, ◌-◌, sym, arith, entry_from_ref}
use Rattle.frame.proofs.ShapeLemmas.{stands-other, stands-told}
use Rattle.frame.proofs.first_active.stands.Goals as goal

pub is_open_at-requires : goal.is_open_at-requires
is_open_at-requires c =
    let up = (c.requires.placed.earlier (c.args.position - 1) (entry_from_ref c.entry-entry.result c.entry-entry.ensures.0) c.entry-entry.ensures.1).block in
    omega (arith, up, c.requires.placed.count, c.requires.place.0, c.requires.place.1, c.requires.place.2)

pub returns-then-not-is_entry_of : goal.returns-then-not-is_entry_of
returns-then-not-is_entry_of c =
    sym (stands-other c.args.table c.args.entries.now c.args.ends.now c.args.position c.args.at (entry_from_ref c.entry-entry.result c.entry-entry.ensures.0) c.entry-entry.ensures.1 (sym c.is_entry_of.ensures ∙ c.if-not-is_entry_of.true))

pub returns : goal.returns
returns c =
    c.is_open_at.ensures
    ∙ sym (stands-told c.args.table c.args.entries.now c.args.ends.now c.args.position c.args.at (entry_from_ref c.entry-entry.result c.entry-entry.ensures.0) c.entry-entry.ensures.1 c.requires.placed (sym c.is_entry_of.ensures ∙ c.if-not-is_entry_of.false) c.requires.place.0 c.requires.place.1 c.requires.place.2)
