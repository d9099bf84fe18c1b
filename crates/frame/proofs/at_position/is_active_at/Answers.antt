use Rattle.frame.proofs.Words.{◌∙◌, ap, sym, subst, ◌≤◌, length, is_open_at, List, ℕ}
use Rattle.frame.proofs.EndLemmas.{active-told}
use Rattle.frame.proofs.at_position.is_active_at.Goals as goal

pub is_open_at-requires : goal.is_open_at-requires
is_open_at-requires c =
    let told = active-told c.args.storage.now c.args.i c.args.at c.last_active_at-block.result c.requires.stored c.requires.place c.requires.plain c.last_active_at-block.ensures in
    subst (λ (ends : List ℕ). c.last_active_at-block.result.block ≤ length ends) (sym c.deref.ensures.value) told.within

pub returns : goal.returns
returns c =
    let told = active-told c.args.storage.now c.args.i c.args.at c.last_active_at-block.result c.requires.stored c.requires.place c.requires.plain c.last_active_at-block.ensures in
    c.is_open_at.ensures ∙ (ap (λ (ends : List ℕ). is_open_at ends c.last_active_at-block.result.block c.args.at) c.deref.ensures.value ∙ sym told.told)
