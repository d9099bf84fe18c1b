use Rattle.slots.proofs.Words.{◌≡◌, ◌∙◌, ◌*◌, ◌-◌, ◌/◌, ◌+◌, sym, ap, arith, replicate, length, length-append, List, Option, None, length-replicate, trimmed, front_of, top_of, count_by, is_some}
use Rattle.slots.proofs.FiniteMapLemmas.{trimmed-append-gaps, front_of-trimmed, entry_count-trimmed}
use Rattle.slots.proofs.slots.Slots.room.Goals as goal

pub invariant_of-self-2 : goal.invariant_of-self-2
invariant_of-self-2 g c =
    let Slots : Type 0 = List (Option g.row.T.Denot) in
    let before : Slots = c.self.inside.pages in
    let added = c.in_ok-add.ensures.added in
    let gaps = 256 * (c.args.slot / 256 + 1 - c.count-old_count.result) in
    let more = ap (λ (slots : Slots). length slots) added ∙ length-append before (replicate gaps None) in
    let page = length-replicate {A = Option g.row.T.Denot} gaps None in
    let same : trimmed c.add.new.self ≡ trimmed before = ap (λ (slots : Slots). trimmed slots) added ∙ trimmed-append-gaps before gaps in
    record {
      within = omega (arith, more, page, c.count-old_count.ensures, c.if-old_count-page_count.false, c.requires);
      front_is = c.self.invariant.front_is ∙ sym (front_of-trimmed before) ∙ ap (λ (slots : Slots). front_of slots) (sym same) ∙ front_of-trimmed c.add.new.self;
      top_is = c.self.invariant.top_is ∙ ap (λ (slots : Slots). top_of slots) (sym same);
      count_is = c.self.invariant.count_is ∙ sym (entry_count-trimmed before) ∙ ap (λ (slots : Slots). count_by is_some slots) (sym same) ∙ entry_count-trimmed c.add.new.self;
    }

pub returns-clause-entries : goal.returns-clause-entries
returns-clause-entries g c =
    let gaps = 256 * (c.args.slot / 256 + 1 - c.count-old_count.result) in
    ap (λ (slots : List (Option g.row.T.Denot)). trimmed slots) c.in_ok-add.ensures.added
    ∙ trimmed-append-gaps c.self.inside.pages gaps
    ∙ ap (λ (s : Rattle.slots.specs.FiniteMap.SlotsView g.row.T.Denot). s.entries) c.self.view_is
