use Rattle.slots.proofs.Words.{◌∙◌, ◌+◌, ℕ, max, drop, sym, ap, arith, List, Option, Some, length, length-set, SlotsView, entry_at, put_at, trimmed, front_of, top_of, added_to, count_by, count_by-le-length, is_some}
use Rattle.slots.proofs.FiniteMapLemmas.{trimmed-set, top_of-put_at, front_of-le, front_of-set, entry_at-trimmed, top_of-trimmed-le, entry_count-set}
use Rattle.slots.proofs.slots.Slots.put.Goals as goal

pub first_empty_from-self-inside-requires-clause-from : goal.first_empty_from-self-inside-requires-clause-from
first_empty_from-self-inside-requires-clause-from g c =
    let same = ap (λ (slots : List (Option g.row.T.Denot)). length slots) c.put-before.ensures.put ∙ length-set c.self.inside.pages c.args.slot (Some c.args.entry) in
    omega (arith, same, c.self.invariant.front_is, front_of-le c.self.inside.pages)

pub invariant_of-self : goal.invariant_of-self
invariant_of-self g c =
    let same = ap (λ (slots : List (Option g.row.T.Denot)). length slots) c.put-before.ensures.put ∙ length-set c.self.inside.pages c.args.slot (Some c.args.entry) in
    let room = ap (λ (v : SlotsView g.row.T.Denot). v.capacity) c.self.view_is in
    record {
      within = omega (arith, same, c.self.invariant.within);
      front_is = c.first_empty_from-self-inside.ensures
          ∙ ap (λ (i : ℕ). i + front_of (drop i c.put-before.new.self)) c.self.invariant.front_is
          ∙ ap (λ (slots : List (Option g.row.T.Denot)). front_of c.self.inside.pages + front_of (drop (front_of c.self.inside.pages) slots)) c.put-before.ensures.put
          ∙ front_of-set c.self.inside.pages c.args.slot c.args.entry
          ∙ ap (λ (slots : List (Option g.row.T.Denot)). front_of slots) (sym c.put-before.ensures.put);
      top_is = c.top_with-self-inside.ensures
          ∙ ap (λ (i : ℕ). max i (c.args.slot + 1)) c.self.invariant.top_is
          ∙ sym (top_of-put_at (trimmed c.self.inside.pages) c.args.slot c.args.entry)
          ∙ ap (λ (slots : List (Option g.row.T.Denot)). top_of slots) (sym (trimmed-set c.self.inside.pages c.args.slot c.args.entry (omega (arith, room, c.requires))))
          ∙ ap (λ (slots : List (Option g.row.T.Denot)). top_of (trimmed slots)) (sym c.put-before.ensures.put);
      count_is = c.count_with-self-inside.ensures
          ∙ ap (λ (i : ℕ). i + added_to c.put-before.result) c.self.invariant.count_is
          ∙ ap (λ (x : Option g.row.T.Denot). count_by is_some c.self.inside.pages + added_to x) c.put-before.ensures.before
          ∙ sym (entry_count-set c.self.inside.pages c.args.slot c.args.entry (omega (arith, room, c.requires)))
          ∙ ap (λ (slots : List (Option g.row.T.Denot)). count_by is_some slots) (sym c.put-before.ensures.put);
    }

pub returns-clause-entries : goal.returns-clause-entries
returns-clause-entries g c =
    let room = ap (λ (v : SlotsView g.row.T.Denot). v.capacity) c.self.view_is in
    ap (λ (slots : List (Option g.row.T.Denot)). trimmed slots) c.put-before.ensures.put
    ∙ trimmed-set c.self.inside.pages c.args.slot c.args.entry (omega (arith, room, c.requires))
    ∙ ap (λ (v : SlotsView g.row.T.Denot). put_at v.entries c.args.slot c.args.entry) c.self.view_is

pub returns-clause-before : goal.returns-clause-before
returns-clause-before g c =
    c.put-before.ensures.before
    ∙ sym (entry_at-trimmed c.self.inside.pages c.args.slot)
    ∙ ap (λ (v : SlotsView g.row.T.Denot). entry_at v.entries c.args.slot) c.self.view_is

pub returns-clause-within : goal.returns-clause-within
returns-clause-within g c =
    let same = ap (λ (slots : List (Option g.row.T.Denot)). length slots) c.put-before.ensures.put ∙ length-set c.self.inside.pages c.args.slot (Some c.args.entry) in
    omega (arith, same, c.self.invariant.within, top_of-trimmed-le c.put-before.new.self)

pub count_with-self-inside-requires : goal.count_with-self-inside-requires
count_with-self-inside-requires g c = omega (arith, c.self.invariant.within, c.self.invariant.count_is, count_by-le-length is_some c.self.inside.pages)
