use Rattle.slots.proofs.Words.{◌≡◌, ◌∙◌, sym, ap, arith, length, Bool, false, IsTrue, ◌↔◌, ◌<◌, ◌≤◌, ℕ, common_steps, SlotsView, entry_at}
use Rattle.slots.proofs.FiniteMapLemmas.{entry_at-trimmed, entry_at-past}
use Rattle.slots.proofs.slots.Slots.get.Goals as goal

not_below : (b : Bool) (slot room slots : ℕ) → IsTrue b ↔ (slot < room) → b ≡ false → slots ≡ room → slots ≤ slot
not_below b slot room slots told is_false is_room = grind (arith, common_steps)

pub returns-then-has_room : goal.returns-then-has_room
returns-then-has_room g c =
    let same : entry_at c.args.self.now.entries c.args.slot ≡ entry_at c.self.inside.pages c.args.slot =
    ap (λ (v : SlotsView g.row.T.Denot). entry_at v.entries c.args.slot) (sym c.self.view_is) ∙ entry_at-trimmed c.self.inside.pages c.args.slot in
    rw same c.get.ensures

pub returns-else-has_room : goal.returns-else-has_room
returns-else-has_room g c =
    let room = ap (λ (v : SlotsView g.row.T.Denot). v.capacity) c.self.view_is in
    let past : length c.self.inside.pages ≤ c.args.slot = not_below c.has_room.result c.args.slot c.args.self.now.capacity (length c.self.inside.pages) c.has_room.ensures c.if-has_room.false room in
    ap (λ (v : SlotsView g.row.T.Denot). entry_at v.entries c.args.slot) (sym c.self.view_is)
    ∙ entry_at-trimmed c.self.inside.pages c.args.slot
    ∙ entry_at-past c.self.inside.pages c.args.slot past
