use Rattle.slots.proofs.Words.{◌≡◌, ◌∙◌, ◌+◌, ◌<◌, ◌≤◌, ◌↔◌, ℕ, suc, Bool, true, false, IsTrue, sym, ap, arith, add-one, drop, length, common_steps, length-drop, SlotsView, put_at, front_of}
use Rattle.slots.proofs.FiniteMapLemmas.{front_of-le, front_of-trimmed, front_of-put_at-other, front_of-put_at-trimmed, front_of-drop-None, entry_at-past}
use Rattle.slots.proofs.slots.Slots.front_with.Goals as goal

has_room_is : (b : Bool) (slot room slots : ℕ) → IsTrue b ↔ (slot < room) → slots ≡ room → b ≡ true → slot < slots
has_room_is b slot room slots told is_room is_true = grind (arith, common_steps)

not_below : (b : Bool) (slot room slots : ℕ) → IsTrue b ↔ (slot < room) → slots ≡ room → b ≡ false → slots ≤ slot
not_below b slot room slots told is_room is_false = grind (arith, common_steps)

pub returns-then-slot-self-clause-front : goal.returns-then-slot-self-clause-front
returns-then-slot-self-clause-front g c = λ entry.
    let here = ap (λ (v : SlotsView g.row.T.Denot). front_of v.entries) c.self.view_is in
    let front = c.self.invariant.front_is ∙ sym (front_of-trimmed c.self.inside.pages) ∙ here in
    front_of-put_at-other c.args.self.now.entries c.args.slot entry (λ e. c.if-slot-self.true (e ∙ sym front)) ∙ sym front

pub returns-then-slot-self-clause-within : goal.returns-then-slot-self-clause-within
returns-then-slot-self-clause-within g c = omega (arith, c.self.invariant.within, c.self.invariant.front_is, front_of-le c.self.inside.pages)

pub returns-then-has_room-clause-front : goal.returns-then-has_room-clause-front
returns-then-has_room-clause-front g c = λ entry.
    ap (λ (v : SlotsView g.row.T.Denot). front_of (put_at v.entries c.args.slot entry)) (sym c.self.view_is)
    ∙ front_of-put_at-trimmed c.self.inside.pages c.args.slot entry (c.if-slot-self.false ∙ c.self.invariant.front_is)
    ∙ ap (λ (i : ℕ). i + front_of (drop i c.self.inside.pages)) (sym (add-one c.args.slot))
    ∙ sym c.first_empty_from.ensures

pub returns-then-has_room-clause-within : goal.returns-then-has_room-clause-within
returns-then-has_room-clause-within g c =
    let room = ap (λ (v : SlotsView g.row.T.Denot). v.capacity) c.self.view_is in
    let below = has_room_is c.has_room.result c.args.slot c.args.self.now.capacity (length c.self.inside.pages) c.has_room.ensures room c.if-has_room.true in
    let rest = front_of-le (drop (c.args.slot + 1) c.self.inside.pages) in
    let left = length-drop (c.args.slot + 1) c.self.inside.pages in
    omega (arith, c.self.invariant.within, c.first_empty_from.ensures, rest, left, below)

pub returns-else-has_room-clause-front : goal.returns-else-has_room-clause-front
returns-else-has_room-clause-front g c = λ entry.
    let room = ap (λ (v : SlotsView g.row.T.Denot). v.capacity) c.self.view_is in
    let past : length c.self.inside.pages ≤ suc c.args.slot = omega (arith, not_below c.has_room.result c.args.slot c.args.self.now.capacity (length c.self.inside.pages) c.has_room.ensures room c.if-has_room.false) in
    let none = front_of-drop-None c.self.inside.pages (suc c.args.slot) (entry_at-past c.self.inside.pages (suc c.args.slot) past) in
    ap (λ (v : SlotsView g.row.T.Denot). front_of (put_at v.entries c.args.slot entry)) (sym c.self.view_is)
    ∙ front_of-put_at-trimmed c.self.inside.pages c.args.slot entry (c.if-slot-self.false ∙ c.self.invariant.front_is)
    ∙ omega (arith, none)
