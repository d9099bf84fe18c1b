-- The maps of pages after one of them changes.
use Rattle.synod.proofs.Words.{◌≡◌, ◌∙◌, ℕ, zero, suc, ◌<◌, Result, Ok, Err, List, [], ◌∷◌, Option, length, get_or, set, ap, sym, arith, map-set, set-get_or, get_or-map, get_or-set_same, length-map, OnOk, SlotsView, put_at, entries_of, capacities_of}

pub entries-same : {T : Type 0} (maps : List (SlotsView T)) (k : ℕ) (m more : SlotsView T) → m ≡ get_or maps k m → more.entries ≡ m.entries → k < length maps → entries_of (set maps k more) ≡ entries_of maps
entries-same {T} maps k m more read same within =
    map-set (λ (m : SlotsView T). m.entries) maps k more
    ∙ ap (λ (es : List (Option T)). set (entries_of maps) k es)
    (same ∙ ap (λ (m : SlotsView T). m.entries) read ∙ sym (get_or-map (λ (m : SlotsView T). m.entries) maps k m [] within))
    ∙ set-get_or (entries_of maps) k []

pub entries-put : {T : Type 0} (maps : List (SlotsView T)) (k i : ℕ) (x : T) (m more : SlotsView T) → m ≡ get_or maps k m → more.entries ≡ put_at m.entries i x → k < length maps → entries_of (set maps k more) ≡ set (entries_of maps) k (put_at (get_or (entries_of maps) k []) i x)
entries-put {T} maps k i x m more read put within =
    map-set (λ (m : SlotsView T). m.entries) maps k more
    ∙ ap (λ (es : List (Option T)). set (entries_of maps) k es)
    (put ∙ ap (λ (es : List (Option T)). put_at es i x) (ap (λ (m : SlotsView T). m.entries) read ∙ sym (get_or-map (λ (m : SlotsView T). m.entries) maps k m [] within)))

pub room-after : {T : Type 0} (maps : List (SlotsView T)) (k : ℕ) (more : SlotsView T) → k < length maps → get_or (capacities_of (set maps k more)) k 0 ≡ more.capacity
room-after {T} maps k more within =
    ap (λ (rooms : List ℕ). get_or rooms k 0) (map-set (λ (m : SlotsView T). m.capacity) maps k more)
    ∙ get_or-set_same (capacities_of maps) k more.capacity 0 (let same = length-map maps (λ (m : SlotsView T). m.capacity) in omega (arith, same, within))

pub room-within : {T : Type 0} (maps : List (SlotsView T)) (k i : ℕ) → i < get_or (capacities_of maps) k 0 → k < length maps
room-within [] zero i room = absurd (omega arith)
room-within [] (suc k) i room = absurd (omega arith)
room-within (m ∷ maps) zero i room = omega arith
room-within (m ∷ maps) (suc k) i room = let more = room-within maps k i room in omega (arith, more)

pub ok-room : {E : Type 0} (r : Result (Unit {0}) E) (i : ℕ) (room after : ℕ) → OnOk r (i < room) → after ≡ room → OnOk r (i < after)
ok-room (Ok x) i room after below same = omega (arith, below, same)
ok-room (Err e) i room after below same = tt
