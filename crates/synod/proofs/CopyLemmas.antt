-- A map that ends in an entry still does so with one more entry, and is copied slot by slot.
use Rattle.synod.proofs.Words.{◌≡◌, ℕ, zero, suc, ◌+◌, ◌<◌, List, [], ◌∷◌, Option, Some, None, length, take, refl, ap, sym, ◌∙◌, subst, arith, add-one, le_of_suc-le-suc, entry_at, put_at, AcceptedEntry, Change, KeptPart, changed_by}
use Rattle.slots.specs.FiniteMap.{trimmed, with_head}
use Rattle.synod.specs.declared.change.Change.TheVariants.{Entry, Promise, Round}
use Rattle.synod.specs.Copies.{with_copied_slot}

-- an empty slot before entries, one of which was put, is not trimmed away
put_head : {T : Type 0} (xs : List (Option T)) (s : ℕ) (v : T) → with_head None (put_at xs s v) ≡ None ∷ put_at xs s v
put_head [] zero v = refl
put_head [] (suc s) v = refl
put_head (x ∷ xs) zero v = refl
put_head (x ∷ xs) (suc s) v = refl

-- if an entry is put past the first slot, the first slot can be trimmed before or after
put_past_head : {T : Type 0} (x : Option T) (xs : List (Option T)) (s : ℕ) (v : T) → put_at (with_head x xs) (suc s) v ≡ with_head x (put_at xs s v)
put_past_head (Some w) xs s v = refl
put_past_head None [] s v = sym (put_head [] s v)
put_past_head None (y ∷ ys) s v = sym (put_head (y ∷ ys) s v)

-- if an entry is put at the first slot, the list begins with it, whether or not the slot was
-- trimmed before
put_first : {T : Type 0} (x : Option T) (xs : List (Option T)) (v : T) → put_at (with_head x xs) zero v ≡ Some v ∷ xs
put_first (Some w) xs v = refl
put_first None [] v = refl
put_first None (y ∷ ys) v = refl

pub trimmed-put_at : {T : Type 0} (xs : List (Option T)) (s : ℕ) (v : T) → trimmed (put_at xs s v) ≡ put_at (trimmed xs) s v
trimmed-put_at [] zero v = refl
trimmed-put_at [] (suc s) v = ap (λ ys. with_head None ys) (trimmed-put_at [] s v) ∙ put_head [] s v
trimmed-put_at (x ∷ xs) zero v = sym (put_first x (trimmed xs) v)
trimmed-put_at (x ∷ xs) (suc s) v = ap (λ ys. with_head x ys) (trimmed-put_at xs s v) ∙ sym (put_past_head x (trimmed xs) s v)

-- if a slot past the first is copied, the first slot can be trimmed before or after
with_past_head : {T : Type 0} (x : Option T) (xs : List (Option T)) (s : ℕ) (o : Option T) → with_copied_slot (with_head x xs) (suc s) o ≡ with_head x (with_copied_slot xs s o)
with_past_head x xs s None = refl
with_past_head x xs s (Some v) = put_past_head x xs s v

-- copying the first slot gives a list of this slot alone, trimmed
with_first : {T : Type 0} (x : Option T) → with_copied_slot [] zero x ≡ with_head x []
with_first None = refl
with_first (Some v) = refl

-- copying the slot after the first s slots gives the first s + 1 slots, trimmed
with_suc : {T : Type 0} (xs : List (Option T)) (s : ℕ) → s < length xs → with_copied_slot (trimmed (take s xs)) s (entry_at xs s) ≡ trimmed (take (suc s) xs)
with_suc [] s low = absurd (omega arith)
with_suc (x ∷ xs) zero low = with_first x
with_suc (x ∷ xs) (suc s) low = with_past_head x (trimmed (take s xs)) s (entry_at xs s) ∙ ap (λ ys. with_head x ys) (with_suc xs s (le_of_suc-le-suc low))

-- copying the slot after the first s slots gives the first s + 1 slots, trimmed
pub with_next : {T : Type 0} (xs : List (Option T)) (s : ℕ) → s < length xs → with_copied_slot (trimmed (take s xs)) s (entry_at xs s) ≡ trimmed (take (s + 1) xs)
with_next {T} xs s low = with_suc xs s low ∙ ap (λ (i : ℕ). trimmed (take i xs)) (sym (add-one s))

-- If the entries of a record in memory end in an entry, they still do so after a change.
pub stays_whole : {V : Type 0} (old new : KeptPart V) (change : Option (Change V)) → new ≡ changed_by old change → trimmed old.accepted ≡ old.accepted → trimmed new.accepted ≡ new.accepted
stays_whole {V} old new change is whole = subst (λ (k : KeptPart V). trimmed k.accepted ≡ k.accepted) (sym is) (by_change change) where
  by_change : (change : Option (Change V)) → trimmed (changed_by old change).accepted ≡ (changed_by old change).accepted
  by_change None = whole
  by_change (Some (Round r)) = whole
  by_change (Some (Promise b)) = whole
  by_change (Some (Entry s held)) = trimmed-put_at old.accepted s held ∙ ap (λ (xs : List (Option (AcceptedEntry V))). put_at xs s held) whole
