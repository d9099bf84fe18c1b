-- Lists as parts of one buffer. Public clauses cite these definitions.
use Rattle.std.specs.Prelude.{◌≡◌, ℕ, ◌≤◌, List, [], ◌∷◌, ◌++◌, map, slice_range}
use Rattle.entries.specs.declared.buffer_part.BufferPart.{BufferPart}

-- the lists that are these parts of a buffer
abbrev pub cut : {A : Type 0} → List A → List BufferPart → List (List A)
cut xs spans = map (λ s. slice_range xs s.from s.to) spans

-- each part is within the first n items
abbrev pub AreSpansIn : ℕ → List BufferPart → Type 0
AreSpansIn n [] = Unit {0}
AreSpansIn n (s ∷ spans) = ((s.from ≤ s.to) × (s.to ≤ n)) × AreSpansIn n spans

-- the new list is the old one with items appended
abbrev pub Extends : {A : Type 0} → List A → List A → Type 0
Extends {A} old new = (more : List A) × (new ≡ old ++ more)
