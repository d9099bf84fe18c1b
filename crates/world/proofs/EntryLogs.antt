-- Events and logs of entries, in terms of the values that carry them.
use Rattle.world.proofs.Words.{◌≡◌, ℕ, zero, suc, List, [], ◌∷◌, ◌++◌, slice_get, Option, Some, None, inl, inr, refl, ap, sym, ◌∙◌, Entry, Carried, Event, IsPrefixOf, Agree, value_event, value_events, entry_of, entries_of}

pub value_events-append : (es ds : List (Event Entry)) → value_events (es ++ ds) ≡ value_events es ++ value_events ds
value_events-append [] ds = refl
value_events-append (e ∷ es) ds = ap (λ fs. value_event e ∷ fs) (value_events-append es ds)

pub entries_of-append : (vs us : List (Option Carried)) → entries_of (vs ++ us) ≡ entries_of vs ++ entries_of us
entries_of-append [] us = refl
entries_of-append (v ∷ vs) us = ap (λ es. entry_of v ∷ es) (entries_of-append vs us)

-- a prefix of a log of values is, as entries, a prefix of the log of entries
pub entries_begin : (vs us : List (Option Carried)) → IsPrefixOf vs us → IsPrefixOf (entries_of vs) (entries_of us)
entries_begin vs us h = (entries_of h.0, sym (entries_of-append vs h.0) ∙ ap (λ ws. entries_of ws) h.1)

-- logs of values that agree do so as logs of entries
pub entries_agree : (vs us : List (Option Carried)) → Agree vs us → Agree (entries_of vs) (entries_of us)
entries_agree vs us (inl h) = inl (entries_begin vs us h)
entries_agree vs us (inr h) = inr (entries_begin us vs h)

pub entries_of-get : (vs : List (Option Carried)) (s : ℕ) (v : Option Carried) → slice_get vs s ≡ Some v → slice_get (entries_of vs) s ≡ Some (entry_of v)
entries_of-get [] s v is = cc
entries_of-get (u ∷ vs) zero v is = let same : u ≡ v = cc in ap (λ (w : Option Carried). let o : Option (Option Entry) = Some (entry_of w) in o) same
entries_of-get (u ∷ vs) (suc s) v is = entries_of-get vs s v is

pub entries_of-none : (vs : List (Option Carried)) (s : ℕ) → slice_get vs s ≡ None → slice_get (entries_of vs) s ≡ None
entries_of-none [] s is = refl
entries_of-none (u ∷ vs) zero is = cc
entries_of-none (u ∷ vs) (suc s) is = entries_of-none vs s is
