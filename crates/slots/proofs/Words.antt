-- The names used in the proofs of this crate, re-exported from one place.
pub use Rattle.slots.specs.FiniteMap.{SlotsView, added_to, entries_to_gap, entry_at, front_of, put_at, top_of, with_head, trimmed}
pub use Rattle.slots.specs.Stored.Pages.{AreFullSize, joined}
pub use Rattle.std.proofs.Common.{Bool, Bor, IsTrue, List, MatchOption, None, Option, Some, [], add-one, ap, append-nil, append_assoc, arith, drop, false, get_or, inl, inr, le_of_suc-le-suc, length, length-append, max, refl, replicate, set, slice_get, suc, sym, true, zero, ℕ, ◌%◌, ◌*◌, ◌++◌, ◌+◌, ◌-◌, ◌/◌, ◌<◌, ◌↔◌, ◌∙◌, ◌∷◌, ◌≡◌, ◌≤◌, ◌⊎◌}
pub use Rattle.std.proofs.lemmas.Grind.{common_steps}
pub use Rattle.std.proofs.lemmas.List.{length-drop, length-replicate, length-set, replicate-append-replicate, set-append_left, set-append_right}
pub use Rattle.std.specs.Option.{is_some, option_copied}
pub use Rattle.std.proofs.lemmas.List.Sums.{count_by-le-length, sum_by-cons, sum_by-set}
pub use Rattle.std.specs.Prelude.{cond, count_by}
