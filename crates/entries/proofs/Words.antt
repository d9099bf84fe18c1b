-- The definitions and lemmas of std and of the layers below that the proofs of this crate use,
-- re-exported from one place.
pub use Rattle.entries.specs.Entries.{AreShapedParts, Entry, assertion_of, entry_by}
pub use Rattle.entries.specs.Stored.Records.{AreKept, ArePacked, IsKept, IsOrdered, IsStored, counts_of, end_by, entries_of, entry_of, groups_by, has_parts, layout_in, numbers_by, numbers_of, record_by, record_of, spans_by}
pub use Rattle.entries.specs.Stored.Spans.{AreSpansIn, Extends, cut}
pub use Rattle.entries.specs.declared.buffer_part.BufferPart.{BufferPart}
pub use Rattle.entries.specs.declared.entry_header.EntryHeader.{EntryHeader}
pub use Rattle.entries.specs.declared.layout.Layout.{Layout}
pub use Rattle.entries.specs.declared.parts.AssertionParts.{AssertionParts}
pub use Rattle.entries.specs.declared.statement_record.StatementRecord.{StatementRecord}
pub use Rattle.std.proofs.Common.{Bor, Some, ap, append-nil, append_assoc, arith, cond, get_or, inl, inr, le-leb, length, ltb, nat_eq, nat_le, nat_lt, refl, rules, slice_get, slice_set, subst, sym, take, ◌+◌, ◌∙◌}
pub use Rattle.std.proofs.Math.Seq.{drop-append_seam, get_or-append_seam, take-append_seam, take-length, take_all}
pub use Rattle.std.proofs.lemmas.Bool.{le-ltb, leb-false, lt-leb, lt-ltb, ltb-false, ltb-true}
pub use Rattle.std.proofs.lemmas.Grind.{get_or-set_at}
pub use Rattle.std.proofs.lemmas.List.{drop-append-le, drop_more, get_or-set_other, get_or-take, get_or_read, length-append, length-drop, length-map, length-take, length-take-le, nil_from_length, reverse-append, take-append-drop, take-append-le, take_more}
pub use Rattle.std.proofs.lemmas.List.Elements.{filter-append}
pub use Rattle.std.proofs.lemmas.List.Sorted.{IsNonDecreasingBy-push, IsNonDecreasingBy-take, IsPartitionPoint-from_clause, IsPartitionedBy-ltb}
pub use Rattle.std.proofs.lemmas.Option.{get_or_from_slice_get, same_Some, slice_get-map, slice_get_within}
pub use Rattle.std.specs.List.Sorted.{IsNonDecreasingBy}
pub use Rattle.std.specs.Prelude.{Bool, Err, List, None, Ok, OnErr, OnOk, Option, Result, [], drop, false, is_err, min, option_map, reverse, slice_range, suc, true, zero, ℕ, ◌++◌, ◌-◌, ◌<◌, ◌^◌, ◌||◌, ◌∷◌, ◌≡◌, ◌≤◌, ◌⊎◌}
