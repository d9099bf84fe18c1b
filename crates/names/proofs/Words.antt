-- The names that the proofs of this crate use, exported again from one place.
pub use Rattle.mm_lex.proofs.NameLemmas.{name_same, same_name}
pub use Rattle.mm_lex.specs.Alphabet.{Name, has_name, name_eq}
pub use Rattle.names.specs.Codes.{AreDistinct, HaveCodes, code_of, name_at, code_or_len, codes_or_len, with_name, with_names}
pub use Rattle.names.specs.Stored.Keys.{AreBytes, digits, eight_bytes_from, first_middle_last, first_four_last_three, key_of, mixed, mixed_front, key_bytes}
pub use Rattle.names.specs.Stored.Overflow.{code_in_overflow}
pub use Rattle.names.specs.Stored.Table.{OverflowGrows, AreFound, AreReachable, AreNameKeys, AreUnused, IsFirstFreeSlot, IsReachable, IsNameKey, IsPassed, IsTable, IsTaken, half_of, slot_index_of, IsProbedSlot, slot_of}
pub use Rattle.names.specs.Stored.NameList.{AreAscendingEnds, names_from, start_of}
pub use Rattle.names.specs.declared.name_keys.NameKeys.{NameKeys}
pub use Rattle.names.specs.declared.keys.TheConstants.{IN_OVERFLOW, LEAST_HASH, LEAST_HASHED_LEN}
pub use Rattle.names.specs.declared.overflow.Overflow.{Overflow}
pub use Rattle.names.specs.declared.table.Slot.{Slot}
pub use Rattle.names.specs.declared.table.TheConstants.{NO_NAME, MAX_PROBES}
pub use Rattle.std.proofs.Common.{add-one, ap, append_assoc, arith, inl, inr, length-append, rules, slice_set, subst, sym, true≢false, ◌∙◌}
pub use Rattle.std.proofs.Math.Bool.{or_assoc}
pub use Rattle.std.proofs.Math.Seq.{drop-append_seam}
pub use Rattle.std.proofs.lemmas.Bool.{cases_eq, cases_lt, false_from_ne_true, or_from, or_left, or_parts, or_right}
pub use Rattle.std.proofs.lemmas.List.{append-nil, drop-append-le, get_or-replicate, get_or-set_other, get_or-set_same, get_or_read, length-drop, length-replicate, length-set, length-take-le, take-append-drop, take-append-le, take_all}
pub use Rattle.std.proofs.lemmas.List.Quantifiers.{position-Some}
pub use Rattle.std.proofs.lemmas.Map.Lookups.{exact_unsigned}
pub use Rattle.std.proofs.lemmas.Map.Text.{is_eq-slice_cmp}
pub use Rattle.std.proofs.lemmas.Option.{cond_some, same_Some, slice_get_within, unwrap_or-slice_get}
pub use Rattle.std.proofs.lemmas.Slice.Eq.{bytes_eq-Decides}
pub use Rattle.std.specs.BTreeMap.{BTreeMap, UpdatesBy, get_by}
pub use Rattle.std.specs.Cmp.{Equal-is, eq_by_cmp_equiv}
pub use Rattle.std.specs.Cmp.Lexicographic.{nat_list_cmp_total, slice_cmp}
pub use Rattle.std.specs.List.{list_any, position_or_len, prefix_len}
pub use Rattle.std.specs.Map.{AreApart, IsKeyTest, lookup}
pub use Rattle.std.specs.Ordering.{is_eq, nat_cmp}
pub use Rattle.std.specs.Prelude.{Bool, Err, IfSome, List, None, Ok, OnErr, OnOk, Option, Result, Some, [], cond, drop, false, get_or, if◌then◌else◌, length, map, nat_lt, not, refl, replicate, slice_get, slice_range, suc, take, true, unwrap_or, zero, ℕ, ◌%◌, ◌*◌, ◌++◌, ◌+◌, ◌-◌, ◌/◌, ◌<◌, ◌^◌, ◌||◌, ◌∷◌, ◌≡◌, ◌≢◌, ◌≤◌, ◌⊎◌}
pub use Rattle.std.specs.Str.{bytes_eq}
pub use Rattle.std.specs.declared.alloc.Global.{Global}
pub use Rattle.std.specs.declared.vec.Vec.{Vec}
