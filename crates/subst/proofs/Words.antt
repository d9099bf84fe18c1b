-- The definitions and lemmas of std and of the layers below that the proofs of this crate use,
-- re-exported from one place.
pub use Rattle.frame.proofs.ActiveDisjointLemmas.{all-from, below-at, disjoint-from, last_part, pair_at}
pub use Rattle.frame.specs.Below.{AllBelow, AreBelow}
pub use Rattle.frame.specs.Disjoint.{are_disjoint, are_groups_disjoint, is_group_disjoint, is_list_disjoint}
pub use Rattle.frame.specs.FrameOf.{active_disjoint_lists, is_pair, together}
pub use Rattle.frame.specs.Parts.{Numbered}
pub use Rattle.frame.specs.Substitution.{CodeImages, Images, apply, code_apply, code_image, image, images_from, images_of_names}
pub use Rattle.frame.proofs.SymbolNumberLemmas.{below-take}
pub use Rattle.mm_lex.specs.Alphabet.{Name, has_name, name_eq}
pub use Rattle.mm_read.specs.Statements.{Database, Expr}
pub use Rattle.names.proofs.CodesLemmas.{found-number, name_eq-comm, name_same, same_name, unknown-number}
pub use Rattle.names.specs.Codes.{AreDistinct, code_of, decode, name_at}
pub use Rattle.scope.proofs.Databases.{row_seven, w}
pub use Rattle.scope.proofs.GoingBackLemmas.{all-has}
pub use Rattle.scope.specs.Active.{before, is_variable}
pub use Rattle.std.proofs.Common.{Bool, List, add-one, ap, append-nil, append_assoc, arith, drop, drop-cons, eqb, false, get_or, inl, inr, length, length-append, length-drop, refl, subst, sym, take, take-add, true, true≢false, w32, ℕ, ◌++◌, ◌+◌, ◌-◌, ◌<◌, ◌==◌, ◌^◌, ◌∙◌, ◌≡◌}
pub use Rattle.std.proofs.Math.Bool.{and_comm}
pub use Rattle.std.proofs.Math.Seq.{drop-append_seam, take-append-add, take-append_seam}
pub use Rattle.std.proofs.lemmas.Bool.{and_from, and_parts, both_ways, cases_Bool, cases_eq, eq-eqb, eqb-true, false_from_ne_true, lt-ltb, ltb-true, not-true, not_from_false, or_cases, or_left, or_parts, or_right, true_from_ne_false}
pub use Rattle.std.proofs.lemmas.Bool.Decides.{nat_tests}
pub use Rattle.std.proofs.lemmas.List.{append_cancel_left, drop-append-le, drop-drop, drop-take, drop_all, get_or-take, get_or_default, length-set, length-take, length-take-le, map-id, take-append-drop, take-append-le, take-take, take_all, take_rest}
pub use Rattle.std.proofs.lemmas.List.Folds.{Any-from_list_any, list_all-map, list_all_at, list_all_more, list_any_at}
pub use Rattle.std.proofs.lemmas.List.Sums.{prefix_len-le-length}
pub use Rattle.std.proofs.lemmas.Option.{get_or_from_slice_get, slice_get_within}
pub use Rattle.std.proofs.lemmas.Simd.{leading_from_mask_l, length-chunk, length-put_chunk, length-zip2, mask_l-mod, take_more_put_chunk, tops_compared, trailing_mask_l}
pub use Rattle.std.specs.Int.Count.{count_trailing_zeros}
pub use Rattle.std.specs.List.{list_all, list_any, position_or_len, prefix_len}
pub use Rattle.std.specs.Map.{lookup}
pub use Rattle.std.specs.Prelude.{Err, IfNone, sum_by, flat_map, filter, IfSome, None, Ok, Option, Result, Some, [], codes, cond, is_some, map, min, nat_eq, nat_lt, not, replicate, slice_get, slice_range, slice_set, suc, zero, ◌%◌, ◌&&◌, ◌||◌, ◌∷◌, ◌≤◌}
pub use Rattle.std.specs.Simd.Lanes.{mask_l, top, zip2}
pub use Rattle.subst.specs.DisjointImages.{are_numbers_disjoint, are_two_disjoint, image_named, is_number_disjoint}
pub use Rattle.subst.specs.Images.{AreOver}
pub use Rattle.subst.specs.Laws.{AreImagesDisjoint, DisjointConditionLaw, SubstitutionOverNames}
pub use Rattle.subst.specs.Stored.ImageTables.{AreUpTo, images_in_round}
pub use Rattle.subst.specs.Stored.SymbolSets.{StampedSymbols, has_symbol}
pub use Rattle.subst.specs.Stored.VariableLists.{AreLists, Extends, HasCountedImages, HasListsInside, HasListsOf, IsListOf, IsRowOf, compared_variables, listed_beside, other_variables, read_images}
pub use Rattle.subst.specs.ReadImages.{HasCounted, HasRead, HasReadOnly, IsPastList, is_over}
pub use Rattle.frame.specs.NumberedWork.{image_variables, images_length, is_numbered_variable, new_numbers, numbered_row, numbered_variables, numbers_but, read_after}
pub use Rattle.subst.specs.Stored.Written.{IsWritten}
pub use Rattle.subst.specs.SymbolRanges.{AreInside, AreWithin, images_at, symbols_in}
pub use Rattle.subst.specs.declared.symbol_range.SymbolRange.{SymbolRange}
pub use Rattle.subst.specs.declared.variable_lists.VariableLists.{VariableLists}
pub use lib.Lanes.{chunk, put_chunk}
