-- The names that the proofs of this crate use, and lemmas of std and of lower crates, exported
-- again from one place.
pub use Rattle.mm_lex.proofs.NameLemmas.{tried_first}
pub use Rattle.mm_lex.proofs.WordsLemmas.{word-visible}
pub use Rattle.mm_lex.specs.Alphabet.{Name, has_byte, has_name, is_empty, is_label, is_label_byte, is_visible, name_eq}
pub use Rattle.mm_lex.specs.Words.{AreWords, is_word, spaced, words_of}
pub use Rattle.proof_code.specs.ItemNumbers.{item_of, items_of}
pub use Rattle.proof_code.specs.LabelSets.{IsLabelSet}
pub use Rattle.proof_code.specs.Laws.{OneAnswer}
pub use Rattle.proof_code.specs.Letters.{IsNumber, leading_letters, is_leading, is_last, number_after, number_of, words_with_fewer_leading, words_with_leading}
pub use Rattle.proof_code.specs.Listing.{are_label_bytes_or_spaces, with_no_labels, class_of, listed_count, is_label_byte_or_space, letters_after_parenthesis, more_labels}
pub use Rattle.proof_code.specs.Reading.{IsByteEffect, IsHeadingWithNumbers, IsNextRead, before_rest, digits_after, ended, ends_number, limit_after, share_label, value_after}
pub use Rattle.proof_code.specs.Text.{ListAndRest, list_and_rest, letters_of, numbers_from, starts_with_mark, with_label, with_number}
pub use Rattle.proof_code.specs.Writes.{AreItems, IsMalformed, Writes, WritesCompressed, WritesNormal, WritesFinishedCompressed, WritesFinishedNormal, WritesRow, left_parenthesis, right_parenthesis, is_compressed, is_unfinished, mark_letter, question_mark, starts_with_result}
pub use Rattle.proof_code.specs.declared.item.Item.{Item}
pub use Rattle.proof_code.specs.declared.item.Item.TheVariants.{Cite, Mark, Recall}
pub use Rattle.proof_code.specs.declared.byte_step.ByteStep.{ByteStep}
pub use Rattle.proof_code.specs.declared.byte_step.TheConstants.{STEPS}
pub use Rattle.std.proofs.Common.{Bor, Fits, List, ap, append_assoc, arith, bit_and, bit_or, cond, drop, eqb, false, inl, inr, length, length-append, ltb, map, refl, replicate, subst, suc, sym, take, true, true≢false, w8, ℕ, ◌%◌, ◌++◌, ◌+◌, ◌-◌, ◌<◌, ◌^◌, ◌∙◌, ◌∷◌, ◌≡◌, ◌≤◌}
pub use Rattle.std.proofs.Math.Bool.{and-false, or-false}
pub use Rattle.std.proofs.Math.Seq.{take-append_seam}
pub use Rattle.std.proofs.lemmas.Bool.{and_from, and_parts, both_ways, cases_Bool, cond_both, eqb-true, false_from_ne_true, le-ltb, leb-true, lt-ltb, ltb-false, ltb-true, or_cases}
pub use Rattle.std.proofs.lemmas.Bool.Decides.{Decides-like, nat_tests, same_from_decides}
pub use Rattle.std.proofs.lemmas.List.{append-nil, drop-drop, drop_more, get_or-drop, get_or-map, length-drop, length-map, length-take-le, map-append, take-append-drop, take_rest, with_items_is}
pub use Rattle.std.proofs.lemmas.List.Elements.{Contains-append_left, Contains-append_right}
pub use Rattle.std.proofs.lemmas.List.Folds.{list_all-append, list_any-append}
pub use Rattle.std.proofs.lemmas.List.FromFn.{fill_by_all, get_or-map-range_with_len, get_or-range_with_len, map-range_with_len_more}
pub use Rattle.std.proofs.lemmas.List.Recursion.{is_count_by}
pub use Rattle.std.proofs.lemmas.List.Sums.{count_by-le-length}
pub use Rattle.std.proofs.lemmas.Map.Text.{is_eq-slice_cmp}
pub use Rattle.std.proofs.lemmas.Nat.{and_le_r, and_mask}
pub use Rattle.std.proofs.lemmas.Option.{get_or_from_slice_get, none-some, same_Some, slice_get-get_or, slice_get-map, slice_get_within}
pub use Rattle.std.proofs.lemmas.Simd.{bitmask_splat, map-map, mask_l-mod, ones-mask_l}
pub use Rattle.std.proofs.lemmas.Slice.Eq.{bytes_eq-Decides}
pub use Rattle.std.specs.BTreeSet.{BTreeSet, contains}
pub use Rattle.std.specs.Cmp.Lexicographic.{slice_cmp}
pub use Rattle.std.specs.Int.RustNames.{count_ones}
pub use Rattle.std.specs.List.{Contains, count_by, list_all, list_any, range_with_len}
pub use Rattle.std.specs.Option.{option_map}
pub use Rattle.std.specs.Ordering.{is_eq, nat_cmp}
pub use Rattle.std.specs.Prelude.{Bool, MatchOption, None, Option, Some, [], bytes_eq, codes, flat_map, get_or, nat_le, nat_lt, not, slice_get, slice_index_or, zero, ◌&&◌, ◌*◌, ◌==◌, ◌||◌, ◌⊎◌}
pub use Rattle.std.specs.Simd.Lanes.{mask_l, top, zip2}
