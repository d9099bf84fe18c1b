-- The names that the proofs of this crate use, exported again from one place.
pub use Rattle.memchr.specs.Find.{NoneBefore, Nowhere, Passes, is_byte}
pub use Rattle.mm_lex.specs.Alphabet.{IsPartOfRun, Name, has_byte, is_allowed, is_empty, is_label, is_symbol, is_visible, is_white, name_eq, runs, runs_from, is_empty_or_starts_white, with_byte, word}
pub use Rattle.mm_lex.specs.Between.{AreTokensAfter, IsCommentFaultOrMemoryAfter, AreTokensBetween, IsNextToken, IsTokenAfter, IsCommentFaultAfter}
pub use Rattle.mm_lex.specs.Comments.{IsClosedAt, IsNestedAt, PassesPlain, runs_after}
pub use Rattle.mm_lex.specs.Laws.{SomeAnswer}
pub use Rattle.mm_lex.specs.Stored.SpacedPrefix.{ends_between, ends_here, lanes_end, spaced_prefix_len}
pub use Rattle.mm_lex.specs.SymbolList.{AddsSymbols, EndsSymbols}
pub use Rattle.mm_lex.specs.TextFaults.{IsCommentFault, IsFirstBadByte, IsNestedOpener, IsStrayCloser, IsUnclosed, IsCommentFaultOfRuns}
pub use Rattle.mm_lex.specs.Tokens.{AllPlain, AreCommentsAndTokens, AreTokens, SplitsInto, HasOnlyAllowedBytes, IsCommentAndTokens, IsWordAt, CommentAndTokens, closer, is_plain, opener, all_spans, words}
pub use Rattle.mm_lex.specs.Words.{AreWords, is_word, spaced, words_of}
pub use Rattle.mm_lex.specs.declared.fault.LexFault.{LexFault}
pub use Rattle.mm_lex.specs.declared.fault.LexFault.TheVariants.{Comment, Memory, Text}
pub use Rattle.mm_lex.specs.declared.span.Span.{Span}
pub use Rattle.std.proofs.Common.{add-zero, ap, append_assoc, arith, bit_and, bit_or, drop-cons, eq-eqb, eqb, get_or, inl, inr, leb, length, length-append, ltb, ltb-false, ltb-true, min, replicate, rules, subst, sym, true≢false, w8, ◌%◌, ◌-◌, ◌^◌, ◌∙◌}
pub use Rattle.std.proofs.Math.Bool.{not-not}
pub use Rattle.std.proofs.Math.Seq.{drop-length, take-length}
pub use Rattle.std.proofs.lemmas.Bool.{and_from, and_parts, eqb-false, eqb-true, not-true, or_parts}
pub use Rattle.std.proofs.lemmas.List.{append-nil, drop-drop, get_or-drop, get_or-take, length-drop, length-map, length-take, length-take-le, map-append, take-append-drop, take_rest}
pub use Rattle.std.proofs.lemmas.List.Elements.{All-push}
pub use Rattle.std.proofs.lemmas.List.Folds.{list_all-append, prefix_len-append}
pub use Rattle.std.proofs.lemmas.List.Splits.{join_with_byte-slice_split, length-slice_split, slice_split_first}
pub use Rattle.std.proofs.lemmas.List.Sums.{passes_at_first, prefix_len-le-length}
pub use Rattle.std.proofs.lemmas.Result.{err_from_is_err_and}
pub use Rattle.std.proofs.lemmas.Simd.{bitmask_splat, leading_from_mask_l, length-zip2, mask_l-mod, tops_compared, trailing_mask_l, zip2_splat_left}
pub use Rattle.std.proofs.lemmas.Slice.Eq.{bytes_eq-Decides}
pub use Rattle.std.specs.Int.Count.{count_trailing_zeros}
pub use Rattle.std.specs.List.{All, after_first, before_first, list_all, onto_first, position, position_or_len, prefix_len, slice_split}
pub use Rattle.std.specs.Option.{unwrap_or}
pub use Rattle.std.specs.Prelude.{Bool, Err, List, None, Ok, OnOk, Option, Result, Some, [], codes, cond, count_by, drop, false, flat_map, is_err, is_ok, map, nat_eq, nat_le, nat_lt, not, refl, suc, take, true, zero, ℕ, ◌&&◌, ◌++◌, ◌+◌, ◌<◌, ◌==◌, ◌||◌, ◌∷◌, ◌≡◌, ◌≤◌, ◌⊎◌}
pub use Rattle.std.specs.Simd.Lanes.{mask_l, top, zip2}
