-- The names that the proofs of this crate use, exported again from one place.
pub use Rattle.commands.specs.LineWords.{Words, by_first_word, first_entry_id, line_by_first_word}
pub use Rattle.commands.specs.CommonLines.{without_text, text_line_or_else}
pub use Rattle.commands.specs.OfferedEntry.{charter_authors_of, numbers_of, text_offer}
pub use Rattle.commands.specs.Pieces.{split_at}
pub use Rattle.commands.specs.PlayLines.{line_or_common_line, play_without_text, play_line_by, play_line_of, play_text_form, play_only_line}
pub use Rattle.commands.specs.RemainingLines.{IsAdvanced, RemainingLines}
pub use Rattle.commands.specs.Scripts.{Parses, ParsesLine, prepended, script_from, script_of, with_line}
pub use Rattle.commands.specs.ServeLines.{add_line_or_else, serve_line_by, serve_line_of, submit_form}
pub use Rattle.commands.specs.SessionLines.{help_or_line}
pub use Rattle.commands.specs.Texts.{bytes_before, first_bytes, lines_before, text_in_form}
pub use Rattle.commands.specs.declared.line_words.NodeEntryId.{NodeEntryId}
pub use Rattle.commands.specs.declared.line_words.TheConstants.{SPACE}
pub use Rattle.commands.specs.declared.common_line.CommonLine.{CommonLine}
pub use Rattle.commands.specs.declared.common_line.CommonLine.TheVariants.{Begin, Offer}
pub use Rattle.commands.specs.declared.offered_entry.OfferedEntry.{OfferedEntry}
pub use Rattle.commands.specs.declared.play_line.PlayLine.TheVariants.{Common}
pub use Rattle.commands.specs.declared.script.LineFault.{LineFault}
pub use Rattle.commands.specs.declared.script.TheConstants.{LINE_FEED}
pub use Rattle.commands.specs.declared.serve_line.ServeLine.{ServeLine}
pub use Rattle.commands.specs.declared.session_line.SessionLine.{SessionLine}
pub use Rattle.commands.specs.declared.session_line.SessionLine.TheVariants.{Help, Serve}
pub use Rattle.commands.specs.declared.text_form.TextForm.{TextForm}
pub use Rattle.library.specs.Charters.{is_rising}
pub use Rattle.library.specs.declared.charter.TheConstants.{MAX_NAMES}
pub use Rattle.library.specs.declared.entry.Entry.TheVariants.{Text}
pub use Rattle.std.proofs.Common.{ap, append-nil, append_assoc, arith, drop, get_or, length, length-append, length-drop, rules, subst, suc, sym, take, ◌∙◌}
pub use Rattle.std.proofs.lemmas.Bool.{eqb-true, false≢true, ltb-false, ltb-true}
pub use Rattle.std.proofs.lemmas.Bool.Decides.{nat_tests}
pub use Rattle.std.proofs.lemmas.Grind.{common_steps}
pub use Rattle.std.proofs.lemmas.List.{drop_at, drop_more, length-take-le, take-append-drop, take_all, take_at}
pub use Rattle.std.proofs.lemmas.List.Splits.{join_with_byte-slice_split, length-slice_split, slice_split-cons_no, slice_split-cons_yes, slice_split_first}
pub use Rattle.std.proofs.lemmas.List.Sums.{count_by-le-length}
pub use Rattle.std.specs.List.{join_with_byte, onto_first, position_or_len, slice_split}
pub use Rattle.std.specs.Prelude.{Bool, Err, IsErrAnd, IsSome, IsTrue, List, None, Ok, Option, Result, Some, [], codes, cond, count_by, false, if◌then◌else◌, is_some, nat_lt, not, option_and_then, option_map, position, refl, slice_index, true, zero, ℕ, ◌&&◌, ◌++◌, ◌+◌, ◌-◌, ◌<◌, ◌==◌, ◌||◌, ◌∷◌, ◌≡◌, ◌≤◌}
pub use Rattle.std.specs.Str.{bytes_eq}
