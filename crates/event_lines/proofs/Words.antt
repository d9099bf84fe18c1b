-- Re-exports of the definitions and lemmas with which this crate is proved.
pub use Rattle.commands.proofs.ScriptsLemmas.{text_passed}
pub use Rattle.commands.proofs.TextsLemmas.{bytes_found, bytes_rest}
pub use Rattle.commands.specs.LineWords.{Words, last_value, by_first_word, first_entry_id, node_of, first_number, one_node, one_number}
pub use Rattle.commands.specs.CommonLines.{without_text}
pub use Rattle.commands.specs.OfferedEntry.{are_charter_authors, charter_authors_of, numbers_of}
pub use Rattle.commands.specs.Pieces.{split_at}
pub use Rattle.commands.specs.PlayLines.{line_or_common_line, play_line_by, play_line_of}
pub use Rattle.commands.specs.Scripts.{prepended, script_from, script_of, with_line}
pub use Rattle.commands.specs.Texts.{bytes_before, text_in_form}
pub use Rattle.commands.specs.declared.line_words.NodeEntryId.{NodeEntryId}
pub use Rattle.commands.specs.declared.offered_entry.OfferedEntry.{OfferedEntry}
pub use Rattle.commands.specs.declared.play_line.PlayLine.{PlayLine}
pub use Rattle.commands.specs.declared.play_line.PlayLine.TheVariants.{Common}
pub use Rattle.commands.specs.declared.text_form.TextForm.{TextForm}
pub use Rattle.commands.specs.declared.text_form.TextForm.TheVariants.{Bytes, Rest}
pub use Rattle.event_lines.specs.EventLines.{EventIsInRange, EntryIsInRange, TextIsInRange, offer_lines, lines_of_event, lines_of_events, spaced, spaced_word, play_line_of_event, text_offer_lines, node_author_serial_words}
pub use Rattle.library.specs.Charters.{AreNames, is_rising}
pub use Rattle.library.specs.declared.charter.TheConstants.{MAX_NAMES}
pub use Rattle.library.specs.declared.entry.Entry.{Entry}
pub use Rattle.library.specs.declared.entry.Entry.TheVariants.{Charter, Text}
pub use Rattle.library.specs.declared.submission.Submission.{Submission}
pub use Rattle.net.specs.declared.event.Event.{Event}
pub use Rattle.net.specs.declared.event.Event.TheVariants.{Begin, Deliver, Offer, Restart}
pub use Rattle.text.specs.Numbers.{number_from, number_of}
pub use Rattle.std.proofs.Common.{Ok, ap, append-nil, append_assoc, arith, div-add-mod', drop, get_or, leb, length, length-append, subst, sym, take, ◌∙◌}
pub use Rattle.std.proofs.lemmas.Bool.{eq-eqb, le-leb, lt-ltb, ne_eqb}
pub use Rattle.std.proofs.lemmas.Fmt.{decimal_by_steps, decimal_digit, decimal_nonempty}
pub use Rattle.std.proofs.lemmas.List.{drop_at, get_or_at, take_all, take_at}
pub use Rattle.std.proofs.lemmas.List.Folds.{list_any-append}
pub use Rattle.std.proofs.lemmas.List.Splits.{join_with_byte-slice_split, slice_split-cons_no, slice_split-cons_yes}
pub use Rattle.std.specs.Char.{is_ascii_digit}
pub use Rattle.std.specs.List.{AllByRecursion, join_with_byte, list_any, onto_first, slice_split}
pub use Rattle.std.specs.Prelude.{Bool, List, None, Option, Result, Some, [], codes, count_by, decimal, false, flat_map, if◌then◌else◌, map, nat_lt, option_and_then, option_map, refl, true, ℕ, ◌%◌, ◌&&◌, ◌*◌, ◌++◌, ◌+◌, ◌-◌, ◌/◌, ◌<◌, ◌==◌, ◌^◌, ◌||◌, ◌∷◌, ◌≡◌, ◌≤◌}
pub use Rattle.world.specs.declared.carried.Carried.{Carried}
