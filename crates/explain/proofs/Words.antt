-- Re-exports of the definitions and lemmas with which this crate is proved.
pub use Rattle.entries.specs.declared.assertion_view.Hypothesis.{Hypothesis}
pub use Rattle.entries.specs.declared.assertion_view.Hypothesis.TheVariants.{Essential, Float}
pub use Rattle.explain.specs.Breaks.{AreLettersBroken, BeginsWith, Breaks, IsAllowedBeginning, IsEndOrMark, IsFirst, IsLetterBreak, EndsListedLabels, IsNotLabel, IsTooGreat, has_fault, joined, marks_in, fault_index}
pub use Rattle.explain.specs.CitationFaults.{AllMatch, HasOtherTypecode, HasOtherTypecodeThan, IsEssential, IsFirstMismatch, IsMismatchFault, required_result}
pub use Rattle.explain.specs.DisjointViolations.{IsViolation}
pub use Rattle.explain.specs.CitationResults.{CitationGives, named_results, of_assertion, of_hypothesis}
pub use Rattle.explain.specs.FirstFault.{IsItemFault, IsCitationFault, IsLabelCitationFault, IsFirstFault, RunsWithinLimit}
pub use Rattle.explain.specs.LastResults.{AreRead, last_named, last_results}
pub use Rattle.explain.specs.LettersBefore.{IsReadTo, zeros}
pub use Rattle.explain.specs.ReadImages.{image_at, images_read}
pub use Rattle.explain.specs.WrongResults.{AreCorrectResults, IsResultsFault, images_of}
pub use Rattle.explain.specs.declared.reason.ItemFault.{ItemFault}
pub use Rattle.explain.specs.declared.reason.ItemFault.TheVariants.{OtherTypecode, OtherExpression, TooFewResults, TooManySymbols, Inactive, NotEarlier, NotDisjoint, UnknownLabel, NoMarkedResult}
pub use Rattle.explain.specs.declared.reason.Reason.{Reason}
pub use Rattle.explain.specs.declared.why.LetterBreak.{LetterBreak}
pub use Rattle.explain.specs.declared.why.LetterFault.{LetterFault}
pub use Rattle.explain.specs.declared.why.LetterFault.TheVariants.{NotEnded, NotLetter, TooGreat}
pub use Rattle.frame.proofs.FoundByNumber.{decode-injective, map-at, name_at-injective}
pub use Rattle.frame.proofs.KindWalk.{same-number}
pub use Rattle.frame.proofs.SymbolNumberLemmas.{below-append}
pub use Rattle.frame.specs.AssertionView.{AreNumberedHypotheses, IsStatementOf, IsNumberedHypothesis}
pub use Rattle.frame.specs.AtPosition.{ArePositions, IsPosition}
pub use Rattle.frame.specs.Below.{AllBelow, AreBelow}
pub use Rattle.frame.specs.Citations.{Carries, IsHypothesis, expr_at, option_expr}
pub use Rattle.frame.specs.Disjoint.{are_disjoint, are_groups_disjoint, is_group_disjoint}
pub use Rattle.frame.specs.FrameOf.{HasAssertion, active_disjoint_lists, hypotheses, is_pair}
pub use Rattle.frame.specs.Parts.{Numbered}
pub use Rattle.frame.specs.Substitution.{CodeImages, Images, apply, code_apply, code_image, image}
pub use Rattle.mm_lex.specs.Alphabet.{Name, has_name, is_empty, is_label, name_eq}
pub use Rattle.mm_read.specs.Statements.{Database, Expr}
pub use Rattle.mm_read.specs.declared.stmt.Stmt.{Stmt}
pub use Rattle.names.proofs.CodesLemmas.{name_eq-comm, name_same}
pub use Rattle.names.specs.Codes.{AreDistinct, decode, name_at}
pub use Rattle.proof_code.proofs.LetterItemLemmas.{WritesRow-read}
pub use Rattle.proof_code.proofs.LettersLemmas.{first_bounds, is_leading-false, is_leading-true, is_last-true, last_bounds, number_of-placed, placed-number_of}
pub use Rattle.proof_code.proofs.OneList.{malformed-none, one_answer}
pub use Rattle.proof_code.proofs.WritesLemmas.{begins}
pub use Rattle.proof_code.specs.ItemNumbers.{item_of, items_of}
pub use Rattle.proof_code.specs.Letters.{IsNumber, is_leading, is_last, number_after}
pub use Rattle.proof_code.specs.Reading.{before_rest}
pub use Rattle.proof_code.specs.Text.{numbers_from, starts_with_mark}
pub use Rattle.proof_code.specs.Writes.{IsMalformed, Writes, WritesFinishedCompressed, WritesRow, left_parenthesis, right_parenthesis, is_compressed, is_unfinished}
pub use Rattle.proof_code.specs.declared.fault.CodeFault.{CodeFault}
pub use Rattle.proof_code.specs.declared.fault.CodeFault.TheVariants.{Malformed, Unfinished}
pub use Rattle.proof_code.specs.declared.item.Item.{Item}
pub use Rattle.proof_code.specs.declared.item.Item.TheVariants.{Cite, Mark, Recall}
pub use Rattle.scope.proofs.StatementPlaces.{stands-within}
pub use Rattle.scope.specs.Active.{before, expr_of, is_assertion, is_variable, label_of, stmt_at}
pub use Rattle.std.proofs.Common.{Bool, Err, IfOk, List, MatchOption, None, Ok, Option, Result, Some, [], add-one, ap, append-nil, append_assoc, arith, cond, drop, false, get_or, inl, inr, length, length-append, length-drop, map, not, refl, slice_get, subst, suc, sym, take, take-append-drop, take_all, true, true≢false, zero, ℕ, ⊎_elim, ◌&&◌, ◌++◌, ◌+◌, ◌-◌, ◌<◌, ◌||◌, ◌∙◌, ◌∷◌, ◌≡◌, ◌≤◌, ◌⊎◌}
pub use Rattle.std.proofs.Math.Bool.{and_comm, or-true}
pub use Rattle.std.proofs.Math.Seq.{take-suc}
pub use Rattle.std.proofs.lemmas.Bool.{and_from, both_ways, eqb-true, le-leb, le-ltb, lt-ltb, not-false, not-true, or_cases, or_from, or_left, or_parts, or_right}
pub use Rattle.std.proofs.lemmas.Bool.Decides.{nat_tests}
pub use Rattle.std.proofs.lemmas.List.{length-map, map_more, map_push, take-map}
pub use Rattle.std.proofs.lemmas.List.Folds.{list_all-append, list_any-append}
pub use Rattle.std.proofs.lemmas.Option.{get_or_from_slice_get, none-some, same_Some, slice_get-get_or, slice_get_within}
pub use Rattle.std.proofs.lemmas.Slice.Eq.{bytes_eq-Decides}
pub use Rattle.std.specs.Global.{Vec}
pub use Rattle.std.specs.List.{list_all, list_any}
pub use Rattle.std.specs.Option.{option_map}
pub use Rattle.std.specs.Prelude.{IsTrue, bytes_eq, nat_eq, nat_le, nat_lt, slice_index_or, unwrap_or, ◌*◌, ◌↔◌, ◌≢◌}
pub use Rattle.subst.proofs.GroupLemmas.{below-group}
pub use Rattle.subst.proofs.SubstitutionLemmas.{decode-append}
pub use Rattle.subst.specs.declared.buffer.TheConstants.{SYMBOLS_LIMIT}
pub use Rattle.subst.specs.declared.violation.DisjointViolation.{DisjointViolation}
pub use Rattle.verify.proofs.MandatoryEntries.{mandatory-entries}
pub use Rattle.verify.proofs.Named.{all-drop}
pub use Rattle.verify.proofs.Words.{IfOk-weaker, get_or_default, item-cite, map-append, slice_get-map, take_more}
pub use Rattle.verify.specs.LabelTable.{IsEntry}
pub use Rattle.verify.specs.Machine.{IsSaved, Results, Runs, State, start}
pub use Rattle.verify.specs.Proves.{label_or_empty, mandatory_labels}
pub use Rattle.verify.specs.Right.{IsProvable}
pub use Rattle.verify.specs.Stops.{IsStopped}
pub use Rattle.verify.specs.declared.label_table.LabelEntry.TheVariants.{Nothing}
