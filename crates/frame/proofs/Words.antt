-- The definitions and lemmas of std and of the layers below that the proofs of this crate use,
-- re-exported from one place.
pub use Rattle.entries.proofs.AddedStatement.{ok-weaker, on-err}
pub use Rattle.entries.proofs.BufferPlaceLemmas.{get-push, take-get}
pub use Rattle.entries.proofs.MentionLogLemmas.{kept-front as mentions-kept, until-kept, until-later, until-more}
pub use Rattle.entries.proofs.SpanLemmas.{cut-more, cut-push, extends-length, extends-refl, extends-take, range-behind, spans-push, spans-reverse}
pub use Rattle.entries.proofs.StatementRecordLemmas.{get-last, get-more}
pub use Rattle.entries.specs.Entries.{IsWholeView, Assertion, Entry, entry_by, entry_from_ref}
pub use Rattle.entries.specs.Mentions.{AreKeptUntil, AreSame, AreUntil, AreWith, IsUntil, kept_until, mentions_of, positions_of}
pub use Rattle.entries.specs.Hypotheses.{decoded_hypothesis}
pub use Rattle.entries.specs.Stored.Spans.{AreSpansIn, Extends, cut}
pub use Rattle.entries.specs.declared.assertion_view.AssertionView.{AssertionView}
pub use Rattle.entries.specs.declared.assertion_view.Hypothesis.{Hypothesis}
pub use Rattle.entries.specs.declared.buffer_part.BufferPart.{BufferPart}
pub use Rattle.entries.specs.declared.entry_header.EntryHeader.{EntryHeader}
pub use Rattle.entries.specs.declared.kind.Kind.{Kind}
pub use Rattle.entries.specs.declared.kind.Kind.TheVariants.{Axiom, Disj, Ess, Float, Prove, Var}
pub use Rattle.entries.specs.declared.last_active.LastActive.{LastActive}
pub use Rattle.entries.specs.declared.mentions.Mention.{Mention}
pub use Rattle.frame.specs.AssertionView.{AreListsOf, AreNumberedHypotheses, IsStatementOf, IsNumberedHypothesis, IsTypecode, IsViewOf, typecode_of, AreBuffersOf, AreGroupsOf, AreVariablesOf}
pub use Rattle.frame.specs.AtPosition.{HasLegalProperties, ArePositions, HasLabelsOnce, IsPosition, HasSingleResults}
pub use Rattle.frame.specs.Ascending.{AreAbove, Ascends}
pub use Rattle.frame.specs.Below.{AllBelow, AreBelow}
pub use Rattle.frame.specs.Substitution.{CodeImages, Images, image, images_of_names}
pub use Rattle.frame.specs.WellTyped.{HasFloat, IsWellTyped, BeginsWithNoVariable}
pub use Rattle.frame.specs.Citations.{Carries, AreImagesOfVariables, expr_at, is_hypothesis_kind, premises}
pub use Rattle.frame.specs.Disjoint.{are_disjoint, are_groups_disjoint, are_lists_disjoint, is_group_disjoint, is_list_disjoint, is_pair_disjoint, is_symbol_disjoint}
pub use Rattle.frame.specs.FrameOf.{HasAssertion, frame_of, active_disjoint_lists, hypotheses, is_hypothesis, is_mandatory, is_pair, is_used, mandatory_groups, has_two_or_more}
pub use Rattle.frame.specs.LastActive.{actives, actives_from, is_disj, is_var, last_active_of, last_active_of_kind, last_position}
pub use Rattle.frame.specs.Laws.{GroupsHaveMandatoryPairs, PairListsDecideAsGroups}
pub use Rattle.frame.specs.ListsOfPairs.{AreListsOfPairs, have_both, is_numbered_pair}
pub use Rattle.frame.specs.MandatoryPairs.{AreMandatoryPairs, AreReordered, HasEachOnce, IsEachOnce, IsPairList, IsReordered, float_variables, has_number, has_two_or_more_items, pair_lists, pairs_by, with_floats, with_number}
pub use Rattle.frame.specs.Parts.{FrameParts, Numbered, VariablePairs}
pub use Rattle.frame.specs.Stored.AssertionParts.{are_together, disjoint_symbols, floats_in, groups_in, is_float_in, is_typed, is_typed_by, entry_hypothesis, option_symbols, recorded_in, hypothesis_at, hypothesis_by, stored_pairs, symbols_at, typecode_at, with_group, with_list}
pub use Rattle.frame.specs.Stored.Counts.{AreNumbered, HasMoreNames, HasTwoSymbolsIfFloat, HasMoreAtEnd, IsLabelBelow, IsPlain, kind_of, next_last_active}
pub use Rattle.frame.specs.Stored.Ends.{AreBlocks, AreEnds, AreBlockEnds, end_from, end_of, is_open_at, with_end}
pub use Rattle.frame.specs.Stored.EntryMeanings.{AreAllLegal, AreFloatsOf, IsLastFloat, float_mention, floats_from, is_float_with, is_float_kind, labels_in, names_in, option_position, positions_from, second_is, shapes_of, statements_of, stmt_by, stmt_of}
pub use Rattle.frame.specs.Stored.Hypotheses.{AreDescribed, AreHypotheses, ArePartsOf, HasMore, HoldsForSome, In, IsFilledFrom, IsFloatAfter, IsFloatOf, IsFloatOfSome, IsKeptAs, IsWithEssential, ListsExactly, is_hypothesis_entry}
pub use Rattle.frame.specs.Stored.PairLists.{AddsBefore}
pub use Rattle.frame.specs.Stored.Labels.{is_labelled_kind}
pub use Rattle.frame.specs.Stored.Naming.{is_kind_of_symbol, naming_from, naming_of}
pub use Rattle.frame.specs.Stored.OneFrame.{AreMandatory, among, is_needed, groups_among, is_in_essential, mandatory_positions}
pub use Rattle.frame.specs.Stored.MentionLists.{AreGrown, ArePlaced, IsGrown, IsLastActive, IsListOf, IsMentionedAt, IsTableOf, IsUpTo, active_with, is_entry_of, passes, stands}
pub use Rattle.frame.specs.Stored.Stacks.{AreOfKind, IsOfKind, KeepsUntil, has_code, positions_with, having_after, kind_test, last_by_kind, opening}
pub use Rattle.frame.specs.Stored.Whole.{AreKept, ArePartsFor, AreStored, IsEntryAfter, IsEntryHeader, IsKeptOf}
pub use Rattle.frame.specs.declared.storage.Storage.{Storage}
pub use Rattle.mm_lex.specs.Alphabet.{Name, has_name, name_eq}
pub use Rattle.mm_lex.specs.Words.{AreWords}
pub use Rattle.mm_read.specs.Statements.{Database, Expr}
pub use Rattle.mm_read.specs.declared.stmt.Stmt.{Stmt}
pub use Rattle.mm_read.specs.declared.stmt.Stmt.TheVariants.{Close, Const, Open}
pub use Rattle.names.proofs.AddedNames.{has_name-append}
pub use Rattle.names.proofs.CodesLemmas.{code-absent, code-at, has-at, list_any-map, lt-list_any, name_at-get_or, name_at-last, name_same, same_name}
pub use Rattle.names.proofs.DistinctLemmas.{name_at-more}
pub use Rattle.names.specs.Codes.{AreCodes, AreDistinct, code_of, decode, name_at, with_name, with_names}
pub use Rattle.scope.proofs.ActiveLemmas.{active_from-close, active_from-later, before_open-none, below-deficit, count-left_open, deficit, deficit-below, deficit-close, left_open, no_deficit, place, some_deficit, stays_open-append, stays_open-same}
pub use Rattle.scope.proofs.BareLemmas.{bare-same, declared_with-bare, legal-bare, symbols_declared_by-bare}
pub use Rattle.scope.proofs.Databases.{demo, demo_before, demo_mp, row_ax, row_seven, row_th, rows_front, w}
pub use Rattle.scope.proofs.DeclaredLemmas.{declared_with-more, may-declare, numbering-after, recorded-after}
pub use Rattle.scope.proofs.GoingBackLemmas.{all-has}
pub use Rattle.scope.proofs.KindCountLemmas.{both-counts}
pub use Rattle.scope.proofs.NamesLemmas.{active-was, labels_of-append, symbols-distinct, symbols_of-append, symbols_of-later}
pub use Rattle.scope.proofs.SortsLemmas.{is_variable-active, was_symbol-either}
pub use Rattle.scope.proofs.SymbolNameLemmas.{AreDone, names_where-append}
pub use Rattle.scope.specs.Active.{active, active_from, bare, before, constants, count, expr_of, has_float, has_label, is_active, is_assertion, is_close, is_constant, is_essential, is_float_of, is_open, is_variable, label_of, disjoint_names, stays_open, stmt_at, variables, was_label, was_symbol, was_variable}
pub use Rattle.scope.specs.Declares.{IsRecordedBy, declared_with}
pub use Rattle.scope.specs.Kinds.{Declared, IsNumberOf, IsNumberingOf, MatchesKind, MatchesKinds, declared_labels, declared_symbols, is_some_constant, is_symbol_kind, is_some_variable, kind_in}
pub use Rattle.scope.specs.Laws.{before_open, has_open}
pub use Rattle.scope.specs.Legal.{IsLegal, is_fresh_label, keeps, starts_with_constant}
pub use Rattle.scope.specs.FrameStatement.{frame_statements_of, as_frame_statement}
pub use Rattle.scope.specs.Stored.SymbolNumbers.{AreRecorded}
pub use Rattle.scope.specs.Symbols.{AreNumbers, AreVariableNumbers, labels_of, prepend_option, symbols_after, symbols_declared_by, symbols_from, symbols_in, symbols_of}
pub use Rattle.scope.specs.declared.numbering.NameKind.{NameKind}
pub use Rattle.scope.specs.declared.numbering.NameKind.TheVariants.{Constant}
pub use Rattle.scope.specs.declared.rule.Rule.TheVariants.{G1, G10, G2, G3, G4, G5, G6, G7, G8, G9}
pub use Rattle.scope.specs.declared.frame_statements.FrameStatement.{FrameStatement}
pub use Rattle.std.proofs.Common.{Bool, Bor, Err, IfNone, IfSome, IsTrue, List, None, Ok, OnErr, OnOk, Option, Result, Some, [], add-zero, ap, append-nil, append_assoc, arith, cond, drop, eqb, false, filter, get_or, get_or-take, inl, inr, is_some, le-leb, length, length-append, length-drop, length-set, length-take, length-take-le, lt-ltb, map, nat_cmp, nat_eq, nat_le, nat_lt, not, option_map, refl, replicate, reverse, rules, slice_get, slice_range, slice_set, subst, suc, sym, take, take-append-drop, take-take, take_all, true, true≢false, zero, ℕ, ⊎_elim, ◌&&◌, ◌++◌, ◌+◌, ◌-◌, ◌<◌, ◌==◌, ◌||◌, ◌∙◌, ◌∷◌, ◌≡◌, ◌≢◌, ◌≤◌, ◌⊎◌}
pub use Rattle.std.proofs.Math.Bool.{and-false, and-true, and-or_distrib_left, and_comm, or-false, or-true, or_assoc, or_comm}
pub use Rattle.std.proofs.Math.ListN.{get_or-append}
pub use Rattle.std.proofs.Math.Logic.{⊎_map}
pub use Rattle.std.proofs.Math.Seq.{get_or-append_seam, take-append-add, take-append_seam, take-length}
pub use Rattle.std.proofs.lemmas.Bool.{and_from, and_parts, and_right, both_ways, both_ways as not_both, cases_Bool, cases_eq, cases_lt, false_from_ne_true, false≢true, leb-true, ltb-true, not-false, or_cases, or_from, or_left, or_parts, or_right, true_from_ne_false}
pub use Rattle.std.proofs.lemmas.Grind.{get_or-set_at}
pub use Rattle.std.proofs.lemmas.List.{drop-append-le, drop-take, drop_all, drop_more, get_or-set_other, get_or_append_left, get_or_at, get_or_past, get_or_read, length-map, map-append, map_push, nil_from_length, reverse-append, reverse-reverse, take-append-le, take-map, take_at}
pub use Rattle.std.proofs.lemmas.List.Elements.{All-filter, All-from_get_or, All-get_or, All-map, filter-append}
pub use Rattle.std.proofs.lemmas.List.Filters.{dedup_is}
pub use Rattle.std.proofs.lemmas.List.Folds.{Any-from_list_any, list_all-map, list_all_at, list_all_more, list_any-append, list_any-from_Any, list_any_at, list_any_more}
pub use Rattle.std.proofs.lemmas.List.Kept.{Contains-dedup_nat, Contains-from_dedup}
pub use Rattle.std.proofs.lemmas.List.Sorted.{Contains-permutation, IsPermutation-sym}
pub use Rattle.std.proofs.lemmas.Map.Keys.{IsStrictlyIncreasing-dedup}
pub use Rattle.std.proofs.lemmas.Map.Views.{any-filter_same}
pub use Rattle.std.proofs.lemmas.Option.{get_or_from_slice_get, same_Some, slice_get-get_or, slice_get-map, slice_get_read, slice_get_within}
pub use Rattle.std.proofs.lemmas.Simd.{map-map}
pub use Rattle.std.proofs.lemmas.Slice.Eq.{bytes_eq-Decides}
pub use Rattle.std.specs.List.{All, Contains, dedup, find, flat_map, list_all, list_any, position_or_len}
pub use Rattle.std.specs.List.Sorted.{IsPermutation, IsSorted, IsStrictlyIncreasing}
pub use Rattle.std.specs.Prelude.{codes, max}
pub use mathlib.Core.Path.{fun_ext}
