-- The names that the proofs of this crate use, exported again from one place.
pub use Rattle.mm_lex.specs.Alphabet.{Name, has_name, name_eq}
pub use Rattle.mm_lex.specs.Words.{words_of}
pub use Rattle.mm_read.specs.Statements.{AreShaped, Database, Expr, tokens_of}
pub use Rattle.mm_read.specs.declared.stmt.Stmt.{Stmt}
pub use Rattle.mm_read.specs.declared.stmt.Stmt.TheVariants.{Axiom, Close, Const, Disj, Ess, Float, Open, Prove, Var}
pub use Rattle.names.proofs.AddedNames.{has-more, has-with_names, has_name-append, code_or_len-same, codes_or_len-more, or_cases, with_names-more}
pub use Rattle.names.proofs.CodesLemmas.{added-name, code-at, code-first, code-name, found-number, name_eq-comm, name_same, same_name, unknown-number}
pub use Rattle.names.proofs.DistinctLemmas.{distinct-with_names, name_at-more}
pub use Rattle.names.specs.Codes.{AreCodes, AreDistinct, HaveCodes, code_of, decode, name_at, code_or_len, codes_or_len, with_name, with_names}
pub use Rattle.scope.specs.Accepted.{Accepted}
pub use Rattle.scope.specs.Active.{active, active_from, active_variables, bare, bares, constants, count, has_float, has_label, is_active, is_close, is_closed, is_constant, is_float_of, is_open, is_variable, label_of, stays_open, stmt_at, typed_by, typed_variables, variables, was_label, was_symbol, was_variable}
pub use Rattle.scope.specs.Declares.{IsRecordedBy, MayDeclare, declared_with}
pub use Rattle.scope.specs.Kinds.{Declared, IsNumberOf, IsNumberingOf, MatchesKind, MatchesKinds, declared_labels, declared_names, declared_symbols, is_some_constant, is_some_label, is_label_kind, is_symbol_kind, is_some_variable, kind_in, names_of_kind, names_where, symbol_count_before, with_kind, with_kinds, zip_kinds}
pub use Rattle.scope.specs.Laws.{ClosesAtMost, before_open, between, has_open}
pub use Rattle.scope.specs.Legal.{AllLegal, IsLegal, all_different, are_typed, broken_rule, end_rule, first_broken, starts_with_constant}
pub use Rattle.scope.specs.Sorts.{IsSort, is_constant_sort, is_symbol_sort, is_untyped_sort, variable_sort, broken_by_sorts}
pub use Rattle.scope.specs.FrameStatement.{frame_statements_of, as_frame_statement}
pub use Rattle.scope.specs.Stored.KindCounts.{AreCounted, count_after, kinds_of, indexes_where}
pub use Rattle.scope.specs.Stored.Ordered.{DifferFromNext, HasEqualNeighbours}
pub use Rattle.scope.specs.Stored.Stacks.{IsRulesState, IsMarked, IsPlain, IsScope, blocks_from, blocks_of, can_push, heights_of}
pub use Rattle.scope.specs.Stored.SymbolNumbers.{AreRecorded, IsAppended, are_numbers_distinct}
pub use Rattle.scope.specs.Symbols.{AreNumbers, AreVariableNumbers, labels_of, prepend_option, symbols_after, symbols_declared_by, symbols_from, symbols_in, symbols_of}
pub use Rattle.scope.specs.contracts.history.History.{the_row, the_type}
pub use Rattle.scope.specs.declared.legal.Sort.{Sort}
pub use Rattle.scope.specs.declared.numbering.CountedKind.{CountedKind}
pub use Rattle.scope.specs.declared.numbering.NameKind.{NameKind}
pub use Rattle.scope.specs.declared.numbering.NameKind.TheVariants.{Constant, Label, Variable}
pub use Rattle.scope.specs.declared.rule.Rule.{Rule}
pub use Rattle.scope.specs.declared.rule.Rule.TheVariants.{G1, G10, G2, G3, G4, G5, G6, G7, G8, G9}
pub use Rattle.scope.specs.declared.stack_heights.StackHeights.{StackHeights}
pub use Rattle.scope.specs.declared.frame_statements.FrameStatement.{FrameStatement}
pub use Rattle.scope.specs.declared.steps.Steps.{Steps}
pub use Rattle.std.proofs.Common.{Bor, Equal, Err, Greater, IfSome, IsPermutation, IsSorted, Less, MutBor, Ok, OnOk, Ordering, Result, add-zero, ap, append_assoc, arith, drop, get_or, inl, inr, is_eq, is_lt, length, length-append, map, nat_cmp, nat_le, rules, subst, sym, true≢false, vec_len, ◌^◌, ◌∙◌, ◌≡◌, ◌⊎◌}
pub use Rattle.std.proofs.Math.Bool.{and-false, and-true, not-not, or-false, or_comm}
pub use Rattle.std.proofs.lemmas.Bool.{and_parts, eq-eqb, eqb-true, false_from_ne_true, le-leb, lt-ltb, ltb-true, not-true, or_left, or_parts, or_right}
pub use Rattle.std.proofs.lemmas.Bool.Decides.{nat_tests}
pub use Rattle.std.proofs.lemmas.Grind.{flat_map-append}
pub use Rattle.std.proofs.lemmas.List.{append-nil, length-map, length-take-le, length_push, map-append, nil_from_length, same_from_push, take-map, take_all, take_at}
pub use Rattle.std.proofs.lemmas.List.Folds.{list_all-append, list_any-append}
pub use Rattle.std.proofs.lemmas.List.Sorted.{IsPermutation-sym}
pub use Rattle.std.proofs.lemmas.Map.Keys.{IsDistinct-IsPermutation, IsDistinct-from_sorted, apart_from_distinct, sorted_from_all_adjacent}
pub use Rattle.std.proofs.lemmas.Map.Text.{is_eq-slice_cmp}
pub use Rattle.std.proofs.lemmas.Option.{get_or_from_slice_get, same_Some, slice_get-map, slice_get_read, slice_get_within}
pub use Rattle.std.specs.Cmp.Lexicographic.{on_texts, slice_cmp}
pub use Rattle.std.specs.List.{AllByRecursion, flat_map, list_all, list_any}
pub use Rattle.std.specs.Ordering.{eq_by_cmp, ordering_reverse}
pub use Rattle.std.specs.Prelude.{Bool, List, None, Option, Some, [], codes, cond, false, is_some, nat_lt, not, option_map, refl, slice_get, suc, take, true, zero, ℕ, ◌&&◌, ◌++◌, ◌+◌, ◌-◌, ◌<◌, ◌==◌, ◌||◌, ◌∷◌, ◌≤◌}
pub use Rattle.std.specs.Result.{is_err}
pub use base.Fml.{Fml, GName, Lft, Share, fbor, flft, fobs, ftrue}
pub use base.Logic.{SProp, emp, ent, fst∗, id⊢, sep, via}
pub use contract.Lifetimes.{Lfts, Shares}
pub use contract.Monad.{Fun}
pub use contract.Running.{tables}
pub use denote.Exit.{yes}
pub use denote.Memory.{mem}
pub use denote.Param.Send.{IsSend, owning_send}
pub use denote.RattleType.{owns}
pub use denote.Ref.{MutRef, mut_Tells, mut_vals, shr_Tells, shr_vals}
pub use denote.Shadow.{pure_i}
pub use denote.Signature.{plain, types_at}
pub use denote.Steps.{closes, nothing, opens}
pub use denote.Triple.Entry.{Args, alive, on_entry}
pub use denote.Triple.Spec.{Meets, triple_of}
pub use denote.Triple.Table.{entered}
pub use denote.Triple.Walked.{AllGo, Goes-none_ref, Goes-ref, Stays, Walks, ends_at, says, stay_none_ref, stay_ref, walk_Meets, walk_of, walked}
pub use mir.Syntax.{named}
pub use mir.Val.{Val, vcons, vnil, vptr, vstruct, vunit}
pub use prog.Memory.{Memory}
pub use prog.Routine.{Routine}
pub use prog.Wp.{Calls, Loops, Tables, WpFn}
pub use seplogic.Ra.Ura.{Ura}
pub use sound.WpLaws.{WpFn-mono}
pub use types.ByLocal.{alloc_all, free_all, get, look_at, pass_all, sets}
pub use types.Kit.{ !, by, done, feq_i, fjoin, fjoin3, frame, fsplit, fsplit3, join, keep, move, qed, raw, split, suffices, use1, ‵, ◌$◌, ◌∵◌, ◌⊛◌}
pub use types.Logic.{Logic}
pub use types.Part.{agg}
pub use types.Run.{and_then, enter, no_more, of_opd, returns, unit_lit}
pub use types.SemTy.{Body}
