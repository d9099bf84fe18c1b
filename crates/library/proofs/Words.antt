-- Re-exports of the definitions and lemmas with which this crate is proved.
pub use Rattle.frame.proofs.AssertionLemmas.{hypothesis-kinds}
pub use Rattle.frame.proofs.EnterLemmas.{label_of-bare}
pub use Rattle.frame.proofs.FoundByNumber.{map-back, some-same}
pub use Rattle.frame.proofs.LegalLabels.{legal-labels}
pub use Rattle.frame.proofs.PlacedHypotheses.{AreHyps, IsHyp, hyps}
pub use Rattle.frame.proofs.PositionLemmas.{positions-end}
pub use Rattle.frame.specs.AtPosition.{ArePositions, HasLabelsOnce, IsPosition}
pub use Rattle.frame.specs.Citations.{Carries, IsHypothesis, IsInstance, expr_at, is_hypothesis_kind, option_expr, premises}
pub use Rattle.frame.specs.Disjoint.{are_groups_disjoint}
pub use Rattle.frame.specs.FrameOf.{hypotheses, mandatory_groups}
pub use Rattle.library.specs.Added.{AreProvedTo, IsAdded, IsAddedAfter, count_of}
pub use Rattle.library.specs.Causes.{IsAllowed, IsCause, IsFault, IsFirstUnproved, IsReadable}
pub use Rattle.library.specs.Charters.{first_declaration, first_forbidden, is_rising, may_declare}
pub use Rattle.library.specs.Good.{Good, IsProved}
pub use Rattle.library.specs.Judging.{AreProvedBetween, IsChecked, IsJudged, IsPastAt, IsProvedIfProvable, IsReading, judged_statements}
pub use Rattle.library.specs.LibraryOf.{Applies, AppliesAt, Decides, EntryVerdict, IsLibraryOf, ReplicaState, Runs, author_of, decided_with, empty, serial_of, status, status_of}
pub use Rattle.library.specs.LibraryState.{IsTableOf, HasFewStepsForEntry, HasFewStepsForText, key_cmp, verdict_of}
pub use Rattle.library.specs.Listed.{listed, listed_of}
pub use Rattle.library.specs.PlainLibraryOf.{IsPlainCause, PlainApplies, PlainAppliesAt, PlainDecides, PlainReplicaState, PlainRuns}
pub use Rattle.library.specs.Queries.{HasNoLabel, IsNoProvable, IsTreeOf, IsUsage, NamesNoProvable, NamesProvable, SpellsTree}
pub use Rattle.library.specs.ProofJobs.{AreProvablesAfter, AreProofs, IsRightProof}
pub use Rattle.library.specs.UseMarks.{AreLabelMarks, IsMarked, IsMarkedAxiom, ItemsCiteMarked, ListsNone, ListsSome, Marks, ProofCitesMarked, is_marked, listed_in, mark, mark_items, cited_position}
pub use Rattle.library.specs.Uses.{AreLabelsOf, Cites, HasItems, IsAxiomAt, IsIn, IsUser, ItemsCite, RestsOn, Rises, Uses, directly, is_axiom, through}
pub use Rattle.library.specs.Words.{is_closed}
pub use Rattle.library.specs.contracts.decided.DecidedEntries.{the_row, the_type}
pub use Rattle.library.specs.declared.adding.Tables.{Tables}
pub use Rattle.library.specs.declared.decided.EntryState.{EntryState}
pub use Rattle.library.specs.declared.entry.Entry.{Entry}
pub use Rattle.library.specs.declared.entry.Entry.TheVariants.{Charter, Text}
pub use Rattle.library.specs.declared.listed.Listed.{Listed}
pub use Rattle.library.specs.declared.queries.AskFault.{AskFault}
pub use Rattle.library.specs.declared.queries.AskFault.TheVariants.{NoLabel, NotProvable, TooLarge}
pub use Rattle.library.specs.declared.submission.Submission.{Submission}
pub use Rattle.library.specs.declared.submission.TheConstants.{MAX_BYTES}
pub use Rattle.library.specs.declared.verdict.Cause.{Cause}
pub use Rattle.library.specs.declared.verdict.Cause.TheVariants.{NotChartered, Proof, Rule, Shape, Text as BadText, TooLong, Unfinished}
pub use Rattle.library.specs.declared.verdict.Verdict.{Verdict}
pub use Rattle.library.specs.declared.verdict.Verdict.TheVariants.{Added, Nothing, Refused, Repeat}
pub use Rattle.mm_lex.proofs.BadByteLemmas.{HasOnlyAllowedBytes-no_fault}
pub use Rattle.mm_lex.proofs.NameLemmas.{name_same}
pub use Rattle.mm_lex.proofs.TokensLemmas.{AreTokens-no_comment_fault}
pub use Rattle.mm_lex.specs.Alphabet.{Name, has_name, is_allowed, is_label, name_eq, runs, word}
pub use Rattle.mm_lex.specs.TextFaults.{IsLexFault}
pub use Rattle.mm_lex.specs.Tokens.{is_plain, words}
pub use Rattle.mm_lex.specs.declared.fault.LexFault.{LexFault}
pub use Rattle.mm_read.proofs.NextLemmas.{on_ok}
pub use Rattle.mm_read.proofs.OneReading.{same_tokens}
pub use Rattle.mm_read.proofs.OneStatementList.{one_statement_list}
pub use Rattle.mm_read.specs.Reads.{HasTokens, IsNoDatabase, Reads}
pub use Rattle.mm_read.specs.Statements.{AreShaped, Database, Expr, is_shaped, tokens_of}
pub use Rattle.mm_read.specs.declared.stmt.Stmt.{Stmt}
pub use Rattle.mm_read.specs.declared.stmt.Stmt.TheVariants.{Axiom, Const, Ess, Float, Prove, Var}
pub use Rattle.proof_code.proofs.OneList.{malformed-none, one_answer, one_list}
pub use Rattle.proof_code.proofs.ReadProofLemmas.{apart-written, shared-none}
pub use Rattle.proof_code.proofs.RowOfNumbers.{item-cite, item-recall}
pub use Rattle.proof_code.specs.ItemNumbers.{item_of, items_of}
pub use Rattle.proof_code.specs.Reading.{IsHeadingWithNumbers, share_label}
pub use Rattle.proof_code.specs.Writes.{AreItems, IsMalformed, Writes, WritesCompressed, WritesFinishedCompressed, WritesFinishedNormal, left_parenthesis, right_parenthesis, is_compressed, is_unfinished}
pub use Rattle.proof_code.specs.declared.fault.CodeFault.{CodeFault}
pub use Rattle.proof_code.specs.declared.fault.CodeFault.TheVariants.{Malformed}
pub use Rattle.proof_code.specs.declared.item.Item.{Item}
pub use Rattle.proof_code.specs.declared.item.Item.TheVariants.{Cite, Mark, Recall}
pub use Rattle.scope.proofs.BareLemmas.{broken_rule-bares, end_rule-bares}
pub use Rattle.scope.proofs.Databases.{w}
pub use Rattle.scope.proofs.StatementPlaces.{stands-within, stmt_at-bares}
pub use Rattle.scope.specs.Active.{bare, bares, before, is_active, is_assertion, is_provable, is_variable, label_of, proof_of, stays_open, stmt_at}
pub use Rattle.scope.specs.Legal.{AllLegal, IsLegal, broken_rule, end_rule, first_broken, numbered, or_later}
pub use Rattle.scope.specs.declared.rule.Rule.{Rule as BrokenRule}
pub use Rattle.scope.specs.declared.rule.Rule.TheVariants.{G10, G4, Memory}
pub use Rattle.std.proofs.Common.{IfSome, Ok, Some, [], ap, append-nil, append_assoc, arith, drop, false, inl, inr, length, length-append, lit≤, map, refl, replicate, rules, slice_set, subst, suc, sym, take, take_all, true, true≢false, ℕ, ◌*◌, ◌++◌, ◌+◌, ◌-◌, ◌<◌, ◌↔◌, ◌∙◌, ◌∷◌, ◌≡◌, ◌≤◌}
pub use Rattle.std.proofs.Math.ListN.{get_or-map}
pub use Rattle.std.proofs.Math.Seq.{drop-append_seam, take-add, take-append_seam}
pub use Rattle.std.proofs.lemmas.Bool.{and_parts, both_ways, cases_Bool, cases_eq, cases_lt, cases_order, false_from_ne_true, or_right, true_from_ne_false}
pub use Rattle.std.proofs.lemmas.Bool.Decides.{nat_tests}
pub use Rattle.std.proofs.lemmas.Fn.{says_at}
pub use Rattle.std.proofs.lemmas.List.{drop-append-le, drop_all, drop_more, get_or-append_right, get_or-set_other, get_or-set_same, get_or_append_left, get_or_default, get_or_past, length-drop, length-map, length-replicate, length-set, length-take-le, map-append, map_more, set-get_or, take-append-drop, take-append-le, take_more, take_rest}
pub use Rattle.std.proofs.lemmas.List.Elements.{filter_map-append}
pub use Rattle.std.proofs.lemmas.List.Folds.{Any-from_list_any, list_all-append}
pub use Rattle.std.proofs.lemmas.Map.Keys.{any_passes_from_place}
pub use Rattle.std.proofs.lemmas.Option.{get_or_from_slice_get, slice_get-get_or, slice_get-map, slice_get_read, slice_get_within}
pub use Rattle.std.proofs.lemmas.Simd.{map-map}
pub use Rattle.std.proofs.lemmas.Slice.Eq.{bytes_eq-Decides}
pub use Rattle.std.specs.BTreeMap.{BTreeMap, Updates, get, is_at}
pub use Rattle.std.specs.List.{list_all, list_any}
pub use Rattle.std.specs.Prelude.{Bool, Err, IfOk, IsFalse, IsTrue, List, MatchOption, MatchResult, None, OnOk, Option, Result, codes, cond, get_or, if◌then◌else◌, is_err, nat_le, nat_lt, option_map, slice_get, slice_index_or, unwrap_or, zero, ◌&&◌, ◌==◌, ◌||◌, ◌≢◌, ◌⊎◌}
pub use Rattle.verify.proofs.MarkLemmas.{lent-whole, no-mark}
pub use Rattle.verify.proofs.RightLemmas.{provable-bare}
pub use Rattle.verify.specs.Concludes.{ConcludeAll, Concludes}
pub use Rattle.verify.specs.Derivations.{Derivation, Derivations, apply, hyp, more}
pub use Rattle.verify.specs.Proves.{Proves, label_or_empty, mandatory_labels}
pub use Rattle.verify.specs.Right.{Derives, IsAnswerIfAny, IsProvable, IsRight}
pub use Rattle.verify.specs.Spells.{Spells, SpellsAll, cites_assertion, cites_hypothesis, marks, recalls, spells_more, spells_none}
pub use Rattle.verify.specs.declared.answer.Answer.{Answer}
pub use Rattle.verify.specs.declared.answer.Answer.TheVariants.{Proved, TooCostly as CostlyAnswer, Wrong}
pub use Rattle.verify_pool.proofs.JobsLemmas.{get-last, get-more, stmt_stays}
pub use base.Fml.{Fml}
pub use base.Logic.{SProp, emp, ent, fst∗, via}
pub use contract.Lifetimes.{Lfts, Shares}
pub use contract.Monad.{Fun}
pub use contract.Running.{tables}
pub use denote.Enum.Bare.{sameb}
pub use denote.Exit.{yes}
pub use denote.Param.Send.{IsSend, owning_send}
pub use denote.RattleType.{owns}
pub use denote.Ref.{shr_Tells, shr_vals}
pub use denote.Shadow.{pure_i}
pub use denote.Signature.{plain, types_at}
pub use denote.Triple.Entry.{Args, alive, on_entry}
pub use denote.Triple.Spec.{Meets, triple_of}
pub use denote.Triple.Table.{entered}
pub use denote.Triple.Walked.{Goes-none_ref, Stays, Walks, ends_at, says, stay_none_ref, walk_Meets, walk_of, walked}
pub use mir.Syntax.{named}
pub use mir.Val.{Val, vnil, vptr, vstruct}
pub use prog.Routine.{Routine}
pub use prog.Wp.{Calls, Loops, WpFn}
pub use seplogic.Ra.Ura.{Ura}
pub use sound.WpLaws.{WpFn-mono}
pub use types.ByLocal.{alloc_all, free_all, look_at, pass_all, sets}
pub use types.Kit.{ !, done, move, qed, raw, suffices, ‵, ◌$◌, ◌∵◌}
pub use types.Logic.{Logic}
pub use types.Part.{agg}
pub use types.Run.{enter, no_more, returns}
