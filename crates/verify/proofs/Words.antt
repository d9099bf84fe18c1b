-- Re-exports of the definitions and lemmas with which this crate is proved.
pub use Prim.Native.String.{String}
pub use Rattle.entries.specs.declared.assertion_view.AssertionView.{AssertionView}
pub use Rattle.entries.specs.declared.assertion_view.Hypothesis.TheVariants.{Essential, Float}
pub use Rattle.entries.specs.declared.assertion_view.Hypothesis.{Hypothesis}
pub use Rattle.frame.proofs.ActiveDisjointLemmas.{below-at}
pub use Rattle.frame.proofs.AssertionLemmas.{hypothesis-kinds}
pub use Rattle.frame.proofs.FoundByNumber.{decode-injective, name_at-injective, some-same}
pub use Rattle.frame.proofs.LegalLabels.{legal-labels}
pub use Rattle.frame.proofs.PlacedHypotheses.{AreHyps, IsHyp, hyps}
pub use Rattle.frame.proofs.PositionLemmas.{get-front, get-last}
pub use Rattle.frame.proofs.SymbolNumberLemmas.{below-append, below-more, below-push, below-take}
pub use Rattle.frame.specs.AssertionView.{AreNumberedHypotheses, IsStatementOf, IsNumberedHypothesis, IsTypecode, IsViewOf, typecode_of}
pub use Rattle.frame.specs.AtPosition.{HasLegalProperties, ArePositions, HasLabelsOnce, IsPosition, HasSingleResults}
pub use Rattle.frame.specs.Below.{AllBelow, AreBelow}
pub use Rattle.frame.specs.WellTyped.{HasFloat, IsWellTyped, BeginsWithNoVariable}
pub use Rattle.frame.specs.Citations.{Carries, IsHypothesis, IsInstance, AreImagesOfVariables, expr_at, is_hypothesis_kind, option_expr, premises}
pub use Rattle.frame.specs.Disjoint.{are_disjoint, are_groups_disjoint, is_group_disjoint}
pub use Rattle.frame.specs.FrameOf.{HasAssertion, hypotheses, is_hypothesis, mandatory_groups}
pub use Rattle.frame.specs.Parts.{Numbered}
pub use Rattle.frame.specs.Substitution.{CodeImages, Images, apply as applied, code_apply, code_image, image, images_of_names}
pub use Rattle.mm_lex.specs.Alphabet.{Name, has_name, name_eq}
pub use Rattle.mm_read.specs.Statements.{Database, Expr}
pub use Rattle.mm_read.specs.declared.stmt.Stmt.TheVariants.{Axiom, Const, Disj, Ess, Open, Prove, Var}
pub use Rattle.mm_read.specs.declared.stmt.Stmt.{Stmt}
pub use Rattle.names.proofs.CodesLemmas.{code-name, name_same, same_name}
pub use Rattle.names.specs.Codes.{AreCodes, AreDistinct, code_of, decode, name_at}
pub use Rattle.proof_code.proofs.AnswersLemmas.{compressed_finished}
pub use Rattle.proof_code.proofs.OneList.{one_list}
pub use Rattle.proof_code.proofs.RowOfNumbers.{item-cite, item-recall}
pub use Rattle.proof_code.specs.ItemNumbers.{item_of, items_of}
pub use Rattle.proof_code.specs.Reading.{IsHeadingWithNumbers, share_label}
pub use Rattle.proof_code.specs.Writes.{Writes, WritesCompressed, right_parenthesis, is_compressed}
pub use Rattle.proof_code.specs.declared.item.Item.TheVariants.{Cite, Mark, Recall}
pub use Rattle.proof_code.specs.declared.item.Item.{Item}
pub use Rattle.scope.proofs.BareLemmas.{bare-same}
pub use Rattle.scope.proofs.Databases.{demo, row_seven, row_th, w}
pub use Rattle.scope.proofs.StatementPlaces.{stands-within, stmt_at-bares}
pub use Rattle.scope.specs.Active.{active_from, bare, bares, before, expr_of, is_active, is_assertion, is_provable, is_variable, label_of, stays_open, stmt_at}
pub use Rattle.std.proofs.Common.{Bool, IfOk, IsTrue, List, Ok, Result, Some, [], add-zero, add_assoc, ap, append-nil, append_assoc, arith, drop, false, get_or, inl, inr, length, length-append, length-drop, map, not, refl, slice_get, subst, sym, take, true, true≢false, zero-add, ℕ, ◌++◌, ◌+◌, ◌-◌, ◌<◌, ◌↔◌, ◌∙◌, ◌∷◌, ◌≡◌, ◌≤◌}
pub use Rattle.std.proofs.Math.Bool.{or-false}
pub use Rattle.std.proofs.lemmas.Bool.Decides.{nat_tests}
pub use Rattle.std.proofs.lemmas.Bool.{and_from, leb-true, lt-ltb, ltb-true, not-false, not-true, or_left, or_right}
pub use Rattle.std.proofs.lemmas.List.Folds.{list_any-append}
pub use Rattle.std.proofs.lemmas.List.Sorted.{searched}
pub use Rattle.std.proofs.lemmas.List.{drop-drop, drop-map, drop-take, drop_all, drop_at, drop_more, ext_get_or, get_or_default, length-map, length-take-le, length_push, map-append, map_more, map_push, same_from_push, take-append-drop, take-map, take_all, take_at, take_more, take_rest}
pub use Rattle.std.proofs.lemmas.Option.{get_or_from_slice_get, same_Some, slice_get-get_or, slice_get-map, slice_get_within}
pub use Rattle.std.proofs.lemmas.Result.{IfOk-at_ok, IfOk-weaker, on_ok_weaker}
pub use Rattle.std.proofs.lemmas.Slice.Eq.{bytes_eq-Decides}
pub use Rattle.std.specs.Cmp.{both_ways}
pub use Rattle.std.specs.List.Sorted.{IsNonDecreasing}
pub use Rattle.std.specs.List.{list_all, list_any}
pub use Rattle.std.specs.Map.{lookup}
pub use Rattle.std.specs.Ordering.{nat_cmp, ord_max}
pub use Rattle.std.specs.Prelude.{Err, MatchResult, None, Option, Vec, bytes_eq, codes, cond, filter, is_none, is_some, max, min, nat_eq, nat_le, nat_lt, option_map, replicate, slice_index_or, slice_set, suc, unwrap_or, zero, ◌&&◌, ◌==◌, ◌||◌, ◌⊎◌}
pub use Rattle.std.specs.declared.alloc.AllocError.{AllocError}
pub use Rattle.std.specs.declared.alloc.Global.{Global}
pub use Rattle.subst.proofs.GroupLemmas.{below-drop, below-group}
pub use Rattle.subst.proofs.ImageRangesLemmas.{image-none, image-some, inside-more, inside-none}
pub use Rattle.subst.proofs.SubstitutionLemmas.{image-decode, image-named, image-unnamed, substitution_over_names}
pub use Rattle.subst.proofs.SymbolRangeLemmas.{length-seen, map-seen-more, seen-get, seen-last, within-at, within-drop, within-get, within-snoc, within-take, within-weaken}
pub use Rattle.subst.specs.Images.{AreOver}
pub use Rattle.subst.specs.Stored.Written.{Appends}
pub use Rattle.subst.specs.SymbolRanges.{AreInside, AreWithin, images_at, symbols_in}
pub use Rattle.subst.specs.declared.symbol_range.SymbolRange.{SymbolRange}
pub use Rattle.verify.specs.Concludes.{ConcludeAll, Concludes}
pub use Rattle.verify.specs.Derivations.{Derivation, Derivations, apply, depth, depth_in, derivation_of, derivation_step, from_list, hyp, more, node_count, nodes_in, none}
pub use Rattle.verify.specs.Extents.{extent_of}
pub use Rattle.verify.specs.HypothesisResults.{AreDifferent, AreRead, ArePresent, HasSeenEssentials, HasSeenEssentialsBefore, HypothesesMatch, HypothesisMatches, IsPresent, IsTyped, Reads}
pub use Rattle.verify.specs.Growth.{Builds, Grows, GrowsBy, IsSavedTree, Trees, a_hypothesis, an_assertion, trees, with_tree}
pub use Rattle.verify.specs.LabelTable.{AreEntries, IsEntry, is_hypothesis_among}
pub use Rattle.verify.specs.Laws.{RunsSpell, SpelledOnce, SpellingsRun}
pub use Rattle.verify.specs.Machine.{Cites, IsSaved, Results, Runs, State, RunsItem, of_assertion, of_hypothesis, start, with_mark, with_result}
pub use Rattle.verify.specs.Plan.{AddsNode, AreOrdered, IsAfter, IsPlan, IsPlanOf, built, built_from, derive, pick, trees_of}
pub use Rattle.verify.specs.Proves.{Proves, label_or_empty, mandatory_labels}
pub use Rattle.verify.specs.ReadPlaces.{BeginsWith, IsMistyped, ReadTo, ReadsAll, tail_of}
pub use Rattle.verify.specs.ResultPlaces.{Adds, AreResultRanges, HeldResults, IsKept, Marks, Recalls, below, results_in, top}
pub use Rattle.verify.specs.Right.{Derives, IsProvable, IsRight, IsSmall, IsAnswerIfAny, IsAnswerTo, weight_limit}
pub use Rattle.verify.specs.Spells.{IsCitable, Spells, SpellsAll, cites_assertion, cites_hypothesis, marks, recalls, spells_more, spells_none}
pub use Rattle.verify.specs.RunsItemByNumber.{AreNamed, TellsDisjoint, HasCited, MayCite, RunsItemByNumber, RunsItemIn, named}
pub use Rattle.verify.specs.Stops.{StopsAt}
pub use Rattle.verify.specs.Walk.{CitesAssertion, CitesHypothesis, Hears, IsDone, IsHeard, IsLastRange, IsMark, IsRecall, Walk, walk, walk_on, walk_start}
pub use Rattle.verify.specs.declared.answer.Answer.TheVariants.{Proved, Wrong}
pub use Rattle.verify.specs.declared.answer.Answer.{Answer}
pub use Rattle.verify.specs.declared.citation.ProofContext.{ProofContext}
pub use Rattle.verify.specs.declared.label_table.LabelEntry.TheVariants.{Assertion, Nothing}
pub use Rattle.verify.specs.declared.label_table.LabelEntry.{LabelEntry}
pub use Rattle.verify.specs.declared.plan.Extent.{Extent}
pub use Rattle.verify.specs.declared.plan.Node.TheVariants.{Apply, Hyp}
pub use Rattle.verify.specs.declared.plan.Node.{Node}
pub use Rattle.verify.specs.declared.plan.TreePlan.{TreePlan}
pub use Rattle.verify.specs.declared.tree.Tree.TheFolds.{fold-roll-Tree}
pub use Rattle.verify.specs.declared.tree.Tree.TheVariants.{rolls-Apply, rolls-Hyp}
pub use Rattle.verify.specs.declared.tree.Tree.{Tree}
pub use Rattle.frame.specs.ListsOfPairs.{is_numbered_pair}
pub use Rattle.frame.specs.MandatoryPairs.{IsPairList, float_variables, pair_lists}
pub use Rattle.subst.specs.Images.{are_numbered_lists_disjoint, is_numbered_list_disjoint}
pub use Rattle.subst.specs.ReadImages.{HasReadOnly}
pub use Rattle.std.proofs.lemmas.List.Folds.{list_all_more}
