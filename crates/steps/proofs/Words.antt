-- The definitions and lemmas of other crates that the proofs of this crate use, re-exported from
-- one place.
pub use Rattle.entries.proofs.StatementRecordLemmas.{get-last}
pub use Rattle.entries.specs.declared.assertion_view.Hypothesis.{Hypothesis}
pub use Rattle.entries.specs.declared.assertion_view.Hypothesis.TheVariants.{Essential, Float}
pub use Rattle.frame.proofs.ActiveDisjointLemmas.{below-at}
pub use Rattle.frame.proofs.FoundByNumber.{map-at, some-same}
pub use Rattle.frame.proofs.PositionLemmas.{get-front}
pub use Rattle.frame.proofs.SymbolNumberLemmas.{below-more, below-push, below-take}
pub use Rattle.frame.specs.AssertionView.{AreNumberedHypotheses, IsStatementOf}
pub use Rattle.frame.specs.AtPosition.{HasLegalProperties, HasLabelsOnce}
pub use Rattle.frame.specs.Below.{AllBelow, AreBelow}
pub use Rattle.frame.specs.Citations.{Carries, IsHypothesis, IsInstance, premises}
pub use Rattle.frame.specs.Parts.{Numbered}
pub use Rattle.frame.specs.FrameOf.{HasAssertion, hypotheses}
pub use Rattle.mm_lex.specs.Alphabet.{Name}
pub use Rattle.mm_read.specs.Statements.{Database, Expr}
pub use Rattle.mm_read.specs.declared.stmt.Stmt.{Stmt}
pub use Rattle.names.proofs.OverflowLemmas.{apart, keeps}
pub use Rattle.names.specs.Codes.{decode}
pub use Rattle.proof_code.specs.declared.item.Item.{Item}
pub use Rattle.proof_code.specs.declared.item.Item.TheVariants.{Cite, Mark, Recall}
pub use Rattle.scope.specs.Active.{before, expr_of, is_assertion, stmt_at}
pub use Rattle.std.proofs.Common.{ap, append_assoc, arith, drop, inl, inr, length-append, subst, sym, take, true≢false, ◌∙◌, ◌≡◌}
pub use Rattle.std.proofs.lemmas.Bool.{cases_Bool, cases_lt}
pub use Rattle.std.proofs.lemmas.List.{get_or-set_same, same_from_push, length-map, length-replicate, length-set, map-append, map_push}
pub use Rattle.std.proofs.lemmas.Option.{get_or_from_slice_get, slice_get-get_or, slice_get_within}
pub use Rattle.std.proofs.lemmas.Result.{IfOk-weaker, on_ok_weaker}
pub use Rattle.std.proofs.lemmas.Slice.Eq.{bytes_eq-Decides}
pub use Rattle.std.specs.BTreeMap.{BTreeMap, UpdatesBy}
pub use Rattle.std.specs.Cmp.{eq_by_cmp_equiv}
pub use Rattle.std.specs.Cmp.Lexicographic.{nat_list_cmp_total, slice_cmp}
pub use Rattle.std.specs.List.Sorted.{IsStrictlyIncreasing}
pub use Rattle.std.specs.Ordering.{is_eq, nat_cmp}
pub use Rattle.std.specs.Prelude.{Bool, List, None, Option, Some, [], false, get_or, if◌then◌else◌, length, map, refl, replicate, slice_get, slice_set, suc, true, zero, ℕ, ◌++◌, ◌+◌, ◌-◌, ◌<◌, ◌∷◌, ◌≢◌, ◌≤◌, ◌⊎◌}
pub use Rattle.std.specs.Str.{bytes_eq}
pub use Rattle.std.specs.declared.alloc.Global.{Global}
pub use Rattle.std.specs.declared.vec.Vec.{Vec}
pub use Rattle.steps.specs.Essential.{AreEssential, IsEssential, IsIn, IsRenumbered, premise_places, taken_for_premises, is_last, is_premise, is_taken, mandatory_hypotheses}
pub use Rattle.steps.specs.Rows.{AreRows, Follows, IsRow, Row, expr_in, from_assertion, from_hypothesis, no_row, row, steps_of}
pub use Rattle.steps.specs.StepTable.{AreSteps, IsPlaced, IsStepOf, Progress, RecordsItem, RecordsItems, Step, is_appended, of_assertion, of_hypothesis, progress, was_there}
pub use Rattle.steps.specs.Stored.Drafted.{AreInBuffer, AreStepPlaces, FindsStep, CitesStep, IsDraft, IsDraftOf, AgreesWithRun, key_of, place_of, progress_of, row_of, rows_of}
pub use Rattle.steps.specs.Stored.Marked.{AreMarkedFrom, AreMarks, AreNumbers, HasMark, MarksMore, kept_row, mark_each, mark_last, marked_before, number_of, taken_for_essentials}
pub use Rattle.steps.specs.Unfolded.{citation_over, has_assertion, last_unfolded, unfolded, unfolded_after}
pub use Rattle.steps.specs.declared.table_draft.StoredStep.{StoredStep}
pub use Rattle.steps.specs.declared.table_draft.TableDraft.{TableDraft}
pub use Rattle.subst.proofs.GroupLemmas.{below-drop}
pub use Rattle.subst.proofs.SymbolRangeLemmas.{seen-last, seen-more}
pub use Rattle.subst.specs.SymbolRanges.{symbols_in}
pub use Rattle.subst.specs.declared.symbol_range.SymbolRange.{SymbolRange}
pub use Rattle.verify.proofs.Decide.{append_cut, length-premises, not_both}
pub use Rattle.verify.proofs.GrowthLemmas.{leaves}
pub use Rattle.verify.proofs.MarkLemmas.{no-mark, set_true}
pub use Rattle.verify.proofs.Named.{halves, length-top}
pub use Rattle.verify.proofs.PlanLemmas.{below-get, map-pick, trees-same}
pub use Rattle.verify.proofs.RequiredHypotheses.{required-lengths}
pub use Rattle.verify.proofs.ResultPlaceLemmas.{get-map}
pub use Rattle.verify.proofs.WalkLemmas.{run-as}
pub use Rattle.verify.specs.Derivations.{Derivation, apply, from_list, hyp}
pub use Rattle.verify.specs.Growth.{Grows, GrowsBy, Trees, a_hypothesis, an_assertion, trees}
pub use Rattle.verify.specs.Machine.{Cites, Results, State, RunsItem, with_mark, with_result}
pub use Rattle.verify.specs.Plan.{pick}
pub use Rattle.verify.specs.ResultPlaces.{HeldResults, below, top}
pub use Rattle.verify.specs.Right.{Derives, IsRight}
pub use Rattle.verify.specs.RunsItemByNumber.{named}
pub use Rattle.verify.specs.Walk.{CitesAssertion, CitesHypothesis, Hears, IsDone, IsMark, IsRecall, Walk, walk_on, walk_start}
