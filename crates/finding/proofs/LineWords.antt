-- Re-exports of the definitions and lemmas with which this crate is proved.
pub use Rattle.finding.specs.Essentials.{AreMatchingEssentials, AreRecorded, IsTrimmedLength, IsActiveHypothesis}
pub use Rattle.finding.specs.Matching.{IsMatch, AssertionMatches, HasPattern, SomeEssentialHas, essential_at, essential_expr}
pub use Rattle.finding.specs.Lines.{AreFoundLines, IsLineIf, expr_end, found_line, is_still_first, label_start, line_if, line_with_essentials, line_of, listed_essential, listed_essentials}
pub use Rattle.finding.specs.declared.query.SearchQuery.{SearchQuery}
pub use Rattle.finding.specs.declared.query.SearchQuery.TheVariants.{WithHypotheses}
pub use Rattle.frame.proofs.ActivePositions.{IsActiveAt, active-members, members-active}
pub use Rattle.frame.proofs.BlockWalkLemmas.{active-stays, get-take}
pub use Rattle.frame.proofs.LastActiveLemmas.{cut-here, drop-front, length-cut}
pub use Rattle.frame.proofs.OpenLemmas.{stays_open-front}
pub use Rattle.frame.specs.Citations.{is_hypothesis_kind}
pub use Rattle.frame.specs.FrameOf.{hypotheses, is_hypothesis}
pub use Rattle.frame.specs.Stored.Hypotheses.{In}
pub use Rattle.mm_read.specs.Statements.{Database}
pub use Rattle.mm_read.specs.declared.stmt.Stmt.{Stmt}
pub use Rattle.mm_read.specs.declared.stmt.Stmt.TheVariants.{Axiom, Ess, Open, Prove}
pub use Rattle.finding.specs.Matches.{Part}
pub use Rattle.scope.proofs.StatementPlaces.{stmt_at-bares}
pub use Rattle.scope.specs.Active.{active_from, bare, bares, before, is_active, is_assertion, is_essential, stays_open, stmt_at}
pub use Rattle.std.proofs.Common.{Bool, List, None, Option, Some, [], ap, append_assoc, arith, codes, drop, false, filter, get_or, inl, inr, length, length-append, lt-ltb, map, nat_le, nat_lt, refl, slice_get, subst, suc, sym, take, take-append-drop, take-take, true, zero, ℕ, ◌&&◌, ◌++◌, ◌+◌, ◌-◌, ◌<◌, ◌∙◌, ◌∷◌, ◌≡◌, ◌≤◌}
pub use Rattle.std.proofs.lemmas.Bool.{and_from, and_parts, both_ways, cases_lt, ltb-true}
pub use Rattle.std.proofs.lemmas.List.{append-nil, get_or-take, get_or_append_left, get_or_at, take_all}
pub use Rattle.std.proofs.lemmas.Option.{same_Some, slice_get-get_or}
pub use Rattle.std.proofs.lemmas.Result.{IfOk-weaker, on_ok_weaker}
pub use Rattle.std.specs.Prelude.{IfOk, Err, IsFalse, IsTrue, Ok, OnOk, Result, option_and_then, option_map, ◌↔◌, ◌⊎◌}
