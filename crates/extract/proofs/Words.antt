-- Re-exports of the definitions and lemmas with which this crate is proved.
pub use Rattle.extract.proofs.ParallelLemmas.{part-whole}
pub use Rattle.extract.specs.Parts.{HasSameAssertion, IsPartOf}
pub use Rattle.extract.specs.Walk.{HaveSameListedAssertions, is_listed_assertion}
pub use Rattle.extract.specs.Extract.{IsExtract}
pub use Rattle.extract.specs.Labels.{AreValidLabels, IsFirstLabelFault, IsValidLabel, IsLabelFault, NamesAssertion, NamesHypothesis}
pub use Rattle.extract.specs.declared.fault.ExtractFault.{ExtractFault}
pub use Rattle.extract.specs.declared.fault.ExtractFault.TheVariants.{Memory, NoLabel, NotAssertion, SameLabel}
pub use Rattle.frame.specs.AtPosition.{HasLabelsOnce}
pub use Rattle.frame.specs.FrameOf.{HasAssertion}
pub use Rattle.library.proofs.QueriesLemmas.{named, no-label, one-place}
pub use Rattle.library.specs.Good.{Good}
pub use Rattle.mm_lex.proofs.NameLemmas.{name_same}
pub use Rattle.mm_lex.specs.Alphabet.{Name, has_name, name_eq}
pub use Rattle.mm_read.specs.Export.{export_of}
pub use Rattle.mm_read.specs.Reads.{Reads}
pub use Rattle.mm_read.specs.Statements.{Database}
pub use Rattle.mm_read.specs.declared.stmt.Stmt.{Stmt}
pub use Rattle.mm_read.specs.declared.stmt.Stmt.TheVariants.{Axiom, Close, Const, Disj, Ess, Float, Open, Prove, Var}
pub use Rattle.scope.proofs.StatementPlaces.{stands-within, stmt_at-bares}
pub use Rattle.scope.specs.Active.{bare, bares, is_assertion, label_of, stmt_at}
pub use Rattle.std.proofs.Common.{ap, append-nil, append_assoc, inl, inr, map, subst, sym, take_all, ◌∙◌}
pub use Rattle.std.proofs.lemmas.Bool.{or_right}
pub use Rattle.std.proofs.lemmas.List.{drop_all, drop_more, get_or-map, length-map, take-append-drop, take-map, take_more}
pub use Rattle.std.specs.List.{AllByRecursion, list_any}
pub use Rattle.std.specs.Prelude.{Err, IfOk, List, Ok, Result, Some, [], drop, false, get_or, length, option_map, refl, take, true, ℕ, ◌++◌, ◌+◌, ◌<◌, ◌||◌, ◌∷◌, ◌≡◌, ◌≤◌}
