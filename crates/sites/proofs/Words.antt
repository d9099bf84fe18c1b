-- Re-exports of the definitions and lemmas with which this crate is proved.
pub use Rattle.frame.proofs.LegalLabels.{legal-labels}
pub use Rattle.frame.specs.Citations.{Carries}
pub use Rattle.library.proofs.JoinedRulesLemmas.{legal-each}
pub use Rattle.library.specs.Good.{Good}
pub use Rattle.library.specs.Queries.{IsProofOf}
pub use Rattle.library.specs.Uses.{HasItems, Uses, IsUser, is_axiom}
pub use Rattle.library.specs.Words.{Item, IsRight}
pub use Rattle.mm_read.proofs.NextLemmas.{on_ok}
pub use Rattle.proof_pages.specs.Colours.{classes_of}
pub use Rattle.proof_pages.specs.Pages.{page_html}
pub use Rattle.proof_pages.specs.declared.contents.PageContents.{PageContents}
pub use Rattle.std.specs.Global.{Vec}
pub use Rattle.std.specs.Io.KnownBytes.{Appends}
pub use Rattle.steps.specs.Essential.{AreEssential}
pub use Rattle.steps.specs.Rows.{AreRows, Row, steps_of}
pub use Rattle.steps.specs.StepTable.{AreSteps}
pub use Rattle.frame.specs.FrameOf.{HasAssertion}
pub use Rattle.mm_lex.specs.Alphabet.{Name}
pub use Rattle.mm_read.specs.Statements.{Database}
pub use Rattle.mm_read.specs.declared.stmt.Stmt.{Stmt}
pub use Rattle.mm_read.specs.declared.stmt.Stmt.TheVariants.{Axiom, Open, Prove}
pub use Rattle.scope.proofs.StatementPlaces.{stands-within, stmt_at-bares}
pub use Rattle.scope.specs.Active.{bare, bares, is_assertion, is_provable, label_of, stmt_at}
pub use Rattle.markup.specs.IndexItems.{items_of}
pub use Rattle.proof_pages.specs.declared.style.TheConstants.{STYLE_SHEET}
pub use Rattle.markup.specs.Pages.{file_of, index_files}
pub use Rattle.markup.specs.declared.pages.IndexPage.{IndexPage}
pub use Rattle.sites.specs.AssertionPages.{AreContents, AreSpans, IsDescription, IsPage, IsPageOf, IsShownProof, database_of, description_at, items_or_none}
pub use Rattle.sites.specs.PassState.{lists_of}
pub use Rattle.sites.specs.References.{AreListsOf, ArePositionsWhere}
pub use Rattle.text.specs.FileNames.{file_name}
pub use Rattle.sites.specs.SiteFiles.{WritesFiles, WritesPages, WritesSite, page_file, page_files}
pub use Rattle.std.proofs.Common.{ap, append-nil, append_assoc, arith, refl, subst, sym, ◌∙◌}
pub use Rattle.std.proofs.lemmas.List.{get_or_past, length-map, length-take-le, take_more}
pub use Rattle.std.proofs.lemmas.Option.{get_or_from_slice_get, slice_get-get_or, slice_get_read}
pub use Rattle.std.specs.Prelude.{Bool, map, zero, Err, List, None, Ok, OnOk, Option, Result, Some, [], codes, false, get_or, length, option_map, slice_get, suc, take, true, ℕ, ◌++◌, ◌+◌, ◌-◌, ◌<◌, ◌∷◌, ◌≡◌, ◌≤◌}
pub use Rattle.verify.proofs.RightLemmas.{provable-bare}
pub use Rattle.verify.specs.Right.{IsProvable}
