-- Re-exports of the definitions and lemmas with which this crate is proved.
pub use Rattle.text.specs.Escapes.{html_text}
pub use Rattle.proof_pages.specs.Notations.{symbol_html}
pub use Rattle.proof_pages.specs.Graphs.{arrow_line, node_text, graph_header, quoted_symbol}
pub use Rattle.proof_pages.specs.StepLines.{comma_and_number, expr_text, number_text, step_line, symbol_text, taken_text, concat_texts}
pub use Rattle.proof_pages.specs.TableRows.{item_html}
pub use Rattle.proof_pages.specs.Writing.{IsWrittenThenBuffered}
pub use Rattle.scope.specs.Active.{stmt_at}
pub use Rattle.std.proofs.Common.{ap, arith, length, subst, sym, take, ◌++◌, ◌<◌, ◌∙◌, ◌≡◌}
pub use Rattle.std.proofs.lemmas.List.{append-nil, append_assoc, length-take-le, take_all, take_more}
pub use Rattle.std.proofs.lemmas.Option.{slice_get-get_or}
pub use Rattle.std.specs.Io.KnownBytes.{Appends}
pub use Rattle.std.specs.Prelude.{Err, List, None, Ok, OnOk, Option, Result, Some, [], codes, decimal, flat_map, get_or, if◌then◌else◌, suc, ℕ, ◌+◌, ◌∷◌, ◌≤◌}
pub use Rattle.std.specs.Result.{is_ok}
pub use Rattle.steps.specs.Rows.{no_row}
pub use Rattle.verify.specs.Proves.{label_or_empty}
