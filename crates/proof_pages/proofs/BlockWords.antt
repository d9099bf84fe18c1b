-- Re-exports of the definitions and lemmas with which this crate is proved.
pub use Rattle.frame.specs.FrameOf.{HasAssertion, hypotheses, mandatory_groups}
pub use Rattle.mm_lex.specs.Alphabet.{Name, runs, word}
pub use Rattle.mm_lex.specs.Comments.{runs_after}
pub use Rattle.mm_lex.specs.declared.span.Span.{Span}
pub use Rattle.mm_read.specs.Statements.{Database}
pub use Rattle.mm_read.specs.declared.stmt.Stmt.{Stmt}
pub use Rattle.mm_read.specs.declared.stmt.Stmt.TheVariants.{Axiom, Close, Const, Disj, Ess, Float, Open, Prove, Var}
pub use Rattle.names.specs.Codes.{decode}
pub use Rattle.scope.proofs.StatementPlaces.{stmt_at-bares}
pub use Rattle.scope.specs.Active.{bare, bares, before, is_assertion, stmt_at}
pub use Rattle.proof_pages.specs.Blocks.{block_text}
pub use Rattle.proof_pages.specs.Wrapped.{column_after, wrapped, wrapped_from, separator}
pub use Rattle.proof_pages.specs.Lines.{after_space, frame_lines, group_line, line_at, symbol_text, group_line_of_numbers}
pub use Rattle.std.proofs.Common.{List, None, Option, Some, [], ap, append_assoc, arith, codes, length, map, refl, slice_get, suc, sym, take, true, zero, ℕ, ◌++◌, ◌+◌, ◌∙◌, ◌∷◌, ◌≡◌, ◌≤◌}
pub use Rattle.std.proofs.lemmas.Fmt.{decimal_digit}
pub use Rattle.std.proofs.lemmas.List.{append-nil, take_all}
pub use Rattle.std.specs.Prelude.{Err, Ok, OnOk, Result, decimal, flat_map, option_map}
