-- The definitions of other crates that this crate's specifications use, re-exported.
pub use Rattle.text.specs.Escapes.{html_text, quoted_text}
pub use Rattle.mm_lex.specs.Alphabet.{Name}
pub use Rattle.mm_lex.specs.Words.{spaced}
pub use Rattle.mm_read.specs.Statements.{Database, Expr}
pub use Rattle.mm_read.specs.declared.stmt.Stmt.{Stmt}
pub use Rattle.mm_read.specs.declared.stmt.Stmt.TheVariants.{Axiom, Prove}
pub use Rattle.names.specs.Codes.{name_at}
pub use Rattle.scope.specs.Active.{is_assertion, stmt_at}
pub use Rattle.steps.specs.Rows.{Row}
pub use Rattle.verify.specs.Proves.{label_or_empty}
