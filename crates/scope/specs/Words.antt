-- Re-exports definitions of other crates that many of those here use.
pub use Rattle.mm_lex.specs.Alphabet.{Name, has_name, name_eq}
pub use Rattle.mm_read.specs.Statements.{Database, Expr}
pub use Rattle.mm_read.specs.declared.stmt.Stmt.{Stmt}
pub use Rattle.mm_read.specs.declared.stmt.Stmt.TheVariants.{Axiom, Close, Const, Disj, Ess, Float, Open, Prove, Var}
pub use Rattle.names.specs.Codes.{AreCodes, HaveCodes, decode, name_at, codes_or_len, with_names}
pub use Rattle.std.specs.Borrow.{Bor}
pub use Rattle.std.specs.List.{flat_map, list_all, list_any}
