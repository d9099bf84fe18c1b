-- Several of the names from other crates that these definitions use, re-exported from one place.
-- (`Words` of `mm_lex` is another thing: a list of tokens.)
pub use Rattle.frame.specs.Citations.{Carries}
pub use Rattle.mm_lex.specs.Alphabet.{Name, has_name, name_eq}
pub use Rattle.mm_lex.specs.TextFaults.{IsLexFault}
pub use Rattle.mm_lex.specs.declared.fault.LexFault.{LexFault}
pub use Rattle.mm_read.specs.Reads.{HasTokens, IsNoDatabase, IsReadFault, Reads}
pub use Rattle.mm_read.specs.Statements.{AreShaped, Database}
pub use Rattle.mm_read.specs.declared.stmt.Stmt.{Stmt}
pub use Rattle.mm_read.specs.declared.stmt.Stmt.TheVariants.{Axiom, Const, Prove}
pub use Rattle.proof_code.specs.Writes.{Writes, right_parenthesis, is_unfinished}
pub use Rattle.proof_code.specs.declared.item.Item.{Item}
pub use Rattle.scope.specs.Active.{bares, before, is_closed, is_provable, proof_of, stays_open, stmt_at}
pub use Rattle.scope.specs.Legal.{AllLegal, first_broken}
pub use Rattle.verify.specs.Proves.{label_or_empty, mandatory_labels}
pub use Rattle.verify.specs.Right.{Derives, IsProvable, IsRight, IsSmall}
