-- Definitions of lower crates that the specifications of this crate use, re-exported from one
-- place.
pub use Rattle.entries.specs.declared.assertion_view.Hypothesis.{Hypothesis}
pub use Rattle.frame.specs.Below.{AllBelow}
pub use Rattle.frame.specs.Citations.{Carries, IsHypothesis, IsInstance, expr_at, premises}
pub use Rattle.frame.specs.Disjoint.{are_groups_disjoint}
pub use Rattle.frame.specs.FrameOf.{hypotheses, is_pair, mandatory_groups, together}
pub use Rattle.frame.specs.Parts.{Numbered}
pub use Rattle.frame.specs.Substitution.{Images, image}
pub use Rattle.mm_lex.specs.Alphabet.{Name, has_byte, has_name, is_label}
pub use Rattle.mm_read.specs.Statements.{Database, Expr}
pub use Rattle.mm_read.specs.declared.stmt.Stmt.{Stmt}
pub use Rattle.names.specs.Codes.{decode, name_at}
pub use Rattle.proof_code.specs.Letters.{IsNumber, is_leading, is_last, number_after}
pub use Rattle.proof_code.specs.Reading.{before_rest}
pub use Rattle.proof_code.specs.Text.{numbers_from, starts_with_mark}
pub use Rattle.proof_code.specs.Writes.{Writes, WritesRow, left_parenthesis, right_parenthesis, is_compressed, is_unfinished, question_mark}
pub use Rattle.proof_code.specs.declared.item.Item.{Item}
pub use Rattle.proof_code.specs.declared.item.Item.TheVariants.{Cite, Mark, Recall}
pub use Rattle.scope.specs.Active.{before, expr_of, is_assertion, is_variable, stmt_at}
pub use Rattle.std.specs.List.{list_all, list_any}
pub use Rattle.subst.specs.declared.buffer.TheConstants.{SYMBOLS_LIMIT}
pub use Rattle.verify.specs.Machine.{IsSaved, Runs, State, start}
pub use Rattle.verify.specs.Proves.{mandatory_labels}
pub use Rattle.verify.specs.ResultPlaces.{HeldResults}
pub use Rattle.verify.specs.Right.{IsProvable}
pub use Rattle.verify.specs.RunsItemByNumber.{named}
