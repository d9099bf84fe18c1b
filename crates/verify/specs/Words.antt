-- Re-exports of the definitions of lower layers that the specs of this crate cite.
pub use Rattle.entries.specs.declared.assertion_view.AssertionView.{AssertionView}
pub use Rattle.entries.specs.declared.assertion_view.Hypothesis.{Hypothesis}
pub use Rattle.entries.specs.declared.assertion_view.Hypothesis.TheVariants.{Essential, Float}
pub use Rattle.frame.specs.AssertionView.{IsViewOf, typecode_of}
pub use Rattle.frame.specs.AtPosition.{HasLegalProperties, HasSingleResults}
pub use Rattle.frame.specs.Below.{AllBelow}
pub use Rattle.frame.specs.Citations.{Carries, IsHypothesis, IsInstance, expr_at, premises}
pub use Rattle.frame.specs.Disjoint.{are_groups_disjoint}
pub use Rattle.frame.specs.FrameOf.{HasAssertion, hypotheses, mandatory_groups}
pub use Rattle.frame.specs.Parts.{Numbered}
pub use Rattle.frame.specs.Substitution.{CodeImages, Images, apply as applied, code_image, images_of_names}
pub use Rattle.mm_lex.specs.Alphabet.{Name}
pub use Rattle.mm_read.specs.Statements.{Database, Expr}
pub use Rattle.mm_read.specs.declared.stmt.Stmt.{Stmt}
pub use Rattle.names.specs.Codes.{decode}
pub use Rattle.proof_code.specs.Writes.{Writes}
pub use Rattle.proof_code.specs.declared.item.Item.{Item}
pub use Rattle.proof_code.specs.declared.item.Item.TheVariants.{Cite, Mark, Recall}
pub use Rattle.scope.specs.Active.{before, expr_of, is_assertion, is_provable, label_of, stmt_at}
pub use Rattle.scope.specs.Legal.{IsLegal}
pub use Rattle.std.specs.List.{list_any}
pub use Rattle.std.specs.Map.{lookup}
pub use Rattle.subst.specs.SymbolRanges.{AreInside, AreWithin, images_at, symbols_in}
pub use Rattle.subst.specs.declared.symbol_range.SymbolRange.{SymbolRange}
