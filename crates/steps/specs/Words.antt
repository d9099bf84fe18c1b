-- The definitions of other crates that this crate's specifications use, re-exported.
pub use Rattle.entries.specs.declared.assertion_view.Hypothesis.{Hypothesis}
pub use Rattle.entries.specs.declared.assertion_view.Hypothesis.TheVariants.{Essential, Float}
pub use Rattle.frame.specs.Below.{AreBelow}
pub use Rattle.frame.specs.Citations.{Carries, IsHypothesis, IsInstance, premises}
pub use Rattle.frame.specs.FrameOf.{hypotheses}
pub use Rattle.mm_lex.specs.Alphabet.{Name}
pub use Rattle.mm_read.specs.Statements.{Database, Expr}
pub use Rattle.mm_read.specs.declared.stmt.Stmt.{Stmt}
pub use Rattle.names.specs.Codes.{decode}
pub use Rattle.proof_code.specs.declared.item.Item.{Item}
pub use Rattle.proof_code.specs.declared.item.Item.TheVariants.{Cite, Mark, Recall}
pub use Rattle.scope.specs.Active.{before, expr_of, is_assertion, is_essential, stmt_at}
pub use Rattle.std.specs.BTreeMap.{BTreeMap, get_by}
pub use Rattle.std.specs.Cmp.Lexicographic.{slice_cmp}
pub use Rattle.std.specs.List.Sorted.{IsStrictlyIncreasing}
pub use Rattle.std.specs.Ordering.{nat_cmp}
pub use Rattle.std.specs.declared.alloc.Global.{Global}
pub use Rattle.std.specs.declared.vec.Vec.{Vec}
pub use Rattle.subst.specs.SymbolRanges.{symbols_in}
pub use Rattle.subst.specs.declared.symbol_range.SymbolRange.{SymbolRange}
pub use Rattle.verify.specs.Derivations.{Derivation, apply, from_list, hyp}
pub use Rattle.verify.specs.Machine.{State}
pub use Rattle.verify.specs.Plan.{pick}
pub use Rattle.verify.specs.RunsItemByNumber.{named}
pub use Rattle.verify.specs.Spells.{IsCitable}
pub use Rattle.verify.specs.Walk.{Walk}
