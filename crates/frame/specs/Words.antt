-- The definitions of the layers below that this crate's definitions use, re-exported from one
-- place.
pub use Rattle.entries.specs.Entries.{Assertion, Entry}
pub use Rattle.entries.specs.Mentions.{AreMentions, AreUntil, IsUntil, kept_until, mentions_of, positions_of}
pub use Rattle.entries.specs.Stored.Spans.{Extends}
pub use Rattle.entries.specs.declared.assertion_view.AssertionView.{AssertionView}
pub use Rattle.entries.specs.declared.assertion_view.Hypothesis.{Hypothesis}
pub use Rattle.entries.specs.declared.assertion_view.Hypothesis.TheVariants.{Essential}
pub use Rattle.entries.specs.declared.assertion_view.TheConstants.{NO_TYPECODE}
pub use Rattle.entries.specs.declared.entry_header.EntryHeader.{EntryHeader}
pub use Rattle.entries.specs.declared.kind.Kind.{Kind}
pub use Rattle.entries.specs.declared.kind.Kind.TheVariants.{Axiom, Close, Const, Disj, Ess, Float, Open, Prove, Var}
pub use Rattle.entries.specs.declared.last_active.LastActive.{LastActive}
pub use Rattle.entries.specs.declared.mentions.Mention.{Mention}
pub use Rattle.mm_lex.specs.Alphabet.{Name, has_name, name_eq}
pub use Rattle.mm_read.specs.Statements.{Database, Expr}
pub use Rattle.mm_read.specs.declared.stmt.Stmt.{Stmt}
pub use Rattle.names.specs.Codes.{AreDistinct, decode, name_at}
pub use Rattle.scope.specs.Active.{active, active_from, before, expr_of, is_active, is_assertion, is_close, is_essential, is_open, is_variable, label_of, disjoint_names, stays_open, stmt_at}
pub use Rattle.scope.specs.Declares.{declared_with}
pub use Rattle.scope.specs.Kinds.{Declared, declared_labels, declared_symbols, is_some_constant, is_some_variable}
pub use Rattle.scope.specs.Legal.{IsLegal}
pub use Rattle.scope.specs.Symbols.{AreVariableNumbers, labels_of, symbols_after, symbols_of}
pub use Rattle.scope.specs.declared.numbering.NameKind.{NameKind}
pub use Rattle.scope.specs.declared.frame_statements.FrameStatement.{FrameStatement}
pub use Rattle.std.specs.List.{list_all, list_any}
