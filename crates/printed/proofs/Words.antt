-- Re-exports of the definitions and lemmas with which this crate is proved.
pub use Rattle.library.proofs.AddingLemmas.{left-at, left-more, none-at-end, rule-at-end, rule-is}
pub use Rattle.mm_lex.specs.Alphabet.{Name, is_visible}
pub use Rattle.mm_lex.specs.Words.{is_word}
pub use Rattle.mm_read.specs.Export.{export_of}
pub use Rattle.mm_read.specs.Statements.{Database}
pub use Rattle.mm_read.specs.declared.stmt.Stmt.TheVariants.{Open, Prove}
pub use Rattle.printed.specs.Counted.{spaced_value_text}
pub use Rattle.printed.specs.Outline.{outline_lines, numbered_line, outline_line, outline_of, rules_line}
pub use Rattle.printed.specs.Printed.{assertion_line, spaced_entry_text, report_text}
pub use Rattle.printed.specs.Trees.{label_line, tree_node_line, tree_lines, trees_lines}
pub use Rattle.scope.specs.Legal.{broken_rule, first_broken, numbered, or_later}
pub use Rattle.scope.specs.contracts.rule.Rule.{the_type}
pub use Rattle.scope.specs.declared.rule.Rule.TheVariants.{G10, Memory}
pub use Rattle.std.proofs.Common.{ap, append-nil, append_assoc, arith, drop, inl, inr, leb, map, sym, take, ◌++◌, ◌∙◌, ◌≡◌}
pub use Rattle.std.proofs.lemmas.Bool.{le-leb}
pub use Rattle.std.proofs.lemmas.Fmt.{decimal_by_steps, decimal_digit}
pub use Rattle.std.proofs.lemmas.List.{drop_all}
pub use Rattle.std.proofs.lemmas.List.Folds.{list_all-append}
pub use Rattle.std.proofs.lemmas.Result.{IfOk-weaker}
pub use Rattle.std.specs.Prelude.{List, None, Some, Vec, [], codes, decimal, flat_map, length, refl, true, ℕ, ◌%◌, ◌+◌, ◌<◌, ◌^◌, ◌∷◌}
pub use Rattle.std.specs.declared.alloc.Global.{Global}
pub use Rattle.verify.proofs.TreeLemmas.{derivation-apply}
pub use Rattle.verify.specs.Derivations.{derivation_of, from_list}
pub use Rattle.verify.specs.declared.tree.Tree.{Tree}
pub use Rattle.verify.specs.declared.tree.Tree.TheVariants.{Apply}
pub use denote.Enum.Bare.{sameb}
