-- The names that the proofs of this crate use, exported again from one place.
pub use Rattle.mm_lex.proofs.NameLemmas.{name_same, same_name}
pub use Rattle.mm_lex.specs.Alphabet.{Name, has_name, name_eq}
pub use Rattle.mm_read.specs.Statements.{Database, Expr}
pub use Rattle.mm_read.specs.declared.stmt.Stmt.{Stmt}
pub use Rattle.mm_read.specs.declared.stmt.Stmt.TheVariants.{Axiom, Close, Const, Disj, Ess, Float, Open, Prove, Var}
pub use Rattle.names.proofs.AddedNames.{has_name-append}
pub use Rattle.names.proofs.CodesLemmas.{code-name, first-named, has-at, name_eq-comm, rest-named, unknown-number}
pub use Rattle.names.specs.Codes.{AreDistinct, HaveCodes, code_of, name_at}
pub use Rattle.rule_violation.specs.Marks.{is_fault_if_absent, marked}
pub use Rattle.rule_violation.specs.Search.{IsActiveAt, IsLastActiveAt, PassesAt, closed_blocks, closed_blocks_from, has_fault, has_name_in}
pub use Rattle.rule_violation.specs.Violations.{HoldsAt, IsConstantViolation, IsFirstNotConstant, IsLabelConflict, IsRepeated, IsSymbolViolation, IsTwice, IsViolation, IsViolationIfBroken, float_expr, typed_expr}
pub use Rattle.rule_violation.specs.declared.symbol_search.SymbolFault.{SymbolFault}
pub use Rattle.rule_violation.specs.declared.violation.RuleViolation.{RuleViolation}
pub use Rattle.rule_violation.specs.declared.violation.RuleViolation.TheVariants.{LabelConflict, Statement, Symbol, SymbolConflict, Twice}
pub use Rattle.scope.proofs.SortsLemmas.{or_swap}
pub use Rattle.scope.specs.Active.{active, active_from, constants, count, disjoint_names, expr_of, has_float, has_label, is_close, is_closed, is_constant, is_float_of, is_open, is_variable, label_of, stays_open, stmt_at, variables, was_label, was_symbol}
pub use Rattle.scope.specs.Legal.{all_different, are_typed, is_fresh_label, keeps, starts_with_constant}
pub use Rattle.scope.specs.declared.rule.Rule.{Rule}
pub use Rattle.scope.specs.declared.rule.Rule.TheVariants.{G1, G10, G2, G3, G4, G5, G6, G7, G8, G9, Memory}
pub use Rattle.std.proofs.Common.{Bool, IsSomeAnd, IsTrue, List, MatchOption, None, Option, Some, [], add-one, ap, append-nil, arith, cond, drop, false, get_or, inl, inr, length, map, not, refl, replicate, rules, slice_get, slice_set, subst, suc, sym, true, true≢false, zero, ℕ, ◌&&◌, ◌⊎◌, ◌++◌, ◌+◌, ◌-◌, ◌<◌, ◌==◌, ◌||◌, ◌∙◌, ◌∷◌, ◌≡◌, ◌≤◌}
pub use Rattle.std.proofs.Math.Bool.{not-not, or-false, or-true, or_assoc, or_comm}
pub use Rattle.std.proofs.Math.Seq.{drop-cons}
pub use Rattle.std.proofs.lemmas.Bool.{and_from, and_parts, cases_lt, false_from_ne_true, not-true, or_parts, or_right}
pub use Rattle.std.proofs.lemmas.Map.Keys.{any_passes_from_place}
pub use Rattle.std.proofs.lemmas.Option.{slice_get_read}
pub use Rattle.std.proofs.lemmas.Result.{IfOk-weaker}
pub use Rattle.std.specs.List.{list_all, list_any}
pub use Rattle.std.specs.Prelude.{IfOk, Result, is_some, nat_le, slice_index_or}
