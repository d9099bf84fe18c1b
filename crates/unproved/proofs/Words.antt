-- Re-exports of the definitions and lemmas with which this crate is proved.
pub use Rattle.frame.specs.Citations.{Carries, IsHypothesis, IsInstance, expr_at, is_hypothesis_kind, option_expr, premises}
pub use Rattle.frame.specs.Disjoint.{are_groups_disjoint}
pub use Rattle.frame.specs.FrameOf.{active_disjoint_lists, hypotheses, is_hypothesis, is_mandatory, is_pair, is_used, mandatory_groups, has_two_or_more, together}
pub use Rattle.frame.specs.Substitution.{Images, image}
pub use Rattle.library.proofs.AddingLemmas.{left-at, left-more, none-at-end, rule-at-end, rule-is, taken-more}
pub use Rattle.library.proofs.CitedByLemmas.{not-provable}
pub use Rattle.library.proofs.FrontLemmas.{stands_index}
pub use Rattle.library.proofs.ProvingLemmas.{judged-stands, not-there}
pub use Rattle.library.proofs.Words.{map-append, stands-within}
pub use Rattle.library.specs.Good.{Good, IsProved}
pub use Rattle.library.specs.Judging.{IsProvedIfProvable}
pub use Rattle.library.specs.Words.{AllLegal, AreShaped, Database, IsProvable, Stmt, Writes, bares, is_provable, mandatory_labels, proof_of}
pub use Rattle.mm_lex.specs.Alphabet.{Name, has_name, name_eq}
pub use Rattle.mm_read.specs.Statements.{Expr, is_shaped}
pub use Rattle.mm_read.specs.declared.stmt.Stmt.TheVariants.{Axiom, Close, Const, Disj, Ess, Float, Open, Prove, Var}
pub use Rattle.proof_code.specs.declared.item.Item.{Item}
pub use Rattle.scope.specs.Active.{active, active_from, bare, before, constants, count, expr_of, has_float, has_label, is_active, is_assertion, is_close, is_constant, is_essential, is_float_of, is_open, is_variable, label_of, disjoint_names, stays_open, stmt_at, variables, was_label, was_symbol}
pub use Rattle.scope.specs.Legal.{all_different, broken_rule, end_rule, first_broken, numbered, or_later}
pub use Rattle.scope.specs.contracts.rule.Rule.{the_type}
pub use Rattle.scope.specs.declared.rule.Rule.TheVariants.{G1, G10, G2, G3, G4, G5, G6, G7, G8, G9, Memory}
pub use Rattle.std.proofs.Common.{IfOk, Option, ap, arith, drop, get_or, inl, inr, length, rules, slice_set, subst, sym, take, take_all, ◌+◌, ◌-◌, ◌<◌, ◌∙◌, ◌≡◌, ◌≤◌}
pub use Rattle.std.proofs.lemmas.Bool.{and_parts, cases_lt}
pub use Rattle.std.proofs.lemmas.List.{drop_all, drop_more, get_or_default, length-set}
pub use Rattle.std.proofs.lemmas.List.Elements.{All-cons, All-nil}
pub use Rattle.std.proofs.lemmas.Option.{slice_get-map}
pub use Rattle.std.specs.List.{All, drop-map, list_all, list_any, take-map}
pub use Rattle.std.specs.Prelude.{Bool, Err, IsTrue, List, None, Ok, Result, Some, Vec, [], cond, false, filter, map, nat_le, nat_lt, not, option_map, refl, slice_get, suc, true, unwrap_or, zero, ℕ, ◌&&◌, ◌++◌, ◌==◌, ◌||◌, ◌∷◌}
pub use Rattle.std.specs.declared.alloc.Global.{Global}
pub use Rattle.unproved.specs.StatementRanges.{IsFirstUnprovedIn}
pub use Rattle.unproved.specs.Unproved.{AreUnproved, IsPositionOf, as_axiom, assumed}
pub use Rattle.verify.proofs.RightLemmas.{provable-bare}
pub use Rattle.verify.proofs.Words.{some-same}
pub use Rattle.verify.specs.Concludes.{ConcludeAll, Concludes}
pub use Rattle.verify.specs.Derivations.{Derivation, Derivations, apply, hyp, more}
pub use Rattle.verify.specs.Proves.{label_or_empty}
pub use Rattle.verify.specs.Right.{IsRight, IsAnswerTo}
pub use Rattle.verify.specs.Spells.{Spells, SpellsAll, cites_assertion, cites_hypothesis, marks, recalls, spells_more, spells_none}
pub use denote.Enum.Bare.{sameb}
