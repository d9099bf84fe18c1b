-- The names that the proofs of this crate use, exported again from one place.
pub use Rattle.mm_lex.proofs.BadByteLemmas.{HasOnlyAllowedBytes-no_fault, HasOnlyAllowedBytes-none, IsFirstBadByte-found, IsFirstBadByte-unique}
pub use Rattle.mm_lex.proofs.BetweenLemmas.{after_as, after_on, after_rest, after_unique, between_as, between_none, between_on, splits_join, stops_after}
pub use Rattle.mm_lex.proofs.ScanRuns.{Outcome, inside, outside, prepend, scan, scan-split}
pub use Rattle.mm_lex.proofs.ScanResults.{split-scan, splits_as}
pub use Rattle.mm_lex.proofs.TokenCountLemmas.{after_few, between_few}
pub use Rattle.mm_lex.proofs.PlainLemmas.{append_step}
pub use Rattle.mm_lex.proofs.TokensLemmas.{AreTokens-no_comment_fault, AreTokens-unique, IsCommentFault-unique}
pub use Rattle.mm_lex.proofs.VisibleRunLemmas.{white_run}
pub use Rattle.mm_lex.proofs.WordsLemmas.{spaced-words_of, word-visible, words_of-one, words_of-spaced}
pub use Rattle.mm_lex.specs.Alphabet.{Name, has_byte, has_name, is_allowed, is_empty, is_label, is_label_byte, is_symbol, is_visible, is_white, name_eq, runs, runs_from, is_empty_or_starts_white, with_byte, word}
pub use Rattle.mm_lex.specs.Between.{AreTokensAfter, IsTokenCountAfter, AreTokensBetween, IsNextToken, IsTokenAfter, IsCommentFaultAfter}
pub use Rattle.mm_lex.specs.SymbolList.{EndsSymbols, IsListAndEnd}
pub use Rattle.mm_lex.specs.TextFaults.{IsCommentFault, IsFirstBadByte}
pub use Rattle.mm_lex.specs.Tokens.{SplitsInto, HasOnlyAllowedBytes, closer, is_plain, opener, words}
pub use Rattle.mm_lex.specs.Words.{is_word, spaced, words_of}
pub use Rattle.mm_lex.specs.declared.fault.LexFault.{LexFault}
pub use Rattle.mm_lex.specs.declared.span.Span.{Span}
pub use Rattle.mm_read.specs.Export.{export_of, line_of, with_proof}
pub use Rattle.mm_read.specs.StatementParts.{BreaksList, IsKeyword, IsListFault, HasBrokenList, IsTokenFault, StartsOtherwise, BeginsBrokenList}
pub use Rattle.mm_read.specs.Laws.{joins_no_words}
pub use Rattle.mm_read.specs.Next.{ReadsUpTo, IsFaultAfter, IsFaultOf, IsNext, IsNextStep, IsOneMore}
pub use Rattle.mm_read.specs.Reads.{IsStatementsPrefix, HasShapeFault, HasTokens, IsReadFault, IsShapeFault, Reads, read_fault}
pub use Rattle.mm_read.specs.Statements.{AreShaped, Database, are_symbols, has_two, is_shaped, tokens_of, stmt_tokens}
pub use Rattle.mm_read.specs.declared.fault.ReadFault.{ReadFault}
pub use Rattle.mm_read.specs.declared.fault.ReadFault.TheVariants.{Memory, Shape, Text}
pub use Rattle.mm_read.specs.declared.keyword.Keyword.{Keyword}
pub use Rattle.mm_read.specs.declared.keyword.Keyword.TheVariants.{Other}
pub use Rattle.mm_read.specs.declared.stmt.Stmt.{Stmt}
pub use Rattle.mm_read.specs.declared.stmt.Stmt.TheVariants.{Axiom, Close, Const, Disj, Ess, Float, Open, Prove, Var}
pub use Rattle.std.proofs.Common.{OnOk, ap, append-nil, append_assoc, arith, inl, inr, length-append, ltb-false, ltb-true, nat_lt, refl, subst, sym, true≢false, ◌∙◌}
pub use Rattle.std.proofs.Math.Seq.{drop-append_seam, take-append-add, take-append_seam}
pub use Rattle.std.proofs.lemmas.Bool.{and_from, and_parts, leb-false, not-true, or_parts}
pub use Rattle.std.proofs.lemmas.Bool.Decides.{nat_tests}
pub use Rattle.std.proofs.lemmas.Grind.{flat_map-append}
pub use Rattle.std.proofs.lemmas.List.{drop-drop, map-append, take_all}
pub use Rattle.std.proofs.lemmas.List.Folds.{list_all-append, list_all-map}
pub use Rattle.std.proofs.lemmas.Option.{option_and_then_some, same_Some, some_pair_parts}
pub use Rattle.std.proofs.lemmas.Result.{err_from_is_err_and}
pub use Rattle.std.proofs.lemmas.Slice.Eq.{bytes_eq-Decides}
pub use Rattle.std.specs.List.{list_all}
pub use Rattle.std.specs.Option.{option_and_then}
pub use Rattle.std.specs.Prelude.{Bool, Err, IfErr, IfOk, IsErrAnd, List, MatchResult, None, Ok, Option, Result, Some, [], codes, cond, drop, false, if◌then◌else◌, length, map, not, suc, take, true, zero, ℕ, ◌&&◌, ◌++◌, ◌+◌, ◌-◌, ◌<◌, ◌==◌, ◌||◌, ◌∷◌, ◌≡◌, ◌≤◌, ◌⊎◌}
