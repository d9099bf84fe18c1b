-- The names that the proofs of this crate use, exported again from one place.
pub use Rattle.memchr.proofs.lemmas.CallerLemmas.{length-places}
pub use Rattle.memchr.specs.Find.{is_byte}
pub use Rattle.mm_lex.proofs.NameLemmas.{name_same}
pub use Rattle.mm_lex.proofs.ScanRuns.{inside, outside, scan, scan-split, scan-stops}
pub use Rattle.mm_lex.proofs.TokensLemmas.{AreTokens-unique}
pub use Rattle.mm_lex.specs.Alphabet.{Name, has_byte, is_label, is_symbol, is_white, name_eq, runs, runs_from, is_empty_or_starts_white, with_byte, word}
pub use Rattle.mm_lex.specs.Comments.{runs_after}
pub use Rattle.mm_lex.specs.TextFaults.{IsCommentFault, IsCommentFaultOfRuns, IsNestedOpener, IsStrayCloser, IsUnclosed}
pub use Rattle.mm_lex.specs.Tokens.{AllPlain, AreCommentsAndTokens, AreTokens, SplitsInto, IsCommentAndTokens, CommentAndTokens, closer, is_plain, opener, all_spans, words}
pub use Rattle.mm_lex.specs.declared.fault.LexFault.{LexFault}
pub use Rattle.mm_lex.specs.declared.fault.LexFault.TheVariants.{Comment}
pub use Rattle.mm_lex.specs.declared.span.Span.{Span}
pub use Rattle.mm_read.proofs.StatementsLemmas.{label_plain, plain_is_no_key, symbol_plain, symbols_of}
pub use Rattle.mm_read.specs.Reads.{Reads}
pub use Rattle.mm_read.specs.Statements.{AreShaped, Database, are_symbols, has_two, is_shaped, tokens_of, stmt_tokens}
pub use Rattle.mm_read.specs.declared.stmt.Stmt.{Stmt}
pub use Rattle.mm_read.specs.declared.stmt.Stmt.TheVariants.{Axiom, Close, Const, Disj, Ess, Float, Open, Prove, Var}
pub use Rattle.places.specs.CommentFaults.{BeginsStatement, IsNestedIn}
pub use Rattle.places.specs.Descriptions.{AreDescriptions, statement_comments, comments_before, comments_in, comments_of, contents, first_of}
pub use Rattle.places.specs.Lines.{line_feed}
pub use Rattle.places.specs.TokenSpans.{HasToken, IsTokenSpan, counted_token, index_after_ends, ends_statement, token_index}
pub use Rattle.places.specs.Walk.{CanSkip, SkipsRuns, state_after_run, at_start, description_of_begun_statement, walk_over}
pub use Rattle.places.specs.declared.description.WalkState.{WalkState}
pub use Rattle.places.specs.declared.description.WalkState.TheVariants.{Inside, Outside}
pub use Rattle.std.proofs.Common.{Bool, Err, IsFalse, IsSomeAnd, IsTrue, List, None, Ok, Option, Some, [], ap, append_assoc, arith, below_more, codes, cond, drop, eqb, false, flat_map, get_or, inl, inr, length, length-append, length-take, not, refl, rules, slice_get, slice_index, subst, suc, sym, take, true, zero, zero-add, ℕ, ◌&&◌, ◌++◌, ◌+◌, ◌-◌, ◌<◌, ◌==◌, ◌||◌, ◌∙◌, ◌∷◌, ◌≡◌, ◌≤◌}
pub use Rattle.std.proofs.Math.Seq.{drop-cons}
pub use Rattle.std.proofs.lemmas.Bool.{and_from, and_parts, both_ways, cases_lt}
pub use Rattle.std.proofs.lemmas.List.{append-nil, drop-drop, get_or-drop, get_or-map, get_or-take, length-drop, length-map, map-append, take-append-drop, take-take}
pub use Rattle.std.proofs.lemmas.List.Folds.{list_all-append}
pub use Rattle.std.proofs.lemmas.Option.{slice_get-get_or, slice_get_within}
pub use Rattle.std.specs.List.{count_by, list_all}
pub use Rattle.std.specs.Prelude.{IsErrAnd, Result}
