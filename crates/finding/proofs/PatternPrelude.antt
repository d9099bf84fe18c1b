-- The names that the proofs of this crate use, exported again from one place.
pub use Rattle.mm_lex.proofs.NameLemmas.{name_same, same_name}
pub use Rattle.mm_lex.specs.Alphabet.{Name, name_eq, word}
pub use Rattle.finding.specs.DescriptionWords.{HasWord, HasWords}
pub use Rattle.finding.specs.Matches.{Matches, MatchesExactly, any_symbol, any_sequence, part_of, symbol}
pub use Rattle.finding.specs.Parsing.{is_symbol_word, is_unknown_word}
pub use Rattle.finding.specs.Segments.{IsFirstMatch, matches_prefix, is_any_sequence, matches_symbol, part_view, segment_len}
pub use Rattle.finding.specs.PatternWords.{words_after, words_in}
pub use Rattle.finding.specs.declared.part.Part.{Part}
pub use Rattle.finding.specs.declared.part.Part.TheVariants.{AnySequence, AnySymbol, Symbol}
pub use Rattle.std.proofs.Common.{Bool, IsTrue, List, None, Option, Some, [], ap, append_assoc, arith, below_more, codes, drop, false, get_or, length, length-append, ltb, map, refl, subst, suc, sym, take, true, ℕ, ◌&&◌, ◌++◌, ◌+◌, ◌-◌, ◌<◌, ◌↔◌, ◌∙◌, ◌∷◌, ◌≡◌, ◌≤◌}
pub use Rattle.std.proofs.Math.ListN.{drop_of_length-le}
pub use Rattle.std.proofs.Math.Seq.{drop-append_seam, drop-cons, take-append_seam}
pub use Rattle.std.proofs.lemmas.Bool.{and_from, and_parts, both_ways, eqb-false, eqb-true, ltb-false, ltb-true}
pub use Rattle.std.proofs.lemmas.List.{append-nil, drop-drop, drop-map, get_or-map, length-drop, length-map, length-take, length-take-le, map-append, take-append-drop}
pub use Rattle.std.specs.Char.{to_ascii_lowercase}
pub use Rattle.std.specs.List.{AllByRecursion, find, list_any}
pub use Rattle.std.specs.Str.{str_to_ascii_lowercase}
