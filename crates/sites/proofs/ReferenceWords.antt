-- Re-exports of the definitions and lemmas with which this crate is proved.
pub use Rattle.sites.specs.PassState.{AreListsOfFirst, IsRoundTable, AreWithin, AddsAxiom, AreExtendedAt, position_list, lists_of}
pub use Rattle.sites.specs.References.{AreListsOf, AreReferences, ArePositionsWhere}
pub use Rattle.frame.specs.Ascending.{AreAbove, Ascends}
pub use Rattle.frame.proofs.AscendingLists.{in-place, place-in}
pub use Rattle.frame.proofs.CollectLemmas.{last-in, last-out, ordered, those-by}
pub use Rattle.frame.proofs.FoundByNumber.{map-back}
pub use Rattle.frame.proofs.LegalLabels.{legal-labels}
pub use Rattle.frame.specs.AtPosition.{ArePositions, HasLabelsOnce, IsPosition}
pub use Rattle.frame.specs.Citations.{Carries}
pub use Rattle.frame.specs.Stored.Hypotheses.{ListsExactly, HasMore, In, HoldsForSome}
pub use Rattle.library.proofs.CitationWalkLemmas.{cited-of, cites-below, cites-of}
pub use Rattle.library.proofs.FrontLemmas.{stands_index}
pub use Rattle.library.proofs.JoinedRulesLemmas.{legal-each}
pub use Rattle.library.proofs.ProvingLemmas.{not-there}
pub use Rattle.library.proofs.UseMarkLemmas.{position-is}
pub use Rattle.library.specs.Good.{Good}
pub use Rattle.library.specs.Queries.{IsProofOf}
pub use Rattle.library.specs.UseMarks.{cited_position}
pub use Rattle.library.specs.Uses.{Cites, HasItems, IsAxiomAt, IsIn, IsUser, ItemsCite, RestsOn, Rises, Uses, directly, is_axiom, through}
pub use Rattle.mm_lex.specs.Alphabet.{Name}
pub use Rattle.mm_read.proofs.NextLemmas.{on_ok}
pub use Rattle.mm_read.specs.Statements.{Database}
pub use Rattle.mm_read.specs.declared.stmt.Stmt.{Stmt}
pub use Rattle.mm_read.specs.declared.stmt.Stmt.TheVariants.{Prove}
pub use Rattle.proof_code.proofs.RowOfNumbers.{item-cite, item-recall}
pub use Rattle.proof_code.specs.ItemNumbers.{item_of, items_of}
pub use Rattle.proof_code.specs.declared.item.Item.{Item}
pub use Rattle.proof_code.specs.declared.item.Item.TheVariants.{Cite, Recall}
pub use Rattle.scope.proofs.StatementPlaces.{stands-within}
pub use Rattle.scope.specs.Active.{bares, is_provable, label_of, stmt_at}
pub use Rattle.std.proofs.Common.{ap, append-nil, append_assoc, arith, inl, inr, length-append, refl, subst, sym, take_all, ◌∙◌}
pub use Rattle.std.proofs.lemmas.Bool.{cases_eq, cases_lt}
pub use Rattle.std.proofs.lemmas.List.{drop_all, get_or-map, get_or-set_other, get_or-set_same, get_or_append_left, get_or_past, length-map, length-replicate, length-set, map-append, map-set, take_more}
pub use Rattle.std.proofs.lemmas.List.Elements.{filter_map-append}
pub use Rattle.std.proofs.lemmas.List.Filters.{dedup_is}
pub use Rattle.std.proofs.lemmas.Option.{slice_get-get_or, slice_get-map, slice_get_read}
pub use Rattle.std.specs.Global.{Vec}
pub use Rattle.std.specs.List.{cons_option}
pub use Rattle.std.specs.Prelude.{Bool, Err, IsTrue, List, None, Ok, OnOk, Option, Result, Some, [], drop, eqb, false, filter_map, get_or, length, map, option_map, replicate, slice_get, slice_set, suc, take, true, zero, ℕ, ◌++◌, ◌+◌, ◌-◌, ◌<◌, ◌↔◌, ◌∷◌, ◌≡◌, ◌≢◌, ◌≤◌, ◌⊎◌}
