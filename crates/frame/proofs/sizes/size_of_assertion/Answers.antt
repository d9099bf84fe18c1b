use Rattle.frame.proofs.Words.{◌∙◌, ◌-◌, ◌+◌, ap, arith, get_or, length, take, take_all, entry_from_ref, names_in, labels_in, statements_of}
use Rattle.std.specs.List.{sum_by}
use Rattle.std.proofs.lemmas.List.Sums.{sum_by_more}
use Rattle.frame.specs.Stored.EntrySizes.{entry_size, listed_size}
use Rattle.frame.proofs.DeclaredSymbolLemmas.{stored-distinct}
use Rattle.frame.proofs.MakeLemmas.{hypothesis-at}
use Rattle.frame.proofs.StoredOneMore.{numbered-at}
use Rattle.frame.proofs.StoredReading.{two-of}
use Rattle.frame.proofs.sizes.size_of_assertion.Goals as goal

pub invariant_of-pairs : goal.invariant_of-pairs
invariant_of-pairs c = (c.requires.stored, stored-distinct c.args.storage.now c.requires.stored, c.requires.place.0, c.requires.place.1)

pub overflow_sub-position : goal.overflow_sub-position
overflow_sub-position c = (hypothesis-at c.args.storage.now.entries c.args.hypotheses.now c.loop-position.position-index c.requires.hypotheses (omega arith)).0

pub entry-entry-requires : goal.entry-entry-requires
entry-entry-requires c =
    let h = hypothesis-at c.args.storage.now.entries c.args.hypotheses.now c.loop-position.position-index c.requires.hypotheses (omega arith) in
    omega (arith, h.0, h.1)

pub size_of_hypothesis-requires-clause-symbols : goal.size_of_hypothesis-requires-clause-symbols
size_of_hypothesis-requires-clause-symbols c =
    let k = c.args.storage.now in
    let p = get_or c.args.hypotheses.now c.loop-position.position-index 0 in
    two-of (length (names_in k)) (length (labels_in k)) k.entries c.requires.stored.kept.coded (p - 1) (entry_from_ref c.entry-entry.result c.entry-entry.ensures.0) c.entry-entry.ensures.1

pub size_of_hypothesis-requires-clause-below : goal.size_of_hypothesis-requires-clause-below
size_of_hypothesis-requires-clause-below c =
    let k = c.args.storage.now in
    let p = get_or c.args.hypotheses.now c.loop-position.position-index 0 in
    numbered-at (length (names_in k)) (length (labels_in k)) k.entries c.requires.stored.kept.coded (p - 1) (entry_from_ref c.entry-entry.result c.entry-entry.ensures.0) c.entry-entry.ensures.1

pub loop-position-preserved : goal.loop-position-preserved
loop-position-preserved c =
    let k = c.args.storage.now in
    let T = take (c.args.at - 1) (statements_of k) in
    let i = c.loop-position.position-index in
    let more = sum_by_more (listed_size k T) c.args.hypotheses.now i 0 (omega arith) in
    let here = ap (entry_size (record { statements = T; names = names_in k })) c.entry-entry.ensures.1 in
    let own = c.in_ok-size_of_hypothesis.ensures in
    let added = c.in_ok-size-2.ensures in
    let so_far = c.loop-position.invariant in
    omega (arith, more, here, own, added, so_far)

pub returns : goal.returns
returns c =
    let k = c.args.storage.now in
    c.loop-position.invariant
    ∙ ap (λ hs. length c.args.hypotheses.now + length c.args.codes.now + sum_by (listed_size k (take (c.args.at - 1) (statements_of k))) hs)
    (take_all c.loop-position.position-index c.args.hypotheses.now (omega arith))
