use Rattle.frame.proofs.Words.{◌-◌, arith, get_or, length, entry_from_ref, names_in, labels_in}
use Rattle.frame.proofs.StoredReading.{two-of}
use Rattle.frame.proofs.MakeLemmas.{hypothesis-at}
use Rattle.frame.proofs.assertion_parts.encode_hypotheses.Goals as goal

pub overflow_sub-position : goal.overflow_sub-position
overflow_sub-position c = (hypothesis-at c.args.storage.now.entries c.args.hypotheses.now c.loop-position.position-index c.requires.hypotheses (omega arith)).0

pub entry-entry-requires : goal.entry-entry-requires
entry-entry-requires c =
    let h = hypothesis-at c.args.storage.now.entries c.args.hypotheses.now c.loop-position.position-index c.requires.hypotheses (omega arith) in
    omega (arith, h.0, h.1)

pub hypothesis-requires : goal.hypothesis-requires
hypothesis-requires c =
    let k = c.args.storage.now in
    let i = c.loop-position.position-index in
    let p = get_or c.args.hypotheses.now i 0 in
    two-of (length (names_in k)) (length (labels_in k)) k.entries c.requires.stored.kept.coded (p - 1) (entry_from_ref c.entry-entry.result c.entry-entry.ensures.0) c.entry-entry.ensures.1
