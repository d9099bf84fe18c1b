use Rattle.sites.proofs.ReferenceWords.{length, arith, refl, length-map, lists_of}
use Rattle.sites.proofs.ListLemmas.{in-at}
use Rattle.sites.proofs.PassLemmas.{citing-pushed, lists-count}
use Rattle.sites.proofs.references.append_citing_position_to_all.Goals as goal

pub append_citing_position-requires : goal.append_citing_position-requires
append_citing_position-requires c =
    let w = c.requires.within _ (in-at c.args.cited.now c.loop-position.position-index (omega (arith, c.loop-position-test.true))) in
    (w.0, omega (arith, w.1, c.loop-position.auto.cited_by))

pub loop-position-preserved : goal.loop-position-preserved
loop-position-preserved c =
    let w = c.requires.within _ (in-at c.args.cited.now c.loop-position.position-index (omega (arith, c.loop-position-test.true))) in
    let count = lists-count c.args.cited_by.now in
    citing-pushed c.args.at c.args.cited.now c.loop-position.position-index _ (lists_of c.args.cited_by.now) (lists_of c.loop-position.cited_by) (lists_of c.append_citing_position.new.cited_by)
    c.requires.ascends (omega (arith, c.loop-position-test.true)) refl w.0 (omega (arith, w.1, count)) c.in_ok-append_citing_position.ensures c.loop-position.invariant
