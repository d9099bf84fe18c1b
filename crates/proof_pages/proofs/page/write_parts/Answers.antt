use Rattle.proof_pages.proofs.WritingLemmas.{page_on}
use Rattle.proof_pages.proofs.page.write_parts.Goals as goal

pub returns : goal.returns
returns g c =
    page_on c.write_buffered.result (g.W.Write.contents c.args.out.now) (g.W.Write.contents c.write_proof.new.out) (g.W.Write.contents c.write_buffered.new.out)
    _ _ _ _ _ _ _ _ _ _ _ _ c.new-page.ensures.items c.in_ok-push_opening.ensures c.in_ok-push_frame.ensures c.in_ok-write_proof.ensures c.in_ok-push_cited_by.ensures c.in_ok-extend_from_slice.ensures.items
    c.deref.ensures.value c.write_buffered.ensures
