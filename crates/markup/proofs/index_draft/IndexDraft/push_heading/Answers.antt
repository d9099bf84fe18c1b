use Rattle.markup.specs.Drafts.{state_of}
use Rattle.markup.specs.PagedRows.{paged_of}
use Rattle.markup.proofs.PageLemmas.{filled, heading_is}
use Rattle.markup.proofs.index_draft.IndexDraft.push_heading.Goals as goal

pub returns : goal.returns
returns c =
    let heading = c.args.heading.now in
    heading_is (state_of c.args.self.now) (paged_of c.push.new.self) (paged_of c.push-2.new.self) c.in_ok-number.number c.in_ok-page.page heading.level heading.title.now _ _
    c.in_ok-number.ensures (filled _ _ _ _ c.deref.ensures.value c.in_ok-push_heading_row.ensures c.new-row.ensures.items) c.in_ok-push.ensures
    c.in_ok-page.ensures (filled _ _ _ _ c.deref-2.ensures.value c.in_ok-push_part_entry.ensures c.new-entry.ensures.items) c.in_ok-push-2.ensures
