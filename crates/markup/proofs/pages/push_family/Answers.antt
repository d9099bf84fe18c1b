use Rattle.std.specs.Prelude.{length}
use Rattle.markup.proofs.PageLemmas.{family_on}
use Rattle.markup.proofs.pages.push_family.Goals as goal

pub loop-page_rows-preserved : goal.loop-page_rows-preserved
loop-page_rows-preserved c =
    family_on c.args.family c.loop-page_rows.number c.in_ok-number.number (length c.args.rows.now) c.in-Some.page_rows.now c.in-Some.others.now c.loop-page_rows.rest.now _ _ _ _
    c.in-Some.ensures.cases.0 c.as_slice.ensures.value c.loop-page_rows.invariant c.in_ok-push_index_page.ensures c.in_ok-number.ensures
