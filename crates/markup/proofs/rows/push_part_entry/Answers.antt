use Rattle.std.specs.Prelude.{◌++◌, codes}
use Rattle.text.specs.Escapes.{html_text}
use Rattle.markup.proofs.AppendLemmas.{joined, joined-last}
use Rattle.markup.specs.Rows.{numbered, list_link}
use Rattle.markup.proofs.rows.push_part_entry.Goals as goal

pub returns : goal.returns
returns c =
    let heading = c.args.heading.now in
    let step2 = joined c.args.row.now.items c.push_numbered.new.row.items c.push_list_link.new.row.items (numbered (codes "<li class=\"h") heading.level) (list_link c.args.page c.args.number) c.in_ok-push_numbered.ensures c.in_ok-push_list_link.ensures in
    let step3 = joined c.args.row.now.items c.push_list_link.new.row.items c.push_html.new.page.items (numbered (codes "<li class=\"h") heading.level ++ list_link c.args.page c.args.number) (html_text heading.title.now) step2 c.in_ok-push_html.ensures.written in
    joined-last c.args.row.now.items c.push_html.new.page.items c.extend_from_slice.new.self.items (numbered (codes "<li class=\"h") heading.level ++ list_link c.args.page c.args.number ++ html_text heading.title.now) (codes "</a>\n") c.extend_from_slice.result step3 c.extend_from_slice.ensures.items
