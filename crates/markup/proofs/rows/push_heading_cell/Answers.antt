use Rattle.std.specs.Prelude.{◌++◌, codes}
use Rattle.text.specs.Escapes.{html_text}
use Rattle.markup.proofs.AppendLemmas.{joined, joined-last}
use Rattle.markup.proofs.rows.push_heading_cell.Goals as goal

pub returns : goal.returns
returns c =
    let step2 = joined c.args.row.now.items c.extend_from_slice.new.self.items c.push_html.new.page.items (codes "\"><th colspan=\"3\">") (html_text c.args.title.now) c.in_ok-extend_from_slice.ensures.items c.in_ok-push_html.ensures.written in
    joined-last c.args.row.now.items c.push_html.new.page.items c.extend_from_slice-2.new.self.items (codes "\"><th colspan=\"3\">" ++ html_text c.args.title.now) (codes "\n") c.extend_from_slice-2.result step2 c.extend_from_slice-2.ensures.items
