use Rattle.std.specs.Prelude.{◌++◌, codes}
use Rattle.text.specs.FileNames.{file_name}
use Rattle.markup.specs.Links.{link_start}
use Rattle.markup.proofs.AppendLemmas.{joined, joined-last}
use Rattle.markup.proofs.page_link.push_link_start.Goals as goal

pub returns : goal.returns
unfolding link_start
returns c =
    let step2 = joined c.args.page.now.items c.extend_from_slice.new.self.items c.push_file_name.new.text.items (codes "<a href=\"") (file_name c.args.label.now c.args.position) c.in_ok-extend_from_slice.ensures.items c.in_ok-push_file_name.ensures in
    joined-last c.args.page.now.items c.push_file_name.new.text.items c.extend_from_slice-2.new.self.items (codes "<a href=\"" ++ file_name c.args.label.now c.args.position) (codes "\">") c.extend_from_slice-2.result step2 c.extend_from_slice-2.ensures.items
