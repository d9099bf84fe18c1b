use Rattle.std.specs.Prelude.{◌++◌, codes}
use Rattle.std.proofs.Common.{ap, ◌∙◌}
use Rattle.markup.proofs.AppendLemmas.{joined, joined-last}
use Rattle.markup.specs.Families.{title}
use Rattle.markup.specs.Pages.{title_start}
use Rattle.markup.proofs.page.push_title.Goals as goal

pub returns : goal.returns
returns c =
    let step2 = joined c.args.page.now.items c.extend_from_slice.new.self.items c.extend_from_slice-2.new.self.items title_start (title c.args.family) c.in_ok-extend_from_slice.ensures.items
    (c.in_ok-extend_from_slice-2.ensures.items ∙ ap (λ t. c.extend_from_slice.new.self.items ++ t) c.title.ensures) in
    joined-last c.args.page.now.items c.extend_from_slice-2.new.self.items c.extend_from_slice-3.new.self.items (title_start ++ title c.args.family) (codes "</h1>\n") c.extend_from_slice-3.result step2 c.extend_from_slice-3.ensures.items
