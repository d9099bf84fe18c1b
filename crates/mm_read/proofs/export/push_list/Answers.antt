use Rattle.std.proofs.Common.{◌≡◌, ◌++◌, OnOk, subst}
use Rattle.mm_read.proofs.SpacedLemmas.{line-list}
use Rattle.mm_read.proofs.export.push_list.Goals as goal

pub returns-clause-line : goal.returns-clause-line
returns-clause-line c =
    subst (λ line. OnOk c.push_parts.result (c.push_parts.new.text.items ≡ c.args.text.now.items ++ line))
    (line-list c.args.keyword.now c.args.symbols.now _ c.requires c.as_text.ensures.text) c.push_parts.ensures.ok
