use Rattle.std.proofs.Common.{ap, arith, length}
use Rattle.names.proofs.NameListLemmas.{names_from-length}
use Rattle.names.proofs.name_list.NameList.len.Goals as goal

pub returns : goal.returns
returns c =
    let l = names_from-length c.self.inside.bytes.items 0 c.self.inside.ends.items in
    omega (arith, c.len.ensures, c.self.inside.ends.ok.0, l, ap length c.self.view_is)
