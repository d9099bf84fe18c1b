use Rattle.std.proofs.Common.{ap, arith, length}
use Rattle.names.proofs.NameListLemmas.{names_from-length}
use Rattle.names.proofs.name_list.NameList.get.Goals as goal

pub part-requires-clause-index : goal.part-requires-clause-index
part-requires-clause-index c =
    let l = names_from-length c.self.inside.bytes.items 0 c.self.inside.ends.items in
    omega (arith, c.requires, l, ap length c.self.view_is, ap length c.as_slice-2.ensures.value)
