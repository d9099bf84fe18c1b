use Rattle.names.proofs.PutLemmas.{names-take}
use Rattle.names.proofs.names.NameTable.truncate.Goals as goal

pub invariant_of-self : goal.invariant_of-self
invariant_of-self c =
    names-take c.self.inside.slots.items c.self.inside.name_keys c.truncate.new.self c.self.inside.name_list c.truncate-2.new.self c.args.len c.truncate-2.ensures c.self.invariant c.truncate.ensures.keys c.truncate.ensures.codes
