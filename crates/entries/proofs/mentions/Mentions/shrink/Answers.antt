use Rattle.entries.proofs.MentionLogLemmas.{same-logged}
use Rattle.entries.proofs.mentions.Mentions.shrink.Goals as goal

pub invariant_of-self : goal.invariant_of-self
invariant_of-self c = rw (c.give_back-2.ensures, c.give_back.ensures) (same-logged c.self.inside.log.items c.self.inside.lists.items c.remove_empty.new.lists.items c.remove_empty.ensures c.self.invariant)
