use Rattle.verify.proofs.ResultPlaceLemmas.{cleared-kept}
use Rattle.verify.proofs.results.Results.start.Goals as goal

pub invariant_of-self : goal.invariant_of-self
invariant_of-self c = cleared-kept c.truncate.new.self c.clear.new.self c.clear-2.new.self.items c.clear-3.new.self.items c.truncate.ensures c.clear.ensures c.clear-2.ensures.items c.clear-3.ensures.items
