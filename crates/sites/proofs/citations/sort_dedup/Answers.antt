use Rattle.sites.proofs.ReferenceWords.{eqb, dedup_is, ordered}
use Rattle.sites.proofs.citations.sort_dedup.Goals as goal

pub returns : goal.returns
returns c =
    let sorted = c.sort_unstable.new.self.items in
    let once = c.dedup.new.self.items in
    ordered c.args.list.now.items sorted once c.sort_unstable.ensures.permutation c.sort_unstable.ensures.sorted (dedup_is eqb sorted once c.dedup.ensures.filtered)
