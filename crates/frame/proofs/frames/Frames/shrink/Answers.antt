use Rattle.frame.proofs.ShrunkStorage.{IsShrunk, stored-shrunk}
use Rattle.frame.proofs.frames.Frames.shrink.Goals as goal

pub invariant_of-self : goal.invariant_of-self
invariant_of-self c =
    let e = c.shrink_lists.ensures in
    let shrunk : IsShrunk c.self.inside.storage c.shrink_lists.new.storage = record {
      numbering = e.numbering;
      positions = e.positions;
      floats = e.floats;
      ends = e.ends;
      entries = e.entries;
      disjoints = e.disjoints;
      variables = e.variables;
      last_active = e.last_active;
    } in
    stored-shrunk c.self.inside.storage c.shrink_lists.new.storage c.self.invariant shrunk
