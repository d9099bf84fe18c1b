use Rattle.scope.proofs.Words.{◌∙◌, ap, sym, length, kinds_of}
use Rattle.scope.proofs.KindsLemmas.{length-seen}
use Rattle.scope.proofs.KindCountLemmas.{kinds-length}
use Rattle.scope.proofs.numbering.Numbering.len.Goals as goal

pub returns : goal.returns
returns c = c.len.ensures ∙ (sym (length-seen c.self.inside.names (kinds_of c.self.inside.entries.items) (kinds-length c.self.inside.names c.self.inside.entries.items c.self.invariant.same)) ∙ ap length c.self.view_is)
