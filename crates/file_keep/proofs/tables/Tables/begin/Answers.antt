use Rattle.file_keep.proofs.TableLemmas.{began, keeps_quiet}
use Rattle.file_keep.proofs.tables.Tables.begin.Goals as goal

pub returns-clause-begun : goal.returns-clause-begun
returns-clause-begun g c =
    let keeps = keeps_quiet g.S.Store.faults g.S.Store.is_shielded c.args.self.now.store c.seek.new.self c.seek.ensures.schema c.seek.ensures.quiet in
    began c.seek.result c.args.self.now.store c.seek.new.self c.args.tree c.clear.new.self c.clear.ensures keeps c.seek.ensures.live c.seek.ensures.ok c.seek.ensures.sound
