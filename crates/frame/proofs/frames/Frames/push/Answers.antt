use Rattle.frame.proofs.Words.{bare, names_in, statements_of}
use Rattle.frame.proofs.NamingLemmas.{names-later}
use Rattle.frame.proofs.frames.Frames.push.Goals as goal

pub returns-clause-names : goal.returns-clause-names
returns-clause-names c =
    let old = c.self.inside.storage in let new = c.extend_whole.new.storage in
    rw (← c.self.view_is)
    (names-later c.extend_whole.result (statements_of old) (bare c.args.stmt.now) (statements_of new) (names_in old) (names_in new) c.self.invariant.kept.names_kept c.extend_whole.ensures.stored.kept.names_kept
    c.extend_whole.ensures.added c.extend_whole.ensures.same)
