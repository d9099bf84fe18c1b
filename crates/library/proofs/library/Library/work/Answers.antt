use Rattle.library.proofs.Words.{subst, sym, IsReading, ReplicaState}
use Rattle.library.specs.LibraryState.{IsWorkOf}
use Rattle.library.proofs.TextLemmas.{text-counted, text-judged, text-work-of, within-read}
use Rattle.library.proofs.library.Library.work.Goals as goal

pub returns-in-Err-clause-work : goal.returns-in-Err-clause-work
returns-in-Err-clause-work c =
    rw (← c.self.view_is) (subst (IsReading c.self.inside.limit c.self.inside.charter c.args.submission.now) c.in-Err.is c.in_ok-text.ensures c.self.inside.database)

pub returns-in_err-judged-clause-counted : goal.returns-in_err-judged-clause-counted
returns-in_err-judged-clause-counted c =
    let read = (subst (IsReading c.self.inside.limit c.self.inside.charter c.args.submission.now) c.in-Ok.is c.in_ok-text.ensures) in
    rw (← c.self.view_is) (within-read c.self.inside.charter c.args.submission.now c.in-Ok.text.statements.items _ _ read.allowed c.extend.ensures.counted)

pub returns-clause-work : goal.returns-clause-work
returns-clause-work c =
    let V = c.self.inside in
    let read = (subst (IsReading c.self.inside.limit c.self.inside.charter c.args.submission.now) c.in-Ok.is c.in_ok-text.ensures) in
    let replica : ReplicaState = record { statements = V.database; decided = V.decided.entries; charter = V.charter; limit = V.limit } in
    let submission = c.args.submission.now in
    let bytes = text-counted V.limit V.database V.charter submission c.in-Ok.text read in
    let judged = c.in_ok-judged.judged in
    rw (← c.self.view_is)
    (subst (IsWorkOf replica submission) (sym c.work_or_cause.ensures)
    (text-work-of replica submission c.in-Ok.text judged.0 judged.1 read
    (text-judged V.limit V.database V.charter submission c.in-Ok.text read judged.0 (c.in_ok-judged.ensures.judged submission.text bytes))
    (c.in_ok-judged.ensures.work submission.text bytes)))

pub returns-clause-counted : goal.returns-clause-counted
returns-clause-counted c =
    let read = (subst (IsReading c.self.inside.limit c.self.inside.charter c.args.submission.now) c.in-Ok.is c.in_ok-text.ensures) in
    rw (← c.self.view_is) (within-read c.self.inside.charter c.args.submission.now c.in-Ok.text.statements.items _ _ read.allowed c.extend.ensures.counted)
