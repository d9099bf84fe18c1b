use Rattle.library.proofs.Words.{◌≡◌, ◌≤◌, None, refl, subst, sym, ◌∙◌, arith, IsReading, Decides, ReplicaState, status, decided_with, count_of, author_of, serial_of, HasFewStepsForEntry, verdict_of}
use Rattle.library.proofs.TextLemmas.{text-counted, text-decided, text-judged, within-read}
use Rattle.library.proofs.DecidedLemmas.{opened, settled as settled-table}
use Rattle.library.proofs.library.Library.apply_by.Goals as goal
use Rattle.library.proofs.library.Library.apply_by.Goals.{in-Text+in_ok-text-in-Text+in-Ok+in_ok-extend-in-Ok, in-Text+in_ok-text-in-Text+in-Err, in-Charter+then-not-may_declare, in-Charter+else-not-may_declare+in_ok-copy-in-Charter}

pub returns-in_err-extend-in-Ok-clause-counted : goal.returns-in_err-extend-in-Ok-clause-counted
returns-in_err-extend-in-Ok-clause-counted g c =
    let new : status c.args.self.now.replica.decided (author_of c.in-Some.entry.now) (serial_of c.in-Some.entry.now) ≡ None = sym (rw (c.author.ensures, c.serial.ensures) at c.in-None.ensures.first) in
    rw (c.in-Some.is, new, c.in-Text.is, ← c.self.view_is) (within-read c.self.inside.charter c.in-Text.submission c.in-Ok.text.statements.items _ _
    (subst (IsReading c.self.inside.limit c.self.inside.charter c.in-Text.submission) c.in-Ok.is c.in_ok-text-in-Text.ensures).allowed c.extend.ensures.counted)

-- if a call fails, the table has the entry as undecided, which fits the decided entries
pub invariant_of-self-in_err-text-in-Text : goal.invariant_of-self-in_err-text-in-Text
invariant_of-self-in_err-text-in-Text g c =
    let new : status c.args.self.now.replica.decided (author_of c.in-Some.entry.now) (serial_of c.in-Some.entry.now) ≡ None = sym (rw (c.author.ensures, c.serial.ensures) at c.in-None.ensures.first) in
    opened c.self.inside.decided.entries c.self.inside.entry_states c.insert.new.self _ _ c.self.invariant (rw (← c.self.view_is) at new) (rw (c.author-2.ensures, c.serial-2.ensures) at c.in_ok-insert.ensures.updates)

pub invariant_of-self-in_err-extend-in-Ok : goal.invariant_of-self-in_err-extend-in-Ok
invariant_of-self-in_err-extend-in-Ok g c =
    let new : status c.args.self.now.replica.decided (author_of c.in-Some.entry.now) (serial_of c.in-Some.entry.now) ≡ None = sym (rw (c.author.ensures, c.serial.ensures) at c.in-None.ensures.first) in
    opened c.self.inside.decided.entries c.self.inside.entry_states c.insert.new.self _ _ c.self.invariant (rw (← c.self.view_is) at new) (rw (c.author-2.ensures, c.serial-2.ensures) at c.in_ok-insert.ensures.updates)

pub invariant_of-self-in_err-copy-in-Charter : goal.invariant_of-self-in_err-copy-in-Charter
invariant_of-self-in_err-copy-in-Charter g c =
    let new : status c.args.self.now.replica.decided (author_of c.in-Some.entry.now) (serial_of c.in-Some.entry.now) ≡ None = sym (rw (c.author.ensures, c.serial.ensures) at c.in-None.ensures.first) in
    opened c.self.inside.decided.entries c.self.inside.entry_states c.insert.new.self _ _ c.self.invariant (rw (← c.self.view_is) at new) (rw (c.author-2.ensures, c.serial-2.ensures) at c.in_ok-insert.ensures.updates)

-- for each kind of entry: its verdict is decided, and the table has the entry as undecided
settled : (g : Rattle.library.proofs.library.Library.apply_by.Given.Over) (c : goal.After-verdict_of g) → let V = c.self.inside in
    let old : ReplicaState = record { statements = V.database; decided = V.decided.entries; charter = V.charter; limit = V.limit } in let entry = c.in-Some.entry.now in let verdict = verdict_of c.match-entry.cause in
    Decides old entry verdict (record { statements = c.match-entry.self-inside.database; decided = decided_with old.decided entry verdict; charter = c.match-entry.self-inside.charter; limit = c.match-entry.self-inside.limit })
    × (c.match-entry.self-inside.decided.entries ≡ V.decided.entries) × (c.match-entry.self-inside.entry_states ≡ c.insert.new.self)
    × HasFewStepsForEntry c.in-Some.entry.now (count_of V.steps) (count_of c.match-entry.self-inside.steps) × (count_of V.steps ≤ count_of c.match-entry.self-inside.steps)
settled g c =
    let V = c.self.inside in
    let old : ReplicaState = record { statements = V.database; decided = V.decided.entries; charter = V.charter; limit = V.limit } in
    elim c.match-entry.branch [
      | in-Text+in_ok-text-in-Text+in-Ok+in_ok-extend-in-Ok w ↦ rw (w.cause-is, w.self-inside-is, w.in-Text.is)
          (let read = subst (IsReading V.limit V.charter w.in-Text.submission) w.in-Ok.is w.in_ok-text-in-Text.ensures in (
            text-decided old _ w.in-Ok.text w.in-Text.submission w.in_ok-extend-in-Ok.field-0.0 read
                (text-judged V.limit V.database V.charter w.in-Text.submission w.in-Ok.text read w.in_ok-extend-in-Ok.field-0.0
                (w.in_ok-extend-in-Ok.ensures.judged w.in-Text.submission.text (text-counted V.limit V.database V.charter w.in-Text.submission w.in-Ok.text read)))
                w.in_ok-extend-in-Ok.ensures.new,
            refl,
            refl,
            within-read V.charter w.in-Text.submission w.in-Ok.text.statements.items _ _ read.allowed w.extend.ensures.counted,
            w.extend.ensures.rises,
          ))
      | in-Text+in_ok-text-in-Text+in-Err w ↦ rw (w.cause-is, w.self-inside-is, w.in-Text.is) (
        (subst (IsReading V.limit V.charter w.in-Text.submission) w.in-Err.is w.in_ok-text-in-Text.ensures V.database, refl),
        refl,
        refl,
        record { read = λ T reads. omega arith; unread = λ none. refl },
        omega arith,
      )
      | in-Charter+then-not-may_declare w ↦ rw (w.cause-is, w.self-inside-is, w.in-Charter.is)
          ((sym w.may_declare.ensures ∙ w.if-not-may_declare.true, refl, refl), refl, refl, refl, omega arith)
      | in-Charter+else-not-may_declare+in_ok-copy-in-Charter w ↦ rw (w.cause-is, w.self-inside-is, w.in_ok-copy-in-Charter.ensures, w.in-Charter.is)
          ((sym w.may_declare.ensures ∙ w.if-not-may_declare.false, refl), refl, refl, refl, omega arith)
    ]

pub invariant_of-self-2 : goal.invariant_of-self-2
invariant_of-self-2 g c =
    let V = c.self.inside in let told = settled g c in
    let new : status c.args.self.now.replica.decided (author_of c.in-Some.entry.now) (serial_of c.in-Some.entry.now) ≡ None = sym (rw (c.author.ensures, c.serial.ensures) at c.in-None.ensures.first) in
    let none = rw (← c.self.view_is) at new in
    let before = opened V.decided.entries V.entry_states c.insert.new.self _ _ c.self.invariant none (rw (c.author-2.ensures, c.serial-2.ensures) at c.in_ok-insert.ensures.updates) in
    let after = settled-table V.decided.entries c.insert.new.self c.insert-2.new.self _ _ c.match-entry.cause before none (rw (told.2, c.author-2.ensures, c.serial-2.ensures) at c.in-Ok-insert.ensures.updates) in
    rw (c.after-self-inside.ensures, told.1, c.author-2.ensures, c.serial-2.ensures) after

pub returns-clause-applies : goal.returns-clause-applies
returns-clause-applies g c =
    let told = settled g c in
    let new : status c.args.self.now.replica.decided (author_of c.in-Some.entry.now) (serial_of c.in-Some.entry.now) ≡ None = sym (rw (c.author.ensures, c.serial.ensures) at c.in-None.ensures.first) in
    rw (c.in-Some.is, new, ← c.self.view_is, c.verdict_of.ensures.is, c.after-self-inside.ensures, told.1, c.author-2.ensures, c.serial-2.ensures) told.0

pub returns-clause-counted : goal.returns-clause-counted
returns-clause-counted g c =
    let new : status c.args.self.now.replica.decided (author_of c.in-Some.entry.now) (serial_of c.in-Some.entry.now) ≡ None = sym (rw (c.author.ensures, c.serial.ensures) at c.in-None.ensures.first) in
    rw (c.in-Some.is, new, ← c.self.view_is) (settled g c).3

pub returns-clause-rises : goal.returns-clause-rises
returns-clause-rises g c = rw (← c.self.view_is) (settled g c).4
