use Rattle.library.proofs.Words.{◌≡◌, Ok, None, sym, ◌∙◌, length-replicate, refl, replicate, List, ℕ}
use Rattle.library.proofs.CheckedDatabaseLemmas.{extended, none-stopped, shaped-append}
use Rattle.library.proofs.checked_database.CheckedDatabase.extend.Goals as goal

pub invariant_of-self-in-Ok-None : goal.invariant_of-self-in-Ok-None
invariant_of-self-in-Ok-None g c =
    let empty = rw c.in-Ok-None.is at c.in-Ok-None.field-0-is in
    let whole = c.in_ok-append_all.ensures.added in
    let S = c.append_all.new.statements.items in
    let a = c.add_after-added.result in
    let added = rw c.as_slice-statements.ensures.value at c.add_after-added.ensures.added in
    let found = rw (c.in-Ok-None.is, empty, c.as_slice-statements.ensures.value, c.or_leaving-added.ensures) at c.judge-found.ensures in
    let none = none-stopped S c.add_after-added.new.meter c.judge-found.new.meter a c.args.text.leaves found in
    let bytes : List ℕ = replicate c.args.text.meter.count 0 in
    let judged = extended c.self.inside.statements.items c.args.text.statements.items S c.args.text.meter c.add_after-added.new.meter c.judge-found.new.meter bytes None a c.args.text.leaves c.self.invariant whole
    (sym (length-replicate c.args.text.meter.count 0)) added c.requires.leaves found in
    record {
      shaped = rw whole (shaped-append c.self.inside.statements.items c.args.text.statements.items c.self.invariant.shaped c.requires.shaped);
      good = rw whole judged.0.1;
      rules_are = c.mark.ensures.statements ∙ added.rules_are none;
      marked_is = c.mark.ensures.marked ∙ added.rules_are none;
      frames_are = added.frames_are none;
    }

pub returns-in-Ok-None-clause-judged : goal.returns-in-Ok-None-clause-judged
returns-in-Ok-None-clause-judged g c = λ bytes counted.
    let empty = rw c.in-Ok-None.is at c.in-Ok-None.field-0-is in
    let S = c.append_all.new.statements.items in
    let added = rw c.as_slice-statements.ensures.value at c.add_after-added.ensures.added in
    let found = rw (c.in-Ok-None.is, empty, c.as_slice-statements.ensures.value, c.or_leaving-added.ensures) at c.judge-found.ensures in
    rw (← c.self.view_is) (extended c.self.inside.statements.items c.args.text.statements.items S c.args.text.meter c.add_after-added.new.meter c.judge-found.new.meter bytes None c.add_after-added.result c.args.text.leaves c.self.invariant
    c.in_ok-append_all.ensures.added counted added c.requires.leaves found).0

pub returns-in-Ok-None-clause-work : goal.returns-in-Ok-None-clause-work
returns-in-Ok-None-clause-work g c = λ bytes counted e.
    let empty = rw c.in-Ok-None.is at c.in-Ok-None.field-0-is in
    let S = c.append_all.new.statements.items in
    let added = rw c.as_slice-statements.ensures.value at c.add_after-added.ensures.added in
    let found = rw (c.in-Ok-None.is, empty, c.as_slice-statements.ensures.value, c.or_leaving-added.ensures) at c.judge-found.ensures in
    rw (← c.self.view_is) (c.count.ensures ∙ (extended c.self.inside.statements.items c.args.text.statements.items S c.args.text.meter c.add_after-added.new.meter c.judge-found.new.meter bytes None c.add_after-added.result c.args.text.leaves c.self.invariant
    c.in_ok-append_all.ensures.added counted added c.requires.leaves found).1 refl)

pub returns-clause-judged : goal.returns-clause-judged
returns-clause-judged g c = λ bytes counted.
    let S = c.append_all.new.statements.items in
    let was : c.judge-found.result ≡ Ok c.in_ok-found.field-0 = c.in_ok-found.was in
    let added = rw c.as_slice-statements.ensures.value at c.add_after-added.ensures.added in
    let found = rw (was, c.as_slice-statements.ensures.value, c.or_leaving-added.ensures) at c.judge-found.ensures in
    rw (← c.self.view_is) (extended c.self.inside.statements.items c.args.text.statements.items S c.args.text.meter c.add_after-added.new.meter c.judge-found.new.meter bytes c.in_ok-found.field-0 c.add_after-added.result c.args.text.leaves c.self.invariant
    c.in_ok-append_all.ensures.added counted added c.requires.leaves found).0

pub returns-clause-work : goal.returns-clause-work
returns-clause-work g c = λ bytes counted e.
    let S = c.append_all.new.statements.items in
    let was : c.judge-found.result ≡ Ok c.in_ok-found.field-0 = c.in_ok-found.was in
    let added = rw c.as_slice-statements.ensures.value at c.add_after-added.ensures.added in
    let found = rw (was, c.as_slice-statements.ensures.value, c.or_leaving-added.ensures) at c.judge-found.ensures in
    rw (← c.self.view_is) (c.count-2.ensures ∙ (extended c.self.inside.statements.items c.args.text.statements.items S c.args.text.meter c.add_after-added.new.meter c.judge-found.new.meter bytes c.in_ok-found.field-0 c.add_after-added.result c.args.text.leaves c.self.invariant
    c.in_ok-append_all.ensures.added counted added c.requires.leaves found).1 e)
