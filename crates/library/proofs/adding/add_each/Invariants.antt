use Rattle.library.proofs.Words.{◌≡◌, ◌+◌, ◌++◌, false, take, drop, bares, first_broken}
use Rattle.verify.specs.Metered.{is_past, with_work}
use Rattle.library.specs.Added.{added_work}
use Rattle.library.proofs.adding.add_each.Given as goal

abbrev pub invariant-loop-index : goal.invariant-loop-index
invariant-loop-index l = record {
  rules_are : l.tables.rules.statements ≡ l.initial.tables.rules.statements ++ bares (take l.index l.statements);
  frames_are : l.tables.frames.statements ≡ l.initial.tables.frames.statements ++ bares (take l.index l.statements);
  left : first_broken 1 l.initial.tables.rules.statements l.statements ≡ first_broken (l.index + 1) l.tables.rules.statements (drop l.index l.statements);
  mark : l.tables.rules.marked ≡ l.initial.tables.rules.marked;
  counted : l.steps.count ≡ l.initial.steps.count + l.index;
  metered : l.meter ≡ with_work l.initial.meter (added_work l.initial.tables.rules.statements l.statements l.index);
  within : is_past l.meter ≡ false;
}
