use Rattle.frame.proofs.Words.{◌≡◌, ◌++◌, among, AreWords}
use Rattle.frame.proofs.one_frame.mandatory_group.Given as goal

abbrev pub invariant-loop-name : goal.invariant-loop-name
invariant-loop-name l = record {
  rest : l.group ++ among l.used l.name-iterator ≡ among l.used l.names;
  words : AreWords l.name-iterator;
}
