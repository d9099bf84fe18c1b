use Rattle.names.specs.Stored.Table.{AreNameKeys, OverflowGrows, AreReachable}
use Rattle.names.proofs.table.build_slots.Given as goal

abbrev pub invariant-loop-code : goal.invariant-loop-code
invariant-loop-code l = record {
  name_keys : AreNameKeys l.name_keys l.name_list;
  overflow_grows : OverflowGrows l.initial.name_keys l.name_keys;
  reachable : AreReachable l.code l.slots.items l.name_keys l.name_list;
}
