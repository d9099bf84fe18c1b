use Rattle.frame.proofs.Words.{◌≡◌, length, take}
use Rattle.frame.proofs.PairListLemmas.{IsFound}
use Rattle.frame.proofs.pair_buffer.PairBuffer.fill.Given as goal

abbrev pub invariant-loop-symbols : goal.invariant-loop-symbols
invariant-loop-symbols l = record {
  variables : l.self-inside.variables ≡ l.initial.self-inside.variables;
  found : IsFound (take l.index l.initial.self-inside.variables) l.variable l.initial.disjoints l.disjoints l.self-inside.list;
}

abbrev pub decreases-loop-symbols : goal.decreases-loop-symbols
decreases-loop-symbols l = length l.disjoints
