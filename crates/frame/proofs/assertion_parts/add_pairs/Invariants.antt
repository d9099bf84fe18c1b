use Rattle.frame.proofs.Words.{◌≡◌, length, cut, AreSpansIn, is_numbered_pair}
use Rattle.frame.proofs.PairListLemmas.{AreAdded}
use Rattle.frame.proofs.assertion_parts.add_pairs.Given as goal

abbrev pub invariant-loop-index : goal.invariant-loop-index
invariant-loop-index l = record {
  variables : l.pair_buffer.variables ≡ l.initial.pair_buffer.variables;
  added : AreAdded (is_numbered_pair l.pairs) l.initial.pair_buffer.variables l.index (cut l.grouped_variables.items l.groups.items);
  within : AreSpansIn (length l.grouped_variables.items) l.groups.items;
}
