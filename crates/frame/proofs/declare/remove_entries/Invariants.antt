use Rattle.frame.proofs.Words.{◌≡◌, ◌≤◌, length, take, AreBlockEnds, statements_of}
use Rattle.frame.proofs.declare.remove_entries.Given as goal

abbrev pub invariant-loop-storage : goal.invariant-loop-storage
invariant-loop-storage l = record {
  enough : l.len ≤ length l.storage.entries;
  within : length l.storage.entries ≤ length l.fn.storage.entries;
  front : l.storage.entries ≡ take (length l.storage.entries) l.fn.storage.entries;
  ended : AreBlockEnds l.storage.ends.items (take (length l.storage.entries) (statements_of l.fn.storage));
  count : length l.storage.ends.items ≡ length l.fn.storage.ends.items;
  names : (l.storage.numbering ≡ l.fn.storage.numbering) × (l.storage.positions ≡ l.fn.storage.positions);
  floats : l.storage.floats ≡ l.fn.storage.floats;
  disjoints : l.storage.disjoints ≡ l.fn.storage.disjoints;
  variables : l.storage.variables ≡ l.fn.storage.variables;
  last_active : l.storage.last_active ≡ l.fn.storage.last_active;
}

abbrev pub decreases-loop-storage : goal.decreases-loop-storage
decreases-loop-storage l = length l.storage.entries
