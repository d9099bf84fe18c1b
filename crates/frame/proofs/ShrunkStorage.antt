-- The storage after memory was released: its lists are as before.
use Rattle.frame.proofs.Words.{◌≡◌, ◌∙◌, Storage, AreStored, Disj, Var, AreSame}
use Rattle.frame.proofs.TableLemmas.{table-same}

pub record IsShrunk (k new : Storage) : Type 0 where
  pub numbering : new.numbering ≡ k.numbering
  pub positions : new.positions.items ≡ k.positions.items
  pub ends : new.ends.items ≡ k.ends.items
  pub entries : new.entries ≡ k.entries
  pub floats : AreSame k.floats new.floats
  pub disjoints : AreSame k.disjoints new.disjoints
  pub variables : AreSame k.variables new.variables
  pub last_active : new.last_active ≡ k.last_active

pub stored-shrunk : (k new : Storage) → AreStored k → IsShrunk k new → AreStored new
stored-shrunk k new are s = record {
  kept = rw (s.numbering, s.positions, s.entries, s.last_active) are.kept;
  numbered = rw (s.numbering, s.entries) are.numbered;
  ended = rw (s.numbering, s.entries, s.ends) are.ended;
  floats = rw s.entries (λ c. s.floats c ∙ are.floats c);
  disjoints = rw s.entries (table-same Disj k.entries k.disjoints new.disjoints are.disjoints s.disjoints);
  variables = rw s.entries (table-same Var k.entries k.variables new.variables are.variables s.variables);
}
