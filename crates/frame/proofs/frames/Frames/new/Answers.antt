use Rattle.frame.proofs.Words.{rules, refl, Disj, Var}
use Rattle.frame.proofs.TableLemmas.{table-none}
use Rattle.frame.proofs.frames.Frames.new.Goals as goal

pub invariant_of-result : goal.invariant_of-result
invariant_of-result c = record {
  kept = search rules;
  numbered = search rules;
  ended = search rules;
  floats = rw (c.new-5.ensures, c.new-4.ensures) (λ n. refl);
  disjoints = rw (c.new-6.ensures, c.new-4.ensures) (table-none Disj);
  variables = rw (c.new-7.ensures, c.new-4.ensures) (table-none Var);
}
