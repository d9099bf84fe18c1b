use Rattle.unproved.specs.LegalPart.{IsSifted}
use Rattle.unproved.proofs.legal_part.sift.Given as goal

abbrev pub invariant-loop-statement : goal.invariant-loop-statement
invariant-loop-statement l = IsSifted l.yielded l.sifter
