-- Why the tokens of a `$p` do not prove it.
-- Source: Metamath, 4.2.6 and appendix B.
-- The code calls the verifier first.
use Rattle.std.specs.Prelude.{ℕ, List}
use Rattle.explain.specs.Words.{Name, Stmt, Database, Writes, mandatory_labels, IsProvable}
use Rattle.explain.specs.FirstFault.{IsFirstFault}
use Rattle.explain.specs.declared.why.WhyUnproved.{WhyUnproved}
use Rattle.explain.specs.declared.why.WhyUnproved.TheVariants.{Code, Run}
use Rattle.explain.specs.Breaks.{IsBreak}

-- they break this rule of proof code; or they write these items, whose run has this first fault
abbrev pub IsWhy : Database → List Name → ℕ → List Name → WhyUnproved → Type 0
IsWhy S names at tokens (Code broken) = (s : Stmt) × IsProvable S at s × IsBreak tokens (mandatory_labels S at s) broken
IsWhy S names at tokens (Run items reason) =
    (s : Stmt) × IsProvable S at s × Writes tokens (mandatory_labels S at s) items × IsFirstFault S names at s items reason
