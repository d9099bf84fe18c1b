use Rattle.finding.proofs.PatternPrelude.{◌≡◌, map, drop, part_view}
use Rattle.finding.specs.DeclaredSymbols.{undeclared}
use Rattle.finding.proofs.pattern.Pattern.undeclared_symbol.Given as goal

abbrev pub invariant-loop-part : goal.invariant-loop-part
invariant-loop-part l = undeclared l.statements (map part_view (drop l.part-index l.parts)) ≡ undeclared l.statements l.self
