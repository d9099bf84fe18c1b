use Rattle.library.proofs.Words.{◌≡◌, ◌+◌, drop, first_declaration}
use Rattle.library.proofs.entry_text.first_forbidden.Given as goal

abbrev pub invariant-loop-index : goal.invariant-loop-index
invariant-loop-index l = first_declaration 1 l.statements ≡ first_declaration (l.index + 1) (drop l.index l.statements)
