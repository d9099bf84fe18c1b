-- Marks of names: a truth value for each name of a list.
-- Source: this project's choice.
-- The code looks up labels, declared symbols and variables of `$f`s of the statements in a table;
-- here each name of the list is tested.
use Rattle.std.specs.Prelude.{Bool, true, false, cond, List, [], ◌∷◌}
use Rattle.mm_lex.specs.Alphabet.{Name}
use Rattle.rule_violation.specs.declared.symbol_search.SymbolFault.{SymbolFault}
use Rattle.rule_violation.specs.declared.symbol_search.SymbolFault.TheVariants.{Unknown, NotActiveVariable}

-- the names that pass the test get this mark, the others keep theirs
abbrev pub marked : (Name → Bool) → Bool → List Name → List Bool → List Bool
marked test mark [] marks = marks
marked test mark (x ∷ names) [] = []
marked test mark (x ∷ names) (m ∷ marks) = cond (test x) mark m ∷ marked test mark names marks

-- whether a name has this fault if no earlier statement has it as its label, declares it or is a
-- `$f` for it
abbrev pub is_fault_if_absent : SymbolFault → Bool
is_fault_if_absent Unknown = true
is_fault_if_absent NotActiveVariable = true
is_fault_if_absent fault = false
