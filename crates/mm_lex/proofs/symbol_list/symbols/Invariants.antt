use Rattle.mm_lex.proofs.Prelude.{[], ◌-◌, length, AddsSymbols}
use Rattle.mm_lex.proofs.symbol_list.symbols.Given as goal

abbrev pub invariant-loop-words : goal.invariant-loop-words
invariant-loop-words l = AddsSymbols l.text l.from l.at [] l.words

abbrev pub decreases-loop-words : goal.decreases-loop-words
decreases-loop-words l = length l.text - l.at
