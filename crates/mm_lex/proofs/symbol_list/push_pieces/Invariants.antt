use Rattle.mm_lex.proofs.Prelude.{◌-◌, length, AddsSymbols}
use Rattle.mm_lex.proofs.symbol_list.push_pieces.Given as goal

abbrev pub invariant-loop-at : goal.invariant-loop-at
invariant-loop-at l = AddsSymbols l.text l.from l.at l.initial.words l.words

abbrev pub decreases-loop-at : goal.decreases-loop-at
decreases-loop-at l = length l.text - l.at
