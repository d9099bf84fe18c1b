use Rattle.frame.proofs.Words.{declared_symbols, AreDone}
use Rattle.frame.proofs.symbol_numbers.record_list.Given as goal

abbrev pub invariant-loop-word : goal.invariant-loop-word
invariant-loop-word l = record { recorded : AreDone (declared_symbols l.numbering) l.words l.word-iterator l.recorded }
