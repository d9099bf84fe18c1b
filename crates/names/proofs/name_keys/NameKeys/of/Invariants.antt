use Rattle.names.proofs.Words.{take, length, ◌≤◌, AreNameKeys}
use Rattle.names.proofs.name_keys.NameKeys.of.Given as goal

abbrev pub invariant-loop-code : goal.invariant-loop-code
invariant-loop-code l = (l.code ≤ length l.name_keys.keys.items) × AreNameKeys l.name_keys (take l.code l.name_list)
