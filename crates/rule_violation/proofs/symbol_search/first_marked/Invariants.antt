use Rattle.rule_violation.proofs.Words.{◌≡◌, Bool, map, drop, list_any, Name, HaveCodes}
use Rattle.rule_violation.proofs.symbol_search.first_marked.Given as goal

abbrev pub invariant-loop-index : goal.invariant-loop-index
invariant-loop-index l = record {
  rest : l.left ≡ drop l.index l.words;
  named : HaveCodes l.names l.left;
  whole : (t : Name → Bool) → l.marks ≡ map t l.names → list_any t l.words ≡ list_any t l.left;
}
