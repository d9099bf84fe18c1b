use Rattle.finding.proofs.LineWords.{take, AreRecorded, IsMatch, AreFoundLines, line_of}
use Rattle.finding.proofs.lines.found_lines.Given as goal

abbrev pub invariant-loop-index : goal.invariant-loop-index
invariant-loop-index l = record {
  lines : AreFoundLines (IsMatch l.searched.text.now l.searched.statements.now l.searched.descriptions.now l.query) (line_of l.searched.statements.now l.query) 0 (take l.index l.searched.statements.now) l.lines.items;
  recorded : AreRecorded l.query l.searched.statements.now l.index l.essentials.items;
}
