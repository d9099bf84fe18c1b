use Rattle.finding.proofs.PatternPrelude.{◌∙◌, ap, sym, find, is_unknown_word}
use Rattle.finding.proofs.WordsLemmas.{find_here, find_on}
use Rattle.finding.proofs.words.first_unknown_word.Goals as goal

pub loop-found-preserved : goal.loop-found-preserved
loop-found-preserved c = record {
  within = c.in-Some.ensures.within;
  same = c.loop-found.invariant.same ∙ find_on is_unknown_word _ _ _ c.in-Some.ensures.first (sym c.if-is_unknown_word.ensures);
}

pub returns-then-is_unknown_word : goal.returns-then-is_unknown_word
returns-then-is_unknown_word c =
    sym (c.loop-found.invariant.same ∙ find_here is_unknown_word _ _ _ c.in-Some.ensures.first (sym c.if-is_unknown_word.ensures))

pub returns : goal.returns
returns c = sym (c.loop-found.invariant.same ∙ ap (find is_unknown_word) c.in_default.ensures.first)
