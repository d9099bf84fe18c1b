use Rattle.finding.proofs.PatternPrelude.{◌∙◌, ap, sym, list_any, is_symbol_word}
use Rattle.finding.proofs.WordsLemmas.{any_here, any_on}
use Rattle.finding.proofs.words.has_symbol.Goals as goal

pub loop-found-preserved : goal.loop-found-preserved
loop-found-preserved c = record {
  within = c.in-Some.ensures.within;
  same = c.loop-found.invariant.same ∙ any_on is_symbol_word _ _ _ c.in-Some.ensures.first (sym c.if-is_symbol_word.ensures);
}

pub returns-then-is_symbol_word : goal.returns-then-is_symbol_word
returns-then-is_symbol_word c =
    sym (c.loop-found.invariant.same ∙ any_here is_symbol_word _ _ _ c.in-Some.ensures.first (sym c.if-is_symbol_word.ensures))

pub returns : goal.returns
returns c = sym (c.loop-found.invariant.same ∙ ap (list_any is_symbol_word) c.in_default.ensures.first)
