use Rattle.mm_lex.proofs.Prelude.{◌∙◌, ap, sym, spaced}
use Rattle.mm_lex.proofs.WordsLemmas.{spaced-words_of}
use Rattle.mm_lex.proofs.word_iter.WordIter.as_text.Goals as goal

pub returns-clause-text : goal.returns-clause-text
returns-clause-text c = sym (spaced-words_of c.self.inside.text.now) ∙ ap spaced c.self.view_is
