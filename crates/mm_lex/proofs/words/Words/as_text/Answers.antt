use Rattle.mm_lex.proofs.Prelude.{◌∙◌, ap, sym, spaced}
use Rattle.mm_lex.specs.Stored.WordStorage.{bytes_of}
use Rattle.mm_lex.proofs.WordsLemmas.{spaced-words_of}
use Rattle.mm_lex.proofs.words.Words.as_text.Goals as goal

pub returns-clause-text : goal.returns-clause-text
returns-clause-text c = c.stored_bytes.ensures ∙ (sym (spaced-words_of (bytes_of c.self.inside.text)) ∙ ap spaced c.self.view_is)
