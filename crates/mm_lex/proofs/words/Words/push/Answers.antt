use Rattle.mm_lex.proofs.Prelude.{◌≡◌, List, ◌++◌, ◌∷◌, [], ap, ◌∙◌, rules, list_all, Name, words_of, is_word}
use Rattle.mm_lex.specs.Stored.WordStorage.{bytes_of}
use Rattle.mm_lex.proofs.WordsLemmas.{words_of-one, AreWords-push}
use Rattle.mm_lex.proofs.words.Words.push.Goals as goal

pub extend_words-requires-clause-more : goal.extend_words-requires-clause-more
extend_words-requires-clause-more c = ap (list_all is_word) (words_of-one c.args.word.now c.requires) ∙ AreWords-push [] c.args.word.now (search rules) c.requires

pub returns-clause-ok : goal.returns-clause-ok
returns-clause-ok c =
    let word = c.args.word.now in
    let old = words_of (bytes_of c.self.inside.text) in
    let whole : old ++ words_of word ≡ c.args.self.now ++ word ∷ [] = ap (λ (more : List Name). old ++ more) (words_of-one word c.requires) ∙ ap (λ (words : List Name). words ++ word ∷ []) c.self.view_is in
    rw (← whole) c.extend_words.ensures.ok
