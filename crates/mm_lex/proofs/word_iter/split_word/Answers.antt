use Rattle.mm_lex.proofs.Prelude.{◌∙◌, ap, sym, ◌+◌, ◌∷◌, take, take_rest, words_of}
use Rattle.mm_lex.proofs.WordsLemmas.{at_position, no_position, AreWords-after}
use Rattle.mm_lex.proofs.word_iter.split_word.Goals as goal

pub returns-in-Some-clause-first : goal.returns-in-Some-clause-first
returns-in-Some-clause-first c =
    let text = c.args.text.now in
    at_position text c.in-Some.end c.in-Some.ensures.place c.requires.words
    ∙ ap (λ rest. take c.in-Some.end text ∷ words_of rest) (sym (take_rest text (c.in-Some.end + 1)))

pub returns-in-Some-clause-rest : goal.returns-in-Some-clause-rest
returns-in-Some-clause-rest c =
    AreWords-after (words_of c.args.text.now) _ (take c.in-Some.end c.args.text.now) (returns-in-Some-clause-first c) c.requires.words

pub returns-in-None-clause-first : goal.returns-in-None-clause-first
returns-in-None-clause-first c =
    no_position c.args.text.now c.in-None.ensures.place c.requires.some
