use Rattle.std.proofs.Common.{◌∙◌, ap, sym, ◌+◌, length, refl}
use Rattle.mm_lex.proofs.WordsLemmas.{length-words_of, some_by_len}
use Rattle.mm_lex.proofs.words.count_words.Goals as goal

pub returns : goal.returns
returns c =
    ap (λ n. n + 1) c.count_spaces.ensures.count ∙ sym (length-words_of c.args.text.now (some_by_len c.args.text.now (length c.args.text.now) refl c.if-is_empty.ensures))
