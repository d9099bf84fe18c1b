use Rattle.commands.proofs.Words.{◌≡◌, sym, ◌∙◌, ap, join_with_byte, join_with_byte-slice_split, split_at, SPACE}
use Rattle.commands.proofs.line_words.Pieces+SPACE.text.Goals as goal

pub returns-in-Some : goal.returns-in-Some
returns-in-Some c =
    let e : c.args.self ≡ split_at SPACE c.in-Some.rest.now = cc in
    sym (ap (join_with_byte SPACE) e ∙ join_with_byte-slice_split SPACE c.in-Some.rest.now)
