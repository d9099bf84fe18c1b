use Rattle.places.proofs.MisreadLemmas.{tokens_are, reading_shaped, reading_written, reading_words}
use Rattle.places.proofs.misread.read_around_faults.Goals as goal

pub read_pieces-requires : goal.read_pieces-requires
read_pieces-requires c = tokens_are c.args.text.now c.args.spans.now c.requires.tokens c.requires.words

pub returns-clause-shaped : goal.returns-clause-shaped
returns-clause-shaped c = reading_shaped c.args.text.now c.args.spans.now c.requires.words c.read_pieces.result c.read_pieces.ensures

pub returns-clause-written : goal.returns-clause-written
returns-clause-written c = reading_written c.args.text.now c.args.spans.now c.requires.words c.read_pieces.result c.read_pieces.ensures

pub returns-clause-words : goal.returns-clause-words
returns-clause-words c = reading_words c.args.text.now c.args.spans.now c.requires.words c.read_pieces.result c.read_pieces.ensures
