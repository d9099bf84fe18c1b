use Rattle.questions.proofs.all_faults.print_with_tokens.Goals as goal

pub read_around_faults-requires-clause-tokens : goal.read_around_faults-requires-clause-tokens
read_around_faults-requires-clause-tokens g c = rw (c.text-readable.ensures, c.spans.ensures.spans) c.requires

pub read_around_faults-requires-clause-words : goal.read_around_faults-requires-clause-words
read_around_faults-requires-clause-words g c = rw c.text-readable.ensures c.spans.ensures.words
