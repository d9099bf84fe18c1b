use Rattle.printed.proofs.Words.{◌∙◌, ap, arith, is_word}
use Rattle.printed.proofs.PrintedNumbers.{is_word-decimal}
use Rattle.printed.proofs.outline.push_statement.Goals as goal

pub push_line_with_proof-requires-clause-word : goal.push_line_with_proof-requires-clause-word
push_line_with_proof-requires-clause-word c = ap is_word (c.as_bytes.ensures.value ∙ c.format-count.ensures.text) ∙ is_word-decimal c.proof_len.result (omega arith)
