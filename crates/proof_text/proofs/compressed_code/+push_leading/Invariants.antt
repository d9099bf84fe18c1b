use Rattle.proof_text.proofs.compressed_code.+push_leading.Given as goal

abbrev pub decreases-push_leading : goal.decreases-push_leading
decreases-push_leading l = l.value
