use Rattle.proof_text.proofs.label_order.+leading_count.Given as goal

abbrev pub decreases-leading_count : goal.decreases-leading_count
decreases-leading_count l = l.value
