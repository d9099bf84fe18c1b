use Rattle.proof_code.proofs.Words.{◌<◌, cond, arith, cases_Bool, inl, inr, ends_number}
use Rattle.proof_code.proofs.ReadProofLemmas.{over_limit}
use Rattle.proof_code.proofs.letter_numbers.LetterState.check.Goals.{then-count_ended-eq1, else-count_ended-eq1}
use Rattle.proof_code.proofs.letter_numbers.LetterState.check.Goals as goal

pub returns-then-value-bound-clause-none : goal.returns-then-value-bound-clause-none
returns-then-value-bound-clause-none c =
    let state = c.args.self.now in
    let ended = c.count_ended.ensures in
    let over : cond (ends_number c.args.byte) state.limit c.args.digits_limit < c.args.value = elim (cases_Bool (ends_number c.args.byte)) [
      | inl e ↦ elim c.if-count_ended-eq1.branch [
        | then-count_ended-eq1 w ↦ rw e (omega (arith, w.bound-is, c.if-value-bound.true))
        | else-count_ended-eq1 w ↦ absurd (w.if-count_ended-eq1.false (rw e at ended))
      ]
      | inr e ↦ elim c.if-count_ended-eq1.branch [
        | then-count_ended-eq1 w ↦ absurd (omega (arith, w.if-count_ended-eq1.true, rw e at ended))
        | else-count_ended-eq1 w ↦ rw e (omega (arith, w.bound-is, c.if-value-bound.true))
      ]
    ] in
    over_limit state.limit c.args.digits_limit state.digits c.args.byte c.requires.digits_in_range c.requires.no_overflow c.requires.digits_limit (rw c.requires.value at over)
