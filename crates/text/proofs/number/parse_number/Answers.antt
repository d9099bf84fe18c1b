use Rattle.std.proofs.Common.{sym, ◌∙◌, arith, refl}
use Rattle.text.proofs.NumberLemmas.{number_at_end, number_with_digit, number_without}
use Rattle.text.proofs.number.parse_number.Goals as goal

pub loop-digit-preserved : goal.loop-digit-preserved
loop-digit-preserved c = record {
  reads = c.loop-digit.invariant.reads
      ∙ number_with_digit c.args.word.now c.loop-digit.digit-index c.loop-digit.value _ _ c.loop-digit-test.true refl c.in-Some.ensures.0 c.in-Some.ensures.1;
  small = c.in-Some.ensures.2;
}

pub returns-in_default : goal.returns-in_default
returns-in_default c =
    sym (c.loop-digit.invariant.reads
    ∙ number_without c.args.word.now c.loop-digit.digit-index c.loop-digit.value _ c.loop-digit-test.true refl c.in_default.ensures)

pub returns : goal.returns
returns c = sym (c.loop-digit.invariant.reads ∙ number_at_end c.args.word.now c.loop-digit.digit-index c.loop-digit.value (omega arith) c.loop-digit.invariant.small)
