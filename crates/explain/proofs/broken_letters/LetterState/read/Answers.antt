use Rattle.explain.proofs.Words.{arith, refl, sym, ap, ◌+◌, ◌*◌, NotLetter, NotEnded, TooGreat}
use Rattle.explain.proofs.LetterLemmas.{broken-at, some-begun, word-over, begun-over, number-read, mark-read, letter-read, other-here, ends-so}
use Rattle.explain.proofs.broken_letters.LetterState.read.Goals as goal

pub returns-then-self-ne0 : goal.returns-then-self-ne0
returns-then-self-ne0 c labels letters r here names count =
    broken-at _ _ _ _ _ _ r names count c.broken.result NotEnded c.args.self.begin c.broken.ensures.fault c.broken.ensures.letter
    (some-begun _ _ _ _ _ _ r c.if-self-ne0.true, ends-so _ _ _ _ _ _ r c.args.letter here c.in-90.is) (sym r.at_begin)

pub returns-then-self-from : goal.returns-then-self-from
returns-then-self-from c labels letters r here names count =
    broken-at _ _ _ _ _ _ r names count c.broken-then-self-from.result TooGreat c.args.self.begin c.broken-then-self-from.ensures.fault c.broken-then-self-from.ensures.letter
    (word-over _ _ _ _ _ _ r c.args.letter here (omega arith) (omega arith) (let e = c.from.ensures in let h = c.if-self-from.true in omega (arith, e, h))) (sym r.at_begin)

pub returns-then-digits-self : goal.returns-then-digits-self
returns-then-digits-self c labels letters r here names count =
    broken-at _ _ _ _ _ _ r names count c.broken-then-digits-self.result TooGreat c.args.self.begin c.broken-then-digits-self.ensures.fault c.broken-then-digits-self.ensures.letter
    (begun-over _ _ _ _ _ _ r c.args.letter here (5 * c.args.self.digits + c.from-in-85-to-89.result) (omega arith) (omega arith) (ap (λ n. 5 * c.args.self.digits + n) c.from-in-85-to-89.ensures) c.if-digits-self.true) (sym r.at_begin)

pub returns-else-self-ne0 : goal.returns-else-self-ne0
returns-else-self-ne0 c labels letters r here = mark-read _ _ _ _ _ _ r c.args.letter here c.in-90.is c.if-self-ne0.false

pub returns-else-self-from : goal.returns-else-self-from
returns-else-self-from c labels letters r here =
    number-read _ _ _ _ _ _ r c.args.letter here (omega arith) (omega arith) (let e = c.from.ensures in let h = c.if-self-from.false in omega (arith, e, h))

pub returns-else-digits-self : goal.returns-else-digits-self
returns-else-digits-self c labels letters r here =
    letter-read _ _ _ _ _ _ r c.args.letter here _ (omega arith) (omega arith) (ap (λ n. 5 * c.args.self.digits + n) c.from-in-85-to-89.ensures) c.if-digits-self.false

pub returns-in_default : goal.returns-in_default
returns-in_default c labels letters r here names count =
    broken-at _ _ _ _ _ _ r names count _ NotLetter c.args.index refl refl (other-here _ _ _ _ _ _ r c.args.letter here (λ low high. omega arith) (λ low high. omega arith) (λ e. omega (arith, e))) (sym r.at_index)

pub returns-in_default-2 : goal.returns-in_default-2
returns-in_default-2 c labels letters r here names count =
    broken-at _ _ _ _ _ _ r names count _ NotLetter c.args.index refl refl (other-here _ _ _ _ _ _ r c.args.letter here (λ low high. omega arith) (λ low high. omega arith) (λ e. omega (arith, e))) (sym r.at_index)
