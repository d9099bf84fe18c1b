use Rattle.steps.proofs.Words.{◌≡◌, ◌<◌, ◌≤◌, ◌∙◌, false, length, sym, refl, arith}
use Rattle.mm_lex.specs.Alphabet.{has_byte}
use Rattle.proof_code.specs.Writes.{question_mark}
use Rattle.steps.specs.KnownPart.{uncitable, too_few}
use Rattle.steps.proofs.KnownPartLemmas.{citation-goes}
use Rattle.steps.proofs.known_part.KnownPart.push_token.Goals as goal

pub returns-in-Some-clause-knows : goal.returns-in-Some-clause-knows
returns-in-Some-clause-knows c = λ limit room.
    let few : c.in-Some.count ≤ length c.args.self.now.stack.items = (let t = c.if-count-len.true in omega (arith, t, c.len.ensures)) in
    let plain : has_byte question_mark c.args.token.now ≡ false = sym c.contains.ensures.value ∙ c.if-contains.false in
    citation-goes c.args.frames.now.statements c.args.at c.args.token.now c.args.self.now c.push_citation.new.self c.in-Some.count limit c.push_citation.result few plain (rw c.in-Some.is at c.in_ok-count.ensures) room c.push_citation.ensures.cites

pub returns-in_default-clause-knows : goal.returns-in_default-clause-knows
returns-in_default-clause-knows c = λ limit room.
    let less : length c.args.self.now.stack.items < c.in-Some.count = (let t = c.if-count-len.false in omega (arith, t, c.len.ensures)) in
    (too_few c.in-Some.count (rw c.in-Some.is at c.in_ok-count.ensures) less, refl)

pub returns-in_default-2-clause-knows : goal.returns-in_default-2-clause-knows
returns-in_default-2-clause-knows c = λ limit room. (uncitable (rw c.in_default.is at c.in_ok-count.ensures), refl)
