use Rattle.frame.proofs.Words.{◌≡◌, ◌+◌, ◌++◌, ◌∷◌, [], sym, subst, arith, get_or, length, ok-weaker, Assertion, AreFloatsOf, AreWith, Disj, HasTwoSymbolsIfFloat, IsUntil, entry_by, float_mention, mentions_of}
use Rattle.frame.proofs.FloatLemmas.{floats-more, floats-other, floats-until}
use Rattle.frame.proofs.TableLemmas.{longer-by, longer-kept}
use Rattle.frame.proofs.next_mentions.mention_float.Goals as goal

pub push-requires-clause-until : goal.push-requires-clause-until
push-requires-clause-until c = λ d. subst (IsUntil (c.len.result + 1)) (sym (c.requires.floats d)) (floats-until d 1 (c.len.result + 1) c.args.entries.now (omega (arith, c.len.ensures.len)))

pub returns-in-Float : goal.returns-in-Float
returns-in-Float c =
    let es = c.args.entries.now in let codes = c.args.codes.now in
    let n = c.len.result + 1 in
    let place : n ≡ 1 + length es = omega (arith, c.len.ensures.len) in
    let two : length codes ≡ 2 = subst (λ q. HasTwoSymbolsIfFloat q codes) c.in-Float.is c.requires.symbols in
    record {
      floats = ok-weaker c.push.result (AreWith c.args.floats.now (get_or codes 1 0) (mentions_of c.args.floats.now (get_or codes 1 0) ++ float_mention n ∷ []) c.push.new.self) ((a : Assertion) → AreFloatsOf (es ++ entry_by c.args.header.now codes a ∷ []) c.push.new.self)
          (λ with a. floats-more es (entry_by c.args.header.now codes a) n c.args.floats.now c.push.new.self c.requires.floats c.in-Float.is two place with) c.push.ensures.pushed;
      kept = longer-kept Disj es 0 (get_or codes 1 0) (float_mention n) c.args.floats.now c.push.new.self (longer-by c.push.result c.args.floats.now c.push.new.self (get_or codes 1 0) (float_mention n) c.push.ensures.pushed c.push.ensures.same) (omega (arith, place));
    }

pub returns-in_default-clause-floats : goal.returns-in_default-clause-floats
returns-in_default-clause-floats c = λ a. floats-other c.args.entries.now (entry_by c.args.header.now c.args.codes.now a) c.args.floats.now c.requires.floats c.in_default.not-Float
