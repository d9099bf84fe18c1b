use Rattle.names.proofs.Words.{◌≡◌, ◌∙◌, ap, sym, subst, arith, ◌<◌, length, take, rules, length-take-le, take_all, name_at, AreBytes, key_of, AreNameKeys}
use Rattle.names.proofs.DistinctLemmas.{take-name}
use Rattle.names.proofs.NameKeyLemmas.{name_keys-push}
use Rattle.names.proofs.name_keys.NameKeys.of.Goals as goal

pub loop-code-preserved : goal.loop-code-preserved
loop-code-preserved c =
    let names = c.args.name_list.now in
    let i = c.loop-code.code in
    let lt : i < length names = search rules in
    let l = length-take-le i names (omega (arith, lt)) in
    let more = c.in_ok-push.ensures.more in
    let bytes : AreBytes (name_at names i) = subst AreBytes c.get.ensures c.key.ensures.bytes in
    let b = c.push.new.self in (
      omega (arith, more),
      subst (AreNameKeys b) (sym (take-name names i lt))
          (name_keys-push c.loop-code.name_keys b (take i names) (name_at names i) i c.key.result (sym l) c.loop-code.invariant.1 c.push.ensures.overflow c.push.ensures.same more c.in_ok-push.ensures.last
          (c.key.ensures.key ∙ ap key_of c.get.ensures) c.key.ensures.not_overflow bytes),
    )

pub returns : goal.returns
returns c =
    let names = c.args.name_list.now in
    let all : take c.loop-code.code names ≡ names = take_all c.loop-code.code names (search rules) in
    subst (AreNameKeys c.loop-code.name_keys) all c.loop-code.invariant.1
