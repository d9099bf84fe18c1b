use Rattle.std.proofs.Common.{◌++◌, take, ap, refl, sym, ◌∙◌}
use Rattle.std.proofs.lemmas.List.{append-nil, take_all}
use Rattle.explanation.proofs.FrontLemmas.{first_none, first_cut, pushed-first, word_take}
use Rattle.explanation.proofs.stack.push_first_bytes.Goals as goal

pub returns-then-count-eq0 : goal.returns-then-count-eq0
returns-then-count-eq0 c = sym (ap (λ r. c.args.tokens.now ++ r) (first_none c.args.word.now c.args.count c.if-count-eq0.true) ∙ append-nil c.args.tokens.now)

pub returns-then-count-word : goal.returns-then-count-word
returns-then-count-word c =
    let word = c.args.word.now in
    pushed-first c.push.result c.args.tokens.now c.push.new.self word word c.args.count
    (first_cut word word c.args.count c.if-count-eq0.false (sym (take_all c.args.count word c.if-count-word.true))) c.push.ensures.ok

pub push-requires-2 : goal.push-requires-2
push-requires-2 c = word_take c.args.count c.args.word.now c.if-count-eq0.false c.requires

pub returns : goal.returns
returns c =
    let word = c.args.word.now in
    pushed-first c.push-2.result c.args.tokens.now c.push-2.new.self word (take c.args.count word) c.args.count
    (first_cut word (take c.args.count word) c.args.count c.if-count-eq0.false refl) c.push-2.ensures.ok
