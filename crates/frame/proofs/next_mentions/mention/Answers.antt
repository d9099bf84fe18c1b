use Rattle.frame.proofs.Words.{◌≡◌, ◌∙◌, ◌+◌, ◌≤◌, ap, sym, subst, arith, length, take, length-take, Mention, AreWith, IsMentionedAt, IsUntil, mentions_of, positions_of, ◌++◌, ◌∷◌, []}
use Rattle.frame.proofs.TableLemmas.{IsLonger, longer-by, longer-grown, longer-kept, longer-others, longer-still, mentioned-by, take-again}
use Rattle.entries.proofs.AddedStatement.{ok-weaker}
use Rattle.frame.proofs.next_mentions.mention.Goals as goal
use Rattle.frame.proofs.next_mentions.mention.Goals.{After-push}

pub first_active-requires-clause-list : goal.first_active-requires-clause-list
first_active-requires-clause-list c = (c.requires.grown c.args.code).mentions

pub push-requires-clause-linked : goal.push-requires-clause-linked
push-requires-clause-linked c =
    let n = c.first_active.ensures.front in
    omega (arith, c.in_ok-to_u32.ensures, c.count-beneath.ensures, ap length n.1, length-take n.0 (mentions_of c.args.mentions.now c.args.code))

pub push-requires-clause-until : goal.push-requires-clause-until
push-requires-clause-until c = λ d. subst (λ n. IsUntil n (mentions_of c.args.mentions.now d)) (omega (arith, c.len.ensures.len)) (c.requires.grown d).until

abbrev pushed : After-push → Mention
pushed c = record { position = c.len.result + 1; beneath = c.in_ok-to_u32.field-0 }

longer : (c : After-push) → IsLonger c.args.mentions.now c.args.code (pushed c) c.push.new.self
longer c = longer-by c.push.result c.args.mentions.now c.push.new.self c.args.code (pushed c) c.push.ensures.pushed c.push.ensures.same

place : (c : After-push) → (pushed c).position ≡ length c.args.entries.now + 1
place c = omega (arith, c.len.ensures.len)

pub returns : goal.returns
returns c =
    let w = (goal.at.returns c).After-push in
    let n = c.first_active.ensures.front in
    let list = mentions_of c.args.mentions.now c.args.code in
    let low : c.in_ok-to_u32.field-0 ≤ length list = omega (arith, c.in_ok-to_u32.ensures, c.count-beneath.ensures, ap length n.1, length-take n.0 list) in
    let first : take c.in_ok-to_u32.field-0 list ≡ c.first_active.result =
    ap (λ k. take k list) (c.in_ok-to_u32.ensures ∙ (c.count-beneath.ensures ∙ ap length n.1)) ∙ (take-again n.0 list ∙ sym n.1) in
    record {
      grown = longer-grown c.args.table c.args.entries.now c.args.from c.args.code (pushed w) c.args.mentions.now c.push.new.self (longer w) (place w) c.requires.grown low (ap positions_of first ∙ c.first_active.ensures.active);
      kept = longer-kept c.args.table c.args.entries.now c.args.from c.args.code (pushed w) c.args.mentions.now c.push.new.self (longer w) (place w);
      others = longer-others c.args.table c.args.entries.now c.args.from c.args.code (pushed w) c.args.mentions.now c.push.new.self (longer w) (place w);
      longer = longer-still c.args.table c.args.entries.now c.args.from c.args.code (pushed w) c.args.mentions.now c.push.new.self (longer w) (place w) (length c.args.entries.now + 1);
      mentioned = ok-weaker c.push.result (AreWith c.args.mentions.now c.args.code (list ++ pushed w ∷ []) c.push.new.self) (c.args.from ≡ length c.args.entries.now + 1 → IsMentionedAt c.args.from (mentions_of c.push.new.self c.args.code)) (λ with here. mentioned-by c.args.mentions.now c.push.new.self c.args.code c.args.from (pushed w) with (place w ∙ sym here)) c.push.ensures.pushed;
    }
