use Rattle.entries.proofs.Words.{◌≡◌, ◌∙◌, ap, sym, subst, arith, cond, nat_lt, true, false, lt-ltb, le-ltb, same_Some}
use Rattle.entries.specs.declared.mentions.Mention.{Mention}
use Rattle.entries.specs.Mentions.{AreMentions}
use Rattle.entries.proofs.MentionLemmas.{front-is, last-is, mentions-front}
use Rattle.entries.proofs.mentions.MentionList.pop_after.Goals as goal

pub returns-in_default : goal.returns-in_default
returns-in_default c = λ front m e. absurd (
    let there = last-is c.deref.result.now front m (c.deref.ensures.value ∙ (c.self.view_is ∙ e)) in
    let none = c.in_default.ensures.value in cc
    )

pub returns-then-mention-last : goal.returns-then-mention-last
returns-then-mention-last c = λ front m e.
    let same : c.in-Some.mention.now ≡ m = same_Some _ _ (c.in-Some.ensures.value ∙ last-is c.deref.result.now front m (c.deref.ensures.value ∙ (c.self.view_is ∙ e))) in
    let at = ap (λ (u : Mention). u.position) same in
    let early : nat_lt c.args.last m.position ≡ false = le-ltb c.args.last m.position (omega (arith, at, c.if-mention-last.true)) in
    (sym early, sym (ap (λ b. cond b front c.args.self.now) early))

pub invariant_of-self : goal.invariant_of-self
invariant_of-self c = subst AreMentions (sym (c.give_back.ensures ∙ c.truncate.ensures.items)) (mentions-front c.self.inside.mentions.items _ c.self.invariant)

pub returns : goal.returns
returns c = λ front m e.
    let ms = c.self.inside.mentions in
    let whole = c.self.view_is ∙ e in
    let same : c.in-Some.mention.now ≡ m = same_Some _ _ (c.in-Some.ensures.value ∙ last-is c.deref.result.now front m (c.deref.ensures.value ∙ whole)) in
    let at = ap (λ (u : Mention). u.position) same in
    let late : nat_lt c.args.last m.position ≡ true = lt-ltb c.args.last m.position (omega (arith, at, c.if-mention-last.false)) in (
      sym late,
      c.give_back.ensures ∙ (c.truncate.ensures.items ∙ (front-is ms.items front m c.len.result whole (omega (arith, c.len.ensures, ms.ok.0)) ∙ sym (ap (λ b. cond b front c.args.self.now) late))),
    )
