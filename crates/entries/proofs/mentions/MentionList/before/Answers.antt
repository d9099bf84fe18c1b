use Rattle.entries.proofs.Words.{◌∙◌, ap, sym, subst, take}
use Rattle.entries.specs.Mentions.{AreMentions, before}
use Rattle.entries.proofs.mentions.MentionList.before.Goals as goal

pub count_before-count-requires : goal.count_before-count-requires
count_before-count-requires c = subst AreMentions (sym c.deref.ensures.value) c.self.invariant

pub returns-clause-before : goal.returns-clause-before
returns-clause-before c =
    ap (take c.count_before-count.result) (c.deref-2.ensures.value ∙ sym c.deref.ensures.value) ∙ (c.count_before-count.ensures.first ∙ ap (before c.args.at) (c.deref.ensures.value ∙ c.self.view_is))

pub returns-clause-front : goal.returns-clause-front
returns-clause-front c = (c.count_before-count.result, ap (take c.count_before-count.result) (c.deref-2.ensures.value ∙ c.self.view_is))
