use Rattle.entries.proofs.Words.{sym, subst}
use Rattle.entries.specs.Mentions.{AreMentions}
use Rattle.entries.proofs.MentionLemmas.{mentions-more}
use Rattle.entries.proofs.mentions.MentionList.push.Goals as goal

pub invariant_of-self-2 : goal.invariant_of-self-2
invariant_of-self-2 c =
    subst AreMentions (sym c.in_ok-push.ensures.items) (mentions-more c.self.inside.mentions.items c.args.mention c.self.invariant (rw c.self.view_is c.requires.linked) (rw c.self.view_is c.requires.until))
