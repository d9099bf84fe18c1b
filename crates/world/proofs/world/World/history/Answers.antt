use Rattle.world.proofs.Words.{subst, WorldView, Headline}
use Rattle.world.proofs.HeadlineLemmas.{headline_of}
use Rattle.world.proofs.world.World.history.Goals as goal

pub returns-clause-headline : goal.returns-clause-headline
returns-clause-headline c = subst (λ (r : WorldView). Headline r.work_limit r.history) c.self.view_is (headline_of c.self.inside.work_limit c.self.inside.net.history (c.history.ensures.agreement c.self.invariant.begins_new))
