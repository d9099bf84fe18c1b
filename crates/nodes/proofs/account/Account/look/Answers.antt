use Rattle.std.proofs.Common.{subst}
use Rattle.net.specs.Agree.{IsPrefixOf}
use Rattle.nodes.specs.Account.{AccountView}
use Rattle.nodes.proofs.PrefixLemmas.{prefix_trans}
use Rattle.nodes.proofs.account.Account.look.Goals as goal

pub returns-then-self-clause-account : goal.returns-then-self-clause-account
returns-then-self-clause-account g c = subst (λ (a : AccountView). IsPrefixOf a.history c.look-count.new.self) c.self.view_is (prefix_trans c.self.inside.front c.learn.new.self c.look-count.new.self c.learn.ensures.that c.look-count.ensures.seen)

pub returns-else-self-clause-account : goal.returns-else-self-clause-account
returns-else-self-clause-account g c = subst (λ (a : AccountView). IsPrefixOf a.history c.look-count.new.self) c.self.view_is (prefix_trans c.self.inside.front c.learn.new.self c.look-count.new.self c.learn.ensures.that c.look-count.ensures.seen)
