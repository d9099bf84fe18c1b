use Rattle.sites.proofs.ReferenceWords.{◌++◌, ◌∷◌, [], List, ℕ, ◌∙◌, ap}
use Rattle.sites.proofs.ListLemmas.{has-one, rounds_more}
use Rattle.sites.proofs.collector.Collector.add.Goals as goal

pub invariant_of-self-2 : goal.invariant_of-self-2
invariant_of-self-2 c =
    rounds_more c.self.inside.list.items c.self.inside.last_rounds.items c.push.new.self.items c.record_round.new.last_rounds.items c.self.inside.round c.args.position c.self.invariant c.in_ok-push.ensures.items c.record_round.ensures

pub returns : goal.returns
returns c = has-one c.args.position c.args.self.now c.push.new.self.items (c.in_ok-push.ensures.items ∙ ap (λ (l : List ℕ). l ++ c.args.position ∷ []) c.self.view_is)
