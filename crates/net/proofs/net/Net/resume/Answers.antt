use Rattle.net.proofs.Words.{length-map, ◌∙◌}
use Rattle.net.specs.History.{kept_parts_of}
use Rattle.net.proofs.HistoryLemmas.{start_of_world}
use Rattle.net.proofs.net.Net.resume.Goals as goal

pub invariant_of-result : goal.invariant_of-result
invariant_of-result g c = start_of_world g.V.Value.bytes c.args.weights c.args.event_limit c.in_ok-begins.ensures.weights (kept_parts_of c.args.records.items) _ c.in_ok-begins.ensures.begins (length-map c.args.records.items (λ r. r.kept) ∙ c.requires) _ _ _ c.in_ok-begins.ensures.nodes c.new-2.ensures.items c.new.ensures.items

pub returns-clause-world : goal.returns-clause-world
returns-clause-world g c = start_of_world g.V.Value.bytes c.args.weights c.args.event_limit c.in_ok-begins.ensures.weights (kept_parts_of c.args.records.items) _ c.in_ok-begins.ensures.begins (length-map c.args.records.items (λ r. r.kept) ∙ c.requires) _ _ _ c.in_ok-begins.ensures.nodes c.new-2.ensures.items c.new.ensures.items
