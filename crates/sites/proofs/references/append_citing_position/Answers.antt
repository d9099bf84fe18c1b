use Rattle.sites.proofs.ReferenceWords.{◌-◌, arith}
use Rattle.sites.proofs.PassLemmas.{list-set}
use Rattle.sites.proofs.references.append_citing_position.Goals as goal

pub returns : goal.returns
returns c =
    list-set c.args.cited_by.now (c.args.position - 1) c.index-cited_by-position.result c.push.new.self c.args.at (omega (arith, c.requires.0, c.requires.1)) c.in_ok-push.ensures.items
