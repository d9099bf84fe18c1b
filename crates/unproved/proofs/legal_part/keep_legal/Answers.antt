use Rattle.unproved.proofs.LegalPartLemmas.{part-legal, part-shaped}
use Rattle.unproved.proofs.legal_part.keep_legal.Goals as goal

pub legal_database-requires-clause-shaped : goal.legal_database-requires-clause-shaped
legal_database-requires-clause-shaped c =
    part-shaped c.args.statements.items c.in_ok-sifter.sifter.kept.items c.close_blocks.new.statements.items c.in_ok-sifter.ensures.kept c.in_ok-open_blocks.ensures.closed c.requires

pub legal_database-requires-clause-legal : goal.legal_database-requires-clause-legal
legal_database-requires-clause-legal c =
    part-legal c.args.statements.items c.in_ok-sifter.sifter.kept.items c.close_blocks.new.statements.items c.in_ok-sifter.ensures.kept c.in_ok-open_blocks.ensures.closed
