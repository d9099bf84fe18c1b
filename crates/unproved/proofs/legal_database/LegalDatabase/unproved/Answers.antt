use Rattle.unproved.proofs.Words.{rules, length, IfOk, AreUnproved}
use Rattle.unproved.proofs.UnprovedLemmas.{found_within}
use Rattle.unproved.proofs.legal_database.LegalDatabase.unproved.Goals as goal

pub returns-clause-within : goal.returns-clause-within
returns-clause-within g c =
    let told : IfOk c.find_unproved.result (λ positions. AreUnproved c.args.self.now 0 (length c.args.self.now) positions.items) = search rules in
    found_within c.args.self.now (length c.args.self.now) c.find_unproved.result told
