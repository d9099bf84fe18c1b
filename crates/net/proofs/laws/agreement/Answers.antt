use Rattle.net.proofs.OneValue.{ballots_have_one_value}
use Rattle.net.proofs.LaterBallots.{later_ballots_keep_chosen}
use Rattle.net.proofs.ChosenAgree.{chosen_values_agree}
use Rattle.net.proofs.LogsAgree.{log_entries_are_chosen, logs_of_nodes_agree}
use Rattle.net.proofs.Offered.{log_entries_were_offered}
use Rattle.net.proofs.laws.agreement.Goals as goal

pub returns-clause-one_value : goal.returns-clause-one_value
returns-clause-one_value g c = ballots_have_one_value

pub returns-clause-later_value : goal.returns-clause-later_value
returns-clause-later_value g c = later_ballots_keep_chosen

pub returns-clause-chosen : goal.returns-clause-chosen
returns-clause-chosen g c = chosen_values_agree

pub returns-clause-logs_chosen : goal.returns-clause-logs_chosen
returns-clause-logs_chosen g c = log_entries_are_chosen

pub returns-clause-logs_agree : goal.returns-clause-logs_agree
returns-clause-logs_agree g c = logs_of_nodes_agree

pub returns-clause-logs_offered : goal.returns-clause-logs_offered
returns-clause-logs_offered g c = log_entries_were_offered
