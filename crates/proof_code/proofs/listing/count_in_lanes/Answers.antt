use Rattle.proof_code.proofs.ListedLanes.{all-listed, spaces-listed_count, spaces-few}
use Rattle.proof_code.proofs.listing.count_in_lanes.Goals as goal

pub returns-clause-listed : goal.returns-clause-listed
returns-clause-listed c = all-listed c.args.text.now c.requires.room c.type_inv.text c.if-others-ne0.false

pub returns-clause-spaces : goal.returns-clause-spaces
returns-clause-spaces c = spaces-listed_count c.args.text.now c.requires.room

pub returns-clause-few : goal.returns-clause-few
returns-clause-few c = spaces-few c.args.text.now c.requires.room _ (returns-clause-spaces c)
