use Rattle.library.proofs.Words.{arith, length, length-drop, take_rest}
use Rattle.library.proofs.CheckedDatabaseLemmas.{added-after}
use Rattle.library.proofs.checked_database.add_after.Goals as goal

pub returns-clause-added : goal.returns-clause-added
returns-clause-added g c =
    let told = c.requires.adds.1 _ _ _ _ _ _ _ _ _ _ c.add.ensures in
    let e = rw c.len-start.ensures at told.0 in
    added-after c.args.statements.now _ c.requires.checked c.requires.begins c.add.result e

pub returns-clause-rises : goal.returns-clause-rises
returns-clause-rises g c = (c.requires.adds.1 _ _ _ _ _ _ _ _ _ _ c.add.ensures).1.0

pub returns-clause-counted : goal.returns-clause-counted
returns-clause-counted g c =
    let told = c.requires.adds.1 _ _ _ _ _ _ _ _ _ _ c.add.ensures in
    let start = length c.args.tables.now.frames.statements in
    let most = rw (c.len-start.ensures, take_rest c.args.statements.now start) at told.1.1 in
    omega (arith, most, length-drop start c.args.statements.now)
