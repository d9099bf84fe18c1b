use Rattle.program.proofs.node_answers.label_answer.Goals as goal

pub returns-in-Show : goal.returns-in-Show
returns-in-Show c =
    let labelled = rw c.as_slice-label.ensures at c.shown_answer.ensures in
    rw c.in-Show.is labelled
