use Rattle.questions.proofs.so_far.write_steps.Goals as goal

pub normal_so_far-requires : goal.normal_so_far-requires
normal_so_far-requires g c = (c.requires.0, c.requires.1.stands)

pub steps_so_far-requires : goal.steps_so_far-requires
steps_so_far-requires g c = (c.requires.0, c.requires.1.stands)
