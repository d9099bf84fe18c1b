use Rattle.test_threads.proofs.weathers.served_by_all.Given as goal

-- the history that was just opened
abbrev pub ghosts-nodes_answer_alike : goal.ghosts-nodes_answer_alike
ghosts-nodes_answer_alike g a = record { book = a.opened }
