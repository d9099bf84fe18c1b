use Rattle.test_threads.proofs.gates.gate_two_nodes.Given as goal

-- the history that was just opened
abbrev pub ghosts-two_nodes_wait : goal.ghosts-two_nodes_wait
ghosts-two_nodes_wait g a = record { book = a.opened }
