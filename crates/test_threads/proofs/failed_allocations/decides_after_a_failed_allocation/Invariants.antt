use Rattle.test_threads.proofs.failed_allocations.decides_after_a_failed_allocation.Given as goal

-- the history that was just opened
abbrev pub ghosts-verdict_of_three_nodes : goal.ghosts-verdict_of_three_nodes
ghosts-verdict_of_three_nodes g a = record { book = a.opened }
