use Rattle.test_threads.proofs.agreeing.a_desk_in_another_thread.Given as goal

-- the history that was just opened
abbrev pub ghosts-adds_from_thread : goal.ghosts-adds_from_thread
ghosts-adds_from_thread g a = record { book = a.opened }
