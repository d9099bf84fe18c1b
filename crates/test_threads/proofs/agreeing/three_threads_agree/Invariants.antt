use Rattle.test_threads.proofs.agreeing.three_threads_agree.Given as goal

-- the history that was just opened
abbrev pub ghosts-agree : goal.ghosts-agree
ghosts-agree g a = record { book = a.opened }
