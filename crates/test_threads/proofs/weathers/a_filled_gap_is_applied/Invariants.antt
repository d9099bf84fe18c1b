use Rattle.test_threads.proofs.weathers.a_filled_gap_is_applied.Given as goal

-- the history that was just opened
abbrev pub ghosts-fills_its_gap : goal.ghosts-fills_its_gap
ghosts-fills_its_gap g a = record { book = a.opened }
