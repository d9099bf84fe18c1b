-- The history that was just opened.
use Rattle.program.proofs.serve.serve_in.Given as goal

abbrev pub ghosts-serve_lines : goal.ghosts-serve_lines
ghosts-serve_lines g a = record { book = a.opened }

abbrev pub ghosts-serve_lines-2 : goal.ghosts-serve_lines-2
ghosts-serve_lines-2 g a = record { book = a.opened }
