use Rattle.run_pictures.proofs.Words.{◌≡◌, drop, position_from, posts}
use Rattle.run_pictures.proofs.stumps.row_of_post.Given as goal

abbrev pub invariant-loop-row : goal.invariant-loop-row
invariant-loop-row l = position_from (posts l.number) l.row (drop l.row l.shown) ≡ position_from (posts l.number) 0 l.shown
