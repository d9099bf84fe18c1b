use Rattle.sites.proofs.Words.{◌≡◌, take}
use Rattle.sites.proofs.assertion_page.numbers_of.Given as goal

abbrev pub invariant-loop-position : goal.invariant-loop-position
invariant-loop-position l = l.numbers.items ≡ take l.position-index l.positions
