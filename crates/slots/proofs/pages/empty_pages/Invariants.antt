use Rattle.slots.proofs.Words.{◌≡◌, ◌*◌, None, replicate, joined, AreFullSize}
use Rattle.slots.proofs.pages.empty_pages.Given as goal

abbrev pub invariant-loop-page : goal.invariant-loop-page
invariant-loop-page g l = AreFullSize l.pages.items × (joined l.pages.items ≡ replicate (256 * l._page) None)
