use Rattle.std.proofs.Common.{refl}
use Rattle.nodes.proofs.BookLemmas.{kept_new}
use Rattle.nodes.proofs.book.Opened.new.Goals as goal

pub open_row-seen-requires : goal.open_row-seen-requires
open_row-seen-requires c = (kept_new 258 refl, λ log. tt, c.alone.ensures.1)
