use Rattle.proof_pages.proofs.Words.{◌≡◌, ◌++◌, take, flat_map, item_html}
use Rattle.proof_pages.proofs.rows.push_items.Given as goal

abbrev pub invariant-loop-position : goal.invariant-loop-position
invariant-loop-position l = l.page.items ≡ l.initial.page.items ++ flat_map (item_html l.notation.is_linked l.notation.statements.now) (take l.position-index l.positions)
