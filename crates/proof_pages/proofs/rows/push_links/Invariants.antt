use Rattle.proof_pages.proofs.Words.{◌≡◌, ◌++◌, take, flat_map}
use Rattle.proof_pages.specs.TableRows.{link_html}
use Rattle.proof_pages.proofs.rows.push_links.Given as goal

abbrev pub invariant-loop-index : goal.invariant-loop-index
invariant-loop-index l = l.page.items ≡ l.initial.page.items ++ flat_map (link_html l.id_prefix) (take l.index-index l.indexes)
