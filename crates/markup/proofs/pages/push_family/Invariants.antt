use Rattle.std.specs.Prelude.{◌≡◌, ◌++◌, map, length}
use Rattle.markup.specs.Pages.{file_of, family_files, files_of_family}
use Rattle.markup.proofs.pages.push_family.Given as goal

abbrev pub invariant-loop-page_rows : goal.invariant-loop-page_rows
invariant-loop-page_rows l =
    map file_of l.pages.items ++ family_files l.family l.number l.count (map (λ v. v.items) l.rest)
    ≡ map file_of l.initial.pages.items ++ files_of_family l.family (map (λ v. v.items) l.rows)

abbrev pub decreases-loop-page_rows : goal.decreases-loop-page_rows
decreases-loop-page_rows l = length l.rest
