-- Rows that are divided into pages of at most 299,000 bytes of rows.
-- Source: this project's choice.
-- The code has a buffer for each page.
use Rattle.std.specs.Prelude.{ℕ, ◌+◌, ◌==◌, Bool, ◌||◌, nat_le, if◌then◌else◌, List, [], ◌∷◌, ◌++◌, length, map}
use Rattle.markup.specs.declared.paged_rows.PagedRows.{PagedRows}

-- the rows of each page but the last, and those of the last
pub record Paged : Type 0 where
  pub full : List (List ℕ)
  pub last : List ℕ

abbrev pub paged_of : PagedRows → Paged
paged_of rows = record { full = map (λ v. v.items) rows.full.items; last = rows.last.items }

-- one page without rows
abbrev pub nothing : Paged
nothing = record { full = []; last = [] }

-- `more` bytes of a row still fit into a page with so many bytes of rows: an empty page takes any
-- row
abbrev pub fits : ℕ → ℕ → Bool
fits bytes more = (bytes == 0) || nat_le (bytes + more) 299000

-- a row at the end of the last page
abbrev pub appended : Paged → List ℕ → Paged
appended pages row = record { full = pages.full; last = pages.last ++ row }

-- a new page without rows
abbrev pub begun : Paged → Paged
begun pages = record { full = pages.full ++ pages.last ∷ []; last = [] }

-- one more row
abbrev pub with_row : Paged → List ℕ → Paged
with_row pages row = if fits (length pages.last) (length row) then appended pages row else appended (begun pages) row

-- the rows of each page
abbrev pub all_pages : Paged → List (List ℕ)
all_pages pages = pages.full ++ pages.last ∷ []
