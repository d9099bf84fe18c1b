-- The pages of the index of a database.
-- Source: HTML; this project's own form.
-- The code appends each part to a buffer.
use Rattle.std.specs.Prelude.{ℕ, ◌+◌, ◌-◌, ◌==◌, nat_lt, Bool, true, if◌then◌else◌, List, [], ◌∷◌, ◌++◌, length, codes}
use Rattle.mm_read.specs.Statements.{Database}
use Rattle.markup.specs.IndexItems.{Item}
use Rattle.markup.specs.Links.{page_start}
use Rattle.markup.specs.PagedRows.{all_pages}
use Rattle.markup.specs.Drafts.{IndexState, start, with_items}
use Rattle.markup.specs.Families.{index_file, title, other_link, body_start, body_end}
use Rattle.markup.specs.declared.family.Family.{Family}
use Rattle.markup.specs.declared.family.Family.TheVariants.{OnlyList, Listed, Parts}
use Rattle.markup.specs.declared.pages.IndexPage.{IndexPage}

-- what stands between the title and its heading, and between the title and the navigation
abbrev pub title_start : List ℕ
title_start = codes "</title>\n<link rel=\"stylesheet\" href=\"style.css\">\n</head>\n<body>\n<h1>"

abbrev pub title_html : Family → List ℕ
title_html family = title_start ++ title family ++ codes "</h1>\n"

abbrev pub page_head : Family → List ℕ
page_head family = page_start ++ title family ++ title_html family

-- a link to the page with this number
abbrev pub turn_link : List ℕ → Family → ℕ → List ℕ → List ℕ
turn_link before family number after = codes "<a rel=\"" ++ before ++ index_file family number ++ after

-- links to the previous page and to the next one, if there are such pages
abbrev pub previous_link : Family → ℕ → List ℕ
previous_link family number = if nat_lt 1 number then turn_link (codes "prev\" href=\"") family (number - 1) (codes "\">Previous</a>\n") else []

abbrev pub next_link : Family → ℕ → ℕ → List ℕ
next_link family number count = if nat_lt number count then turn_link (codes "next\" href=\"") family (number + 1) (codes "\">Next</a>\n") else []

abbrev pub turn_links : Family → ℕ → ℕ → List ℕ
turn_links family number count = previous_link family number ++ next_link family number count ++ codes "</p>\n"

-- there are pages besides this one
abbrev pub has_navigation : Family → ℕ → Bool
has_navigation OnlyList count = nat_lt 1 count
has_navigation Listed count = true
has_navigation Parts count = true

abbrev pub navigation : Family → ℕ → ℕ → List ℕ
navigation family number count = if has_navigation family count then codes "<p class=\"legend\">" ++ other_link family ++ turn_links family number count else []

abbrev pub body_html : Family → List ℕ → List ℕ
body_html family rows = body_start family ++ rows ++ body_end family

-- the page with this number, from 1, of `count` pages
abbrev pub page_html : Family → ℕ → ℕ → List ℕ → List ℕ
page_html family number count rows = page_head family ++ navigation family number count ++ body_html family rows

-- a file: its name and its bytes
abbrev pub File : Type 0
File = List ℕ × List ℕ

abbrev pub file_of : IndexPage → File
file_of page = (page.name.items, page.bytes.items)

abbrev pub index_file_of : Family → ℕ → ℕ → List ℕ → File
index_file_of family number count rows = (index_file family number, page_html family number count rows)

-- the pages of a family with these rows, the first of which has this number
abbrev pub family_files : Family → ℕ → ℕ → List (List ℕ) → List File
family_files family number count [] = []
family_files family number count (rows ∷ pages) = index_file_of family number count rows ∷ family_files family (number + 1) count pages

-- the list of statements of a database with so many headings
abbrev pub list_family : ℕ → Family
list_family headings = if headings == 0 then OnlyList else Listed

-- all pages of a family
abbrev pub files_of_family : Family → List (List ℕ) → List File
files_of_family family pages = family_files family 1 (length pages) pages

-- the list of parts, if there are headings
abbrev pub part_files : ℕ → List (List ℕ) → List File
part_files headings pages = if nat_lt 0 headings then files_of_family Parts pages else []

-- the list of statements, and the list of parts
abbrev pub state_files : IndexState → List File
state_files state = files_of_family (list_family state.headings) (all_pages state.rows) ++ part_files state.headings (all_pages state.parts)

-- the pages of the index of a database
abbrev pub index_files : Database → List Bool → List Item → List File
index_files S marks items = state_files (with_items S marks start items)
