-- The families of pages of an index, and the names of their files.
-- Source: this project's choice.
use Rattle.std.specs.Prelude.{ℕ, ◌==◌, Bool, true, false, ◌&&◌, if◌then◌else◌, List, ◌++◌, codes, decimal}
use Rattle.markup.specs.declared.family.Family.{Family}
use Rattle.markup.specs.declared.family.Family.TheVariants.{OnlyList, Listed, Parts}

-- the first page is `index.html`
abbrev pub is_index : Family → Bool
is_index OnlyList = true
is_index Listed = false
is_index Parts = true

abbrev pub stem : Family → List ℕ
stem OnlyList = codes "list."
stem Listed = codes "list."
stem Parts = codes "index."

-- the name of the file of a page
abbrev pub index_file : Family → ℕ → List ℕ
index_file family number = if (number == 1) && is_index family then codes "index.html" else stem family ++ decimal number ++ codes ".html"

abbrev pub title : Family → List ℕ
title OnlyList = codes "All statements"
title Listed = codes "All statements"
title Parts = codes "Parts"

-- a link to the other family, if there is one
abbrev pub other_link : Family → List ℕ
other_link OnlyList = codes ""
other_link Listed = codes "<a href=\"index.html\">Parts</a>\n"
other_link Parts = codes "<a href=\"list.1.html\">All statements</a>\n"

-- what stands before the rows of a page, and after them
abbrev pub list_start : List ℕ
list_start = codes "<table>\n<thead>\n<tr><th>Kind</th><th>Label</th><th>Expression</th></tr>\n</thead>\n<tbody>\n"

abbrev pub body_start : Family → List ℕ
body_start OnlyList = list_start
body_start Listed = list_start
body_start Parts = codes "<ul class=\"parts\">\n"

abbrev pub body_end : Family → List ℕ
body_end OnlyList = codes "</tbody>\n</table>\n</body>\n</html>\n"
body_end Listed = codes "</tbody>\n</table>\n</body>\n</html>\n"
body_end Parts = codes "</ul>\n</body>\n</html>\n"
