-- The rows of the index.
-- Source: HTML, tables, lists and links, and which end tags may be omitted; this project's own
-- form.
-- The code appends each part to a buffer.
use Rattle.std.specs.Prelude.{ℕ, List, ◌++◌, codes, decimal}
use Rattle.mm_lex.specs.Alphabet.{Name}
use Rattle.mm_lex.specs.Words.{spaced}
use Rattle.mm_read.specs.Statements.{Expr}
use Rattle.text.specs.Escapes.{html_text}
use Rattle.markup.specs.Links.{page_link}

-- the start of a row, and in it the kind of an assertion
abbrev pub kind_start : List ℕ → List ℕ
kind_start kind = codes "<tr><td>" ++ kind ++ codes "<td>"

abbrev pub expr_cell : Expr → List ℕ
expr_cell expr = codes "<td>" ++ html_text (spaced expr) ++ codes "\n"

-- the row of an assertion: kind, label as a link to the page of the assertion at this position,
-- expression
abbrev pub assertion_row : List ℕ → Name → Expr → ℕ → List ℕ
assertion_row kind label expr position = kind_start kind ++ page_link label position ++ expr_cell expr

abbrev pub numbered : List ℕ → ℕ → List ℕ
numbered text number = text ++ decimal number

abbrev pub heading_id : ℕ → ℕ → List ℕ
heading_id number level = numbered (codes "<tr id=\"p") number ++ numbered (codes "\" class=\"h") level

abbrev pub heading_cell : List ℕ → List ℕ
heading_cell title = codes "\"><th colspan=\"3\">" ++ html_text title ++ codes "\n"

-- the row of the heading with a number, from 1
abbrev pub heading_row : ℕ → ℕ → List ℕ → List ℕ
heading_row number level title = heading_id number level ++ heading_cell title

-- the start of a link to the row of a heading, which is on a page of the list
abbrev pub list_link : ℕ → ℕ → List ℕ
list_link page number = numbered (codes "\"><a href=\"list.") page ++ numbered (codes ".html#p") number ++ codes "\">"

-- the entry of a heading in the list of parts
abbrev pub part_entry : ℕ → ℕ → ℕ → List ℕ → List ℕ
part_entry page number level title = numbered (codes "<li class=\"h") level ++ list_link page number ++ html_text title ++ codes "</a>\n"
