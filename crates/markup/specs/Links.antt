-- A label as a link to its page.
-- Source: HTML, links; this project's own form.
-- The code appends each part to a buffer.
use Rattle.std.specs.Prelude.{ℕ, List, ◌++◌, codes}
use Rattle.mm_lex.specs.Alphabet.{Name}
use Rattle.text.specs.Escapes.{html_text}
use Rattle.text.specs.FileNames.{file_name}

-- the start of a link to the file of the assertion with this label at this position
unfoldable pub link_start : Name → ℕ → List ℕ
link_start label position = codes "<a href=\"" ++ file_name label position ++ codes "\">"

abbrev pub page_link : Name → ℕ → List ℕ
page_link label position = link_start label position ++ html_text label ++ codes "</a>"

-- the start of a page, up to the text of its title
abbrev pub page_start : List ℕ
page_start = codes "<!DOCTYPE html>\n<html lang=\"en\">\n<head>\n<meta charset=\"utf-8\">\n<meta name=\"viewport\" content=\"width=device-width, initial-scale=1\">\n<title>"
