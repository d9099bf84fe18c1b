-- Rows of tables in a page, and lists of labels.
-- Source: HTML, tables, lists and links, and which end tags may be omitted; this project's own
-- form.
-- The code adds each part to the end of a buffer.
use Rattle.std.specs.Prelude.{ℕ, Bool, List, [], ◌∷◌, ◌++◌, codes, flat_map}
use Rattle.proof_pages.specs.Words.{Name, Database, Row}
use Rattle.proof_pages.specs.StepLines.{number_text}
use Rattle.proof_pages.specs.Notations.{expr_html, label_at_html}

-- a link to the row of a step, after a space; the ids of the rows of one table share this prefix
unfoldable pub link_html : List ℕ → ℕ → List ℕ
link_html id_prefix index = codes " <a href=\"#" ++ id_prefix ++ number_text index ++ codes "\">" ++ number_text index ++ codes "</a>"

-- the start of a row, with its id
abbrev pub row_start : List ℕ → ℕ → List ℕ
row_start id_prefix index = codes "<tr id=\"" ++ id_prefix ++ number_text index ++ codes "\"><td>"

-- number, links to the steps taken
abbrev pub number_and_links_html : List ℕ → ℕ → List ℕ → List ℕ
number_and_links_html id_prefix index taken = number_text index ++ codes "<td>" ++ flat_map (link_html id_prefix) taken ++ codes "<td>"

-- label, expression
abbrev pub row_rest : Bool → Database → List Name → List ℕ → ℕ → List ℕ → List ℕ
row_rest linked S names css_classes position expr = label_at_html linked S position ++ codes "<td>" ++ expr_html names css_classes expr ++ codes "\n"

-- number, links to the steps taken, label, expression
abbrev pub step_html : Bool → Database → List Name → List ℕ → List ℕ → ℕ → Row → List ℕ
step_html linked S names css_classes id_prefix index row =
    row_start id_prefix index ++ number_and_links_html id_prefix index row.step.taken ++ row_rest linked S names css_classes row.step.position row.expr

-- the label of the statement at a position as an item of a list
abbrev pub item_html : Bool → Database → ℕ → List ℕ
item_html linked S position = codes "<li>" ++ label_at_html linked S position ++ codes "\n"

-- a list of one label and others
abbrev pub list_html : Bool → Database → ℕ → List ℕ → List ℕ
list_html linked S first others = codes "<ul>\n" ++ item_html linked S first ++ flat_map (item_html linked S) others ++ codes "</ul>\n"
