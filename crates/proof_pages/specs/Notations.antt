-- Symbols and labels on a page.
-- Source: HTML, links; this project's own form.
-- The code adds each part to the end of a buffer.
use Rattle.std.specs.Prelude.{ℕ, ◌==◌, Bool, ◌&&◌, if◌then◌else◌, List, [], ◌++◌, codes, decimal, flat_map, get_or, Option, Some, None}
use Rattle.markup.specs.Links.{page_link}
use Rattle.proof_pages.specs.Words.{Name, Stmt, Database, is_assertion, stmt_at, name_at, label_or_empty, html_text}

-- a variable of the first CSS class, and a variable of another class
abbrev pub first_css_class_html : Name → List ℕ
first_css_class_html name = codes "<var>" ++ html_text name ++ codes "</var>"

abbrev pub variable_html : ℕ → Name → List ℕ
variable_html css_class name = codes "<var class=\"k" ++ decimal css_class ++ codes "\">" ++ html_text name ++ codes "</var>"

-- a name in the colour of its CSS class; 0 is no class
abbrev pub coloured : ℕ → Name → List ℕ
coloured css_class name = if css_class == 0 then html_text name else if css_class == 1 then first_css_class_html name else variable_html css_class name

-- a symbol after a space, in the colour of its CSS class
abbrev pub symbol_html : List Name → List ℕ → ℕ → List ℕ
symbol_html names css_classes symbol = codes " " ++ coloured (get_or css_classes symbol 0) (name_at names symbol)

abbrev pub expr_html : List Name → List ℕ → List ℕ → List ℕ
expr_html names css_classes expr = flat_map (symbol_html names css_classes) expr

-- the label of the statement at a position, as a link if it is an assertion and labels are linked
abbrev pub label_html : Bool → ℕ → Stmt → List ℕ
label_html linked position s =
    if linked && is_assertion s then page_link (label_or_empty (Some s)) position else html_text (label_or_empty (Some s))

abbrev pub option_label_html : Bool → ℕ → Option Stmt → List ℕ
option_label_html linked position None = []
option_label_html linked position (Some s) = label_html linked position s

abbrev pub label_at_html : Bool → Database → ℕ → List ℕ
label_at_html linked S position = option_label_html linked position (stmt_at S position)
