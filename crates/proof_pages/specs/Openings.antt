-- The start of a page.
-- Source: HTML; this project's own form.
-- The code adds each part to the end of a buffer.
use Rattle.std.specs.Prelude.{ℕ, zero, suc, Bool, true, false, if◌then◌else◌, List, [], ◌++◌, codes, Option, Some, None, slice_get}
use Rattle.proof_pages.specs.Words.{Name, Stmt, Prove, Database, stmt_at, html_text}
use Rattle.proof_pages.specs.declared.style.TheConstants.{STYLE_SHEET}
use Rattle.proof_pages.specs.Notations.{label_at_html, expr_html}
use Rattle.markup.specs.Links.{page_start}
use Rattle.markup.specs.Descriptions.{description_html}

abbrev pub title_html : Name → List ℕ
title_html title = html_text title ++ codes "</title>\n"

-- a link to the style sheet of the site, or the style sheet itself
abbrev pub style_html : Bool → List ℕ
style_html linked = if linked then codes "<link rel=\"stylesheet\" href=\"style.css\">\n" else codes "<style>\n" ++ STYLE_SHEET.now ++ codes "</style>\n"

abbrev pub heading_html : Name → List ℕ
heading_html title = codes "</head>\n<body>\n<h1>" ++ html_text title ++ codes "</h1>\n"

-- the head of a page, and its title as a heading
abbrev pub head_html : Name → Bool → List ℕ
head_html title linked = page_start ++ title_html title ++ style_html linked ++ heading_html title

-- the mark of a position, or false
abbrev pub mark_or_false : Option Bool → Bool
mark_or_false None = false
mark_or_false (Some mark) = mark

abbrev pub marked_at : List Bool → ℕ → Bool
marked_at marks zero = false
marked_at marks (suc index) = mark_or_false (slice_get marks index)

-- the kind of a statement, and of the statement at a position; a `$a` that is marked is a theorem
-- that is not proved
abbrev pub kind_of : Option Stmt → List ℕ
kind_of None = codes "Axiom"
kind_of (Some (Prove label expr proof)) = codes "Theorem"
kind_of (Some s) = codes "Axiom"

abbrev pub kind_at : Database → ℕ → Bool → List ℕ
kind_at S at unproved = if unproved then codes "Theorem, not proved" else kind_of (stmt_at S at)

-- the kind and a link to the index
abbrev pub kind_html : List ℕ → List ℕ
kind_html kind = codes "<p class=\"legend\">" ++ kind ++ codes ". <a href=\"index.html\">All statements</a>."

-- a text and the label of the statement at a position, if there is a position
abbrev pub neighbour_html : Bool → Database → List ℕ → Option ℕ → List ℕ
neighbour_html linked S before None = []
neighbour_html linked S before (Some position) = before ++ label_at_html linked S position ++ codes "."

abbrev pub kind_line : Bool → Database → List ℕ → Option ℕ → Option ℕ → List ℕ
kind_line linked S kind previous next =
    kind_html kind ++ neighbour_html linked S (codes " Previous: ") previous ++ neighbour_html linked S (codes " Next: ") next ++ codes "</p>\n"

-- the description, if there is one; `page_of` says which labels have pages
abbrev pub description_part : (Name → Option ℕ) → Option (List ℕ) → List ℕ
description_part page_of None = []
description_part page_of (Some text) = codes "<p class=\"about\">" ++ description_html page_of text ++ codes "</p>\n"

-- the expression of the assertion
abbrev pub expr_part : List Name → List ℕ → List ℕ → List ℕ
expr_part names css_classes expr = codes "<p class=\"expr\">" ++ expr_html names css_classes expr ++ codes "</p>\n"
