-- Sections of a page that list labels; a section without a label is left out.
-- Source: HTML; this project's own form.
-- The code adds each part to the end of a buffer.
use Rattle.std.specs.Prelude.{ℕ, Bool, if◌then◌else◌, List, [], ◌∷◌, ◌++◌, codes}
use Rattle.proof_pages.specs.Words.{Name, Database}
use Rattle.proof_pages.specs.Notations.{expr_html}
use Rattle.proof_pages.specs.TableRows.{list_html}

-- a heading, and the labels of the statements at these positions
abbrev pub section_html : Bool → Database → List ℕ → List ℕ → List ℕ
section_html linked S heading [] = []
section_html linked S heading (position ∷ positions) = heading ++ list_html linked S position positions

-- a collapsed section; `summary` begins it
abbrev pub collapsed_html : Bool → Database → List ℕ → List ℕ → List ℕ
collapsed_html linked S summary [] = []
collapsed_html linked S summary (position ∷ positions) = summary ++ list_html linked S position positions ++ codes "</details>\n"

-- a position as a list, if it is chosen
abbrev pub chosen : Bool → ℕ → List ℕ
chosen choice position = if choice then position ∷ [] else []

-- a group of variables as an item of a list
abbrev pub group_html : List Name → List ℕ → List ℕ → List ℕ
group_html names css_classes group = codes "<li>" ++ expr_html names css_classes group ++ codes "\n"

-- the axioms of the theorem's own typecode, the theorems among them that are not proved, and the
-- axioms of other typecodes
abbrev pub axioms_html : Bool → Database → List ℕ → List ℕ → List ℕ → List ℕ
axioms_html linked S own unproved others =
    section_html linked S (codes "<h2>Axioms that it rests on</h2>\n") own
    ++ section_html linked S (codes "<h2>Theorems that it rests on and that are not proved</h2>\n") unproved
    ++ collapsed_html linked S (codes "<details>\n<summary>Axioms of other typecodes (syntax)</summary>\n") others

-- the theorems that cite the assertion
abbrev pub cited_by_html : Bool → Database → List ℕ → List ℕ
cited_by_html linked S positions = section_html linked S (codes "<h2>Theorems that cite it</h2>\n") positions
