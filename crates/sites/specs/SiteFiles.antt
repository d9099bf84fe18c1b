-- The files of a site.
-- Source: this project's own form.
-- The code goes over the statements and writes one file after another.
use Rattle.std.specs.Prelude.{◌≡◌, ℕ, suc, Bool, List, [], ◌∷◌, ◌++◌, Option, None, Some, codes}
use Rattle.mm_lex.specs.Alphabet.{Name}
use Rattle.mm_read.specs.Statements.{Database}
use Rattle.mm_read.specs.declared.stmt.Stmt.{Stmt}
use Rattle.mm_read.specs.declared.stmt.Stmt.TheVariants.{Axiom, Prove}
use Rattle.text.specs.FileNames.{file_name}
use Rattle.markup.specs.IndexItems.{items_of}
use Rattle.markup.specs.Pages.{index_files}
use Rattle.proof_pages.specs.declared.style.TheConstants.{STYLE_SHEET}
use Rattle.sites.specs.AssertionPages.{IsPage}

-- the pages of assertions, each by its position and the name of its file, were written, one after
-- another; `is_page` tells which bytes are the page of the assertion at a position, and `writes`
-- relates the folder before and after one write
abbrev pub WritesPages : {F : Type 0} → (F → List ℕ → List ℕ → F → Type 0) → (ℕ → List ℕ → Type 0) → F → List (ℕ × List ℕ) → F → Type 0
WritesPages writes is_page old [] new = old ≡ new
WritesPages {F} writes is_page old (page ∷ pages) new =
    (bytes : List ℕ) × (next : F) × is_page page.0 bytes × writes old page.1 bytes next × WritesPages writes is_page next pages new

-- the position of the assertion with a label, and the name of its page; none without a label
abbrev pub page_file_of_label : ℕ → Option Name → List (ℕ × List ℕ)
page_file_of_label at None = []
page_file_of_label at (Some label) = (at, file_name label at) ∷ []

-- the file of the statement at a position; none if it is not an assertion
abbrev pub page_file : ℕ → Stmt → List (ℕ × List ℕ)
page_file at (Axiom label expr) = (at, file_name label at) ∷ []
page_file at (Prove label expr proof) = (at, file_name label at) ∷ []
page_file at s = []

-- the files of statements, the first of which is at the position `at`
abbrev pub page_files : ℕ → Database → List (ℕ × List ℕ)
page_files at [] = []
page_files at (s ∷ S) = page_file at s ++ page_files (suc at) S

-- these files were written, one after another
abbrev pub WritesFiles : {F : Type 0} → (F → List ℕ → List ℕ → F → Type 0) → F → List (List ℕ × List ℕ) → F → Type 0
WritesFiles writes old [] new = old ≡ new
WritesFiles {F} writes old (file ∷ files) new = (next : F) × writes old file.0 file.1 next × WritesFiles writes next files new

-- after a folder was opened, exactly these files were written, in this order: the style sheet, the
-- page of each assertion of S, and the pages of the index. The text has the headings; the marks
-- tell which theorems are not proved
pub record WritesSite {F : Type 0} (writes : F → List ℕ → List ℕ → F → Type 0) (S : Database) (marks : List Bool) (text : List ℕ) (new : F) : Type 0 where
  pub opened : F
  pub styled : F
  pub paged : F
  pub style : writes opened (codes "style.css") STYLE_SHEET.now styled
  pub pages : WritesPages writes (IsPage S marks text) styled (page_files 1 S) paged
  pub index : WritesFiles writes paged (index_files S marks (items_of text)) new
