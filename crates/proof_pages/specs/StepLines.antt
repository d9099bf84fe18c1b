-- The steps of a proof as lines of text.
-- Source: this project's own form.
-- The code adds each part to the end of a buffer.
use Rattle.std.specs.Prelude.{ℕ, suc, ◌+◌, List, [], ◌∷◌, ◌++◌, codes, decimal, flat_map}
use Rattle.proof_pages.specs.Words.{Name, Database, stmt_at, name_at, label_or_empty, Row}

-- the number of the step at an index: indexes count from 0, numbers from 1
abbrev pub number_text : ℕ → List ℕ
number_text index = decimal (index + 1)

abbrev pub comma_and_number : ℕ → List ℕ
comma_and_number index = codes "," ++ number_text index

-- the numbers of the steps that are taken, or `-` if there are none
abbrev pub taken_text : List ℕ → List ℕ
taken_text [] = codes "-"
taken_text (index ∷ indexes) = number_text index ++ flat_map comma_and_number indexes

-- a symbol after a space
abbrev pub symbol_text : List Name → ℕ → List ℕ
symbol_text names symbol = codes " " ++ name_at names symbol

abbrev pub expr_text : List Name → List ℕ → List ℕ
expr_text names expr = flat_map (symbol_text names) expr

-- its number, the numbers of the steps that it takes, the label of the statement that it cites, its
-- expression
abbrev pub step_line : Database → List Name → ℕ → Row → List ℕ
step_line S names index row =
    number_text index ++ codes " " ++ taken_text row.step.taken ++ codes " " ++ label_or_empty (stmt_at S row.step.position) ++ expr_text names row.expr ++ codes "\n"

-- `text` of each element with its index, joined; the first element has this index
abbrev pub concat_texts : {A : Type 0} → (ℕ → A → List ℕ) → ℕ → List A → List ℕ
concat_texts text index [] = []
concat_texts text index (element ∷ elements) = text index element ++ concat_texts text (suc index) elements
