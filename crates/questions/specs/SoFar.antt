-- The lines after the steps of a proof so far: the results on the stack.
-- Source: this project's form.
use Rattle.std.specs.Prelude.{ℕ, List, ◌++◌, get_or, Option, Some, None, codes, flat_map}
use Rattle.mm_lex.specs.Alphabet.{Name}
use Rattle.steps.specs.Rows.{Row, no_row}
use Rattle.proof_pages.specs.StepLines.{number_text, expr_text}

-- the result of the step at a place of the table
abbrev pub known_line : List Name → List Row → ℕ → List ℕ
known_line names rows place = codes "stack " ++ number_text place ++ expr_text names (get_or rows place no_row).expr ++ codes "\n"

-- a result: a known one by its index in the stack of places, or an unknown one
abbrev pub result_line : List Name → List Row → List ℕ → Option ℕ → List ℕ
result_line names rows places None = codes "stack ?\n"
result_line names rows places (Some index) = known_line names rows (get_or places index 0)

abbrev pub result_lines : List Name → List Row → List ℕ → List (Option ℕ) → List ℕ
result_lines names rows places results = flat_map (result_line names rows places) results
