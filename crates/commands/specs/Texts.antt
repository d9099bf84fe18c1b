-- The texts that lines give, and how many of the lines that follow are the text.
-- Source: this project's own form.
-- The code takes one line after another, or skips a number of bytes; here a text is taken from all
-- lines that follow.
use Rattle.std.specs.Prelude.{ℕ, ◌+◌, ◌==◌, List, [], ◌∷◌, ◌++◌, take, slice_index, count_by, Option, Some, None, option_map, if◌then◌else◌}
use Rattle.std.specs.List.{join_with_byte}
use Rattle.std.specs.Str.{bytes_eq}
use Rattle.commands.specs.declared.line_words.TheConstants.{SPACE}
use Rattle.commands.specs.declared.script.TheConstants.{LINE_FEED}
use Rattle.commands.specs.declared.text_form.TextForm.{TextForm}
use Rattle.commands.specs.declared.text_form.TextForm.TheVariants.{Rest, Lines, Bytes}
use Rattle.commands.specs.LineWords.{◌>>=◌, Words, last_value, one_number}

-- the form of the text that a verb gives: `rest` on the line, `lines` on lines that follow, `bytes`
-- as a number of bytes
abbrev pub form_by : List ℕ → List ℕ → List ℕ → List ℕ → Option TextForm
form_by rest lines bytes verb =
    if bytes_eq verb rest then Some Rest else (
    if bytes_eq verb lines then Some Lines else (
    if bytes_eq verb bytes then Some Bytes else None))

-- the lines before the first that is the word alone, each with its line feed, and their count
-- together with that line
abbrev pub lines_before : List ℕ → List (List ℕ) → Option (List ℕ × ℕ)
lines_before word [] = None
lines_before word (line ∷ lines) =
    if bytes_eq line word then Some ([], 1) else option_map (λ t. (line ++ LINE_FEED ∷ t.0, t.1 + 1)) (lines_before word lines)

-- the first n bytes, if a line feed follows them, and the count of the lines taken: the line feeds
-- in them, and this one; past the end `slice_index` is 0
abbrev pub first_bytes : ℕ → List ℕ → Option (List ℕ × ℕ)
first_bytes n bytes =
    if slice_index bytes n == LINE_FEED then Some (take n bytes, count_by (λ b. b == LINE_FEED) (take n bytes) + 1) else None

-- the first n bytes of the lines, if a line feed follows them
abbrev pub bytes_before : ℕ → List (List ℕ) → Option (List ℕ × ℕ)
bytes_before n lines = first_bytes n (join_with_byte LINE_FEED lines)

-- the only word that is left, if it is not empty
abbrev pub one_word : Words → Option (List ℕ)
one_word [] = None
one_word ([] ∷ ws) = None
one_word ((c ∷ cs) ∷ ws) = last_value (c ∷ cs, ws)

-- the text that the words give in this form, given the lines that follow, and how many of those it
-- takes
abbrev pub text_in_form : TextForm → Words → List (List ℕ) → Option (List ℕ × ℕ)
text_in_form Rest ws lines = Some (join_with_byte SPACE ws, 0)
text_in_form Lines ws lines = do
  word ← one_word ws
  lines_before word lines
text_in_form Bytes ws lines = do
  n ← one_number ws
  bytes_before n lines
