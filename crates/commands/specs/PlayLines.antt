-- The lines of a script of `play`.
-- Source: this project's own form.
-- The code takes the words one after another.
use Rattle.std.specs.Prelude.{ℕ, List, codes, Option, Some, None, option_map, if◌then◌else◌}
use Rattle.std.specs.Str.{bytes_eq}
use Rattle.commands.specs.declared.play_line.PlayLine.{PlayLine}
use Rattle.commands.specs.declared.play_line.PlayLine.TheVariants.{Common, Deliver, Apply, Show}
use Rattle.commands.specs.LineWords.{Words, line_by_first_word, one_number, one_node}
use Rattle.commands.specs.declared.text_form.TextForm.{TextForm}
use Rattle.commands.specs.declared.common_line.CommonLine.TheVariants.{Offer}
use Rattle.commands.specs.Texts.{form_by}
use Rattle.commands.specs.CommonLines.{common_line, without_text, text_line_or_else}

-- a line that `serve` does not have
abbrev pub play_only_line : List ℕ → Words → Option PlayLine
play_only_line verb ws =
    if bytes_eq verb (codes "deliver") then option_map (λ n. Deliver n) (one_number ws) else (
    if bytes_eq verb (codes "apply") then option_map (λ k. Apply k) (one_node ws) else (
    if bytes_eq verb (codes "show") then option_map (λ n. Show n) (one_number ws) else None))

-- this line if it is one, else a line that both commands have
abbrev pub line_or_common_line : Option PlayLine → List ℕ → Words → Option PlayLine
line_or_common_line (Some line) verb ws = Some line
line_or_common_line None verb ws = option_map (λ l. Common l) (common_line verb ws)

-- the form of the text that a verb offers
abbrev pub play_text_form : List ℕ → Option TextForm
play_text_form verb = form_by (codes "offer") (codes "offer-lines") (codes "offer-bytes") verb

-- a line that offers no text
abbrev pub play_without_text : List (List ℕ) → List ℕ → Words → Option (PlayLine × ℕ)
play_without_text lines verb ws = without_text (line_or_common_line (play_only_line verb ws) verb ws)

-- the line with a verb and the words after it, given the lines that follow
abbrev pub play_line_by : List (List ℕ) → List ℕ → Words → Option (PlayLine × ℕ)
play_line_by lines verb ws = text_line_or_else (λ o. Common (Offer o)) (play_text_form verb) (play_without_text lines verb ws) ws lines

-- the line of `play` that these bytes are, given the lines that follow, and how many of those are
-- its text
abbrev pub play_line_of : List ℕ → List (List ℕ) → Option (PlayLine × ℕ)
play_line_of line lines = line_by_first_word (play_line_by lines) line
