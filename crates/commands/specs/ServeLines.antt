-- The lines of a script of `serve`.
-- Source: this project's own form.
-- The code takes the words one after another.
use Rattle.std.specs.Prelude.{ℕ, ◌&&◌, List, codes, Option, Some, None, option_map, if◌then◌else◌}
use Rattle.std.specs.Str.{bytes_eq}
use Rattle.commands.specs.declared.serve_line.ServeLine.{ServeLine}
use Rattle.commands.specs.declared.serve_line.ServeLine.TheVariants.{Common, Settle, Add, Health, Store}
use Rattle.commands.specs.LineWords.{Words, has_no_words, line_by_first_word, one_entry_id, one_node}
use Rattle.commands.specs.declared.text_form.TextForm.{TextForm}
use Rattle.commands.specs.declared.common_line.CommonLine.TheVariants.{Offer}
use Rattle.commands.specs.Texts.{form_by}
use Rattle.commands.specs.OfferedEntry.{charter_offer}
use Rattle.commands.specs.CommonLines.{common_line, without_text, text_line_or_else}

-- the form of the text that a verb submits
abbrev pub submit_form : List ℕ → Option TextForm
submit_form verb = form_by (codes "submit") (codes "submit-lines") (codes "submit-bytes") verb

-- the form of the text that a verb adds
abbrev pub add_form : List ℕ → Option TextForm
add_form verb = form_by (codes "add") (codes "add-lines") (codes "add-bytes") verb

-- the line without a text that `serve` has and `play` does not
abbrev pub serve_only_line : List ℕ → Words → Option ServeLine
serve_only_line verb ws =
    if bytes_eq verb (codes "settle") then option_map (λ e. Settle e) (one_entry_id ws) else (
    if bytes_eq verb (codes "health") && has_no_words ws then Some Health else (
    if bytes_eq verb (codes "store") then option_map (λ k. Store k) (one_node ws) else None))

-- this line if it is one, else a line that both commands have
abbrev pub line_or_common_line : Option ServeLine → List ℕ → Words → Option ServeLine
line_or_common_line (Some line) verb ws = Some line
line_or_common_line None verb ws = option_map (λ l. Common l) (common_line verb ws)

-- a charter that is added, or another line that gives no text
abbrev pub charter_line_or_else : List ℕ → Words → Option ServeLine
charter_line_or_else verb ws =
    if bytes_eq verb (codes "add-charter") then option_map (λ o. Add o) (charter_offer ws)
    else line_or_common_line (serve_only_line verb ws) verb ws

-- a line that gives no text
abbrev pub serve_without_text : List (List ℕ) → List ℕ → Words → Option (ServeLine × ℕ)
serve_without_text lines verb ws = without_text (charter_line_or_else verb ws)

-- a line that adds a text, or gives none
abbrev pub add_line_or_else : List (List ℕ) → List ℕ → Words → Option (ServeLine × ℕ)
add_line_or_else lines verb ws = text_line_or_else (λ o. Add o) (add_form verb) (serve_without_text lines verb ws) ws lines

-- the line with a verb and the words after it, given the lines that follow
abbrev pub serve_line_by : List (List ℕ) → List ℕ → Words → Option (ServeLine × ℕ)
serve_line_by lines verb ws = text_line_or_else (λ o. Common (Offer o)) (submit_form verb) (add_line_or_else lines verb ws) ws lines

-- the line of `serve` that these bytes are, given the lines that follow, and how many of those are
-- its text
abbrev pub serve_line_of : List ℕ → List (List ℕ) → Option (ServeLine × ℕ)
serve_line_of line lines = line_by_first_word (serve_line_by lines) line
