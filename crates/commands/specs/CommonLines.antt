-- The lines that scripts of `play` and of `serve` have in common, by their verb and the words after
-- it.
-- Source: this project's own form.
-- The code takes the words one after another.
use Rattle.std.specs.Prelude.{ℕ, ◌&&◌, List, codes, Option, Some, None, option_map, if◌then◌else◌}
use Rattle.std.specs.Str.{bytes_eq}
use Rattle.commands.specs.declared.common_line.CommonLine.{CommonLine}
use Rattle.commands.specs.declared.common_line.CommonLine.TheVariants.{Offer, Begin, Restart, List as ListLine, Export, Log, State, Status, Why, Ask, Compare, Events}
use Rattle.commands.specs.LineWords.{Words, has_no_words, one_node, one_entry_id, two_nodes}
use Rattle.commands.specs.declared.text_form.TextForm.{TextForm}
use Rattle.commands.specs.declared.node_question.LabelQuestionKind.{LabelQuestionKind}
use Rattle.commands.specs.NodeQuestions.{label_question_kind_of, node_question_of}
use Rattle.commands.specs.declared.offered_entry.OfferedEntry.{OfferedEntry}
use Rattle.commands.specs.OfferedEntry.{text_offer, charter_offer}

-- a question about a whole library or log, about the state of a node or about the history
abbrev pub overview_line : List ℕ → Words → Option CommonLine
overview_line verb ws =
    if bytes_eq verb (codes "list") then option_map (λ k. ListLine k) (one_node ws) else (
    if bytes_eq verb (codes "export") then option_map (λ k. Export k) (one_node ws) else (
    if bytes_eq verb (codes "log") then option_map (λ k. Log k) (one_node ws) else (
    if bytes_eq verb (codes "state") then option_map (λ k. State k) (one_node ws) else (
    if bytes_eq verb (codes "events") && has_no_words ws then Some Events else None))))

-- the lines that offer no entry and name no label
abbrev pub common_line_without_label : List ℕ → Words → Option CommonLine
common_line_without_label verb ws =
    if bytes_eq verb (codes "begin") then option_map (λ k. Begin k) (one_node ws) else (
    if bytes_eq verb (codes "restart") then option_map (λ k. Restart k) (one_node ws) else (
    if bytes_eq verb (codes "status") then option_map (λ e. Status e) (one_entry_id ws) else (
    if bytes_eq verb (codes "why") then option_map (λ e. Why e) (one_entry_id ws) else (
    if bytes_eq verb (codes "compare") then option_map (λ p. Compare p) (two_nodes ws) else overview_line verb ws))))

-- a question about a label, or a line that names none
abbrev pub label_question_or_else : Option LabelQuestionKind → List ℕ → Words → Option CommonLine
label_question_or_else (Some kind) verb ws = option_map (λ q. Ask q) (node_question_of kind ws)
label_question_or_else None verb ws = common_line_without_label verb ws

-- a line that takes none of the lines that follow
abbrev pub without_text : {L : Type 0} → Option L → Option (L × ℕ)
without_text expected = option_map (λ l. (l, 0)) expected

-- a line that gives a text, if the verb gives one; else the line `otherwise`
abbrev pub text_line_or_else : {L : Type 0} → (OfferedEntry → L) → Option TextForm → Option (L × ℕ) → Words → List (List ℕ) → Option (L × ℕ)
text_line_or_else line (Some form) otherwise ws lines = option_map (λ o. (line o.0, o.1)) (text_offer form ws lines)
text_line_or_else line None otherwise ws lines = otherwise

-- a line that offers no text
abbrev pub common_line : List ℕ → Words → Option CommonLine
common_line verb ws =
    if bytes_eq verb (codes "charter") then option_map (λ o. Offer o) (charter_offer ws) else label_question_or_else (label_question_kind_of verb) verb ws
