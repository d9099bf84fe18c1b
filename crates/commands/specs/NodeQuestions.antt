-- Questions about a label, or a pattern, in the library of a node.
-- Source: this project's own form.
-- The code takes the words one after another.
use Rattle.std.specs.Prelude.{ℕ, ◌==◌, ◌&&◌, List, [], ◌∷◌, length, codes, Option, Some, None, option_map, if◌then◌else◌}
use Rattle.std.specs.List.{join_with_byte}
use Rattle.std.specs.Str.{bytes_eq}
use Rattle.commands.specs.declared.line_words.TheConstants.{SPACE}
use Rattle.commands.specs.declared.node_question.LabelQuestionKind.{LabelQuestionKind}
use Rattle.commands.specs.declared.node_question.LabelQuestionKind.TheVariants.{Trace, Tree, Usage, UsageAll, Show, Proof, Find}
use Rattle.commands.specs.declared.node_question.NodeQuestion.{NodeQuestion}
use Rattle.commands.specs.LineWords.{◌>>=◌, Words, first_node, has_no_words}
use Rattle.commands.specs.Texts.{one_word}

-- the kind of question about a label that a verb asks
abbrev pub label_question_kind_of : List ℕ → Option LabelQuestionKind
label_question_kind_of verb =
    if bytes_eq verb (codes "trace") then Some Trace else (
    if bytes_eq verb (codes "tree") then Some Tree else (
    if bytes_eq verb (codes "usage") then Some Usage else (
    if bytes_eq verb (codes "show") then Some Show else (
    if bytes_eq verb (codes "proof") then Some Proof else (
    if bytes_eq verb (codes "find") then Some Find else None)))))

-- who uses a label, and its kind: LABEL, or LABEL all
abbrev pub usage_of : Words → Option (LabelQuestionKind × List ℕ)
usage_of [] = None
usage_of ([] ∷ ws) = None
usage_of ((c ∷ cs) ∷ []) = Some (Usage, c ∷ cs)
usage_of ((c ∷ cs) ∷ word ∷ ws) = if bytes_eq word (codes "all") && has_no_words ws then Some (UsageAll, c ∷ cs) else None

-- a pattern, unless it is empty
abbrev pub pattern_if_any : List ℕ → Option (LabelQuestionKind × List ℕ)
pattern_if_any pattern = if length pattern == 0 then None else Some (Find, pattern)

-- the pattern of `find`: all words that are left
abbrev pub pattern_of : Words → Option (LabelQuestionKind × List ℕ)
pattern_of ws = pattern_if_any (join_with_byte SPACE ws)

-- the kind of a question and its label, or its pattern; only after the label of `usage` another
-- word may follow
abbrev pub asked_of : LabelQuestionKind → Words → Option (LabelQuestionKind × List ℕ)
asked_of Usage ws = usage_of ws
asked_of Find ws = pattern_of ws
asked_of kind ws = option_map (λ label. (kind, label)) (one_word ws)

-- a question of this kind, by its node and label: K LABEL, or K PATTERN
abbrev pub node_question_of : LabelQuestionKind → Words → Option NodeQuestion
node_question_of kind ws = do
  k ← first_node ws
  asked ← asked_of kind k.1
  Some (record { node = k.0; kind = asked.0; label = asked.1 })
