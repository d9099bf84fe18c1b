-- The answers to questions about a label in the library of a node, and which of two nodes is ahead.
-- Source: this project's own forms.
-- The code asks the library, writes the lines of the answer, and counts them.
use Rattle.std.specs.Prelude.{◌≡◌, ℕ, List, Bool, false, true, codes, flat_map, Option}
use Rattle.library.specs.Words.{Name, Database}
use Rattle.library.specs.Queries.{IsTrace, IsUsage, IsTreeOf}
use Rattle.verify.specs.Derivations.{Derivation}
use Rattle.cluster.specs.declared.compare.Ahead.{Ahead}
use Rattle.cluster.specs.declared.compare.Ahead.TheVariants.{First, Same, Second}
use Rattle.commands.specs.declared.node_question.LabelQuestionKind.{LabelQuestionKind}
use Rattle.commands.specs.declared.node_question.LabelQuestionKind.TheVariants.{Find, Proof, Show, Trace, Tree, Usage, UsageAll}
use Rattle.questions.specs.Searches.{ArePatternLines}
use Rattle.questions.specs.Shown.{IsShown}
use Rattle.printed.specs.Counted.{counted_lines_text}
use Rattle.printed.specs.Trees.{label_line, tree_lines}

-- a line of a word and the count of the labels, and a line for each label
abbrev pub labels_text : List ℕ → List Name → List ℕ
labels_text word labels = counted_lines_text word (flat_map label_line labels)

-- the answer to `usage`: the `$p` that cite the statement, or all that rest on it
abbrev pub IsUsageAnswer : Database → Bool → Name → List ℕ → Type 0
IsUsageAnswer S all label text =
    (labels : List Name) × IsUsage S label all labels × (text ≡ labels_text (codes "usage") labels)

-- the answer to the question about the label, of `Find` about the pattern; which description `show`
-- prints and the answer to `proof` are not specified
abbrev pub IsLabelAnswer : Database → LabelQuestionKind → Name → List ℕ → Type 0
IsLabelAnswer S Trace label text =
    (labels : List Name) × IsTrace S label labels × (text ≡ labels_text (codes "trace") labels)
IsLabelAnswer S Usage label text = IsUsageAnswer S false label text
IsLabelAnswer S UsageAll label text = IsUsageAnswer S true label text
IsLabelAnswer S Tree label text =
    (t : Derivation) × IsTreeOf S label t × (text ≡ counted_lines_text (codes "tree") (tree_lines S 0 t))
IsLabelAnswer S Find pattern text =
    (lines : List ℕ) × ArePatternLines S pattern lines × (text ≡ counted_lines_text (codes "find") lines)
IsLabelAnswer S Show label text =
    (description : Option (List ℕ)) × (block : List ℕ) × IsShown S label description block
    × (text ≡ counted_lines_text (codes "show") block)
IsLabelAnswer S Proof label text = Unit {0}

-- the line that says which of two nodes has the library with more statements
abbrev pub ahead_line : Ahead → List ℕ
ahead_line First = codes "first\n"
ahead_line Same = codes "same\n"
ahead_line Second = codes "second\n"
