-- The steps of a proof as a graph in the DOT language.
-- Source: the DOT language of Graphviz.
-- The code adds each part to the end of a buffer.
use Rattle.std.specs.Prelude.{ℕ, List, [], ◌∷◌, ◌++◌, codes, flat_map}
use Rattle.proof_pages.specs.Words.{Name, Database, stmt_at, name_at, label_or_empty, Row, quoted_text}
use Rattle.proof_pages.specs.StepLines.{number_text, concat_texts}

abbrev pub quoted_symbol : List Name → ℕ → List ℕ
quoted_symbol names symbol = codes " " ++ quoted_text (name_at names symbol)

-- the symbols of an expression, escaped for quotes and separated by spaces
abbrev pub quoted_expr : List Name → List ℕ → List ℕ
quoted_expr names [] = []
quoted_expr names (symbol ∷ symbols) = quoted_text (name_at names symbol) ++ flat_map (quoted_symbol names) symbols

-- an arrow from a step that is taken to the step at this index
abbrev pub arrow_line : ℕ → ℕ → List ℕ
arrow_line index taken = number_text taken ++ codes " -> " ++ number_text index ++ codes ";\n"

abbrev pub node_line : Database → List Name → ℕ → Row → List ℕ
node_line S names index row =
    number_text index ++ codes " [label=\"" ++ quoted_text (label_or_empty (stmt_at S row.step.position)) ++ codes "\\n" ++ quoted_expr names row.expr ++ codes "\"];\n"

-- a node, and an arrow from each step that it takes
abbrev pub node_text : Database → List Name → ℕ → Row → List ℕ
node_text S names index row = node_line S names index row ++ flat_map (arrow_line index) row.step.taken

abbrev pub graph_header : Name → List ℕ
graph_header label = codes "digraph \"" ++ quoted_text label ++ codes "\" {\n"

abbrev pub graph_text : Database → List Name → Name → List Row → List ℕ
graph_text S names label rows = graph_header label ++ concat_texts (node_text S names) 0 rows ++ codes "}\n"
