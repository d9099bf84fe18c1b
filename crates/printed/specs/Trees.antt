-- The texts that the program prints of derivations, and of labels.
-- Source: this project's own forms; a derivation is a tree (Metamath, 4.2.6).
-- The code visits each node once, and appends its line to the answer.
use Rattle.std.specs.Prelude.{ℕ, ◌+◌, List, [], ◌++◌, codes, decimal}
use Rattle.mm_lex.specs.Alphabet.{Name}
use Rattle.mm_read.specs.Statements.{Database}
use Rattle.scope.specs.Active.{stmt_at}
use Rattle.verify.specs.Derivations.{Derivation, Derivations, hyp, apply, none, more}
use Rattle.verify.specs.Proves.{label_or_empty}

-- a label, on a line of its own
abbrev pub label_line : Name → List ℕ
label_line label = label ++ codes "\n"

-- the line of a node of the tree: its depth, a space, and the label of the statement at its
-- position
abbrev pub tree_node_line : Database → ℕ → ℕ → List ℕ
tree_node_line S depth at = decimal depth ++ codes " " ++ label_or_empty (stmt_at S at) ++ codes "\n"

-- a line for each node, parents before children, children in order
abbrev mutual
  pub tree_lines : Database → ℕ → Derivation → List ℕ
  tree_lines S depth (hyp i) = tree_node_line S depth i
  tree_lines S depth (apply a children) = tree_node_line S depth a ++ trees_lines S (depth + 1) children

  pub trees_lines : Database → ℕ → Derivations → List ℕ
  trees_lines S depth none = []
  trees_lines S depth (more t ts) = tree_lines S depth t ++ trees_lines S depth ts
