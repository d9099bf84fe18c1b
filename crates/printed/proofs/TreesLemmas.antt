-- The lines of a derivation: that of its first node, then those of its children.
use Rattle.printed.proofs.Words.{◌≡◌, ℕ, ◌+◌, List, [], ◌++◌, map, Vec, Global, sym, ◌∙◌, ap, append_assoc, Database, Tree, Apply, derivation_of, from_list, derivation-apply, tree_node_line, tree_lines, trees_lines}
use Rattle.std.proofs.lemmas.List.{append-nil}

-- the lines of a derivation are written when its node's line is, and the lines of all children
-- after it
pub tree_lines_whole : (S : Database) (depth below at : ℕ) (kids : Vec Tree Global) (tree : Tree) (all left : List Tree) (old node new : List ℕ)
    → tree ≡ Apply at kids → all ≡ kids.items → left ≡ [] → below ≡ depth + 1 → node ≡ old ++ tree_node_line S depth at
    → new ++ trees_lines S below (from_list (map derivation_of left)) ≡ node ++ trees_lines S below (from_list (map derivation_of all))
    → new ≡ old ++ tree_lines S depth (derivation_of tree)
tree_lines_whole S depth below at kids tree all left old node new is every none deeper first written =
    let rest : List ℕ = trees_lines S (depth + 1) (from_list (map derivation_of kids.items)) in
    let lines : tree_lines S depth (derivation_of tree) ≡ tree_node_line S depth at ++ rest =
    ap (λ r. tree_lines S depth (derivation_of r)) is ∙ ap (tree_lines S depth) (derivation-apply at kids) in
    sym (append-nil new)
    ∙ (sym (ap (λ ts. new ++ trees_lines S below (from_list (map derivation_of ts))) none)
    ∙ (written
    ∙ (ap (λ d. node ++ trees_lines S d (from_list (map derivation_of all))) deeper
    ∙ (ap (λ ts. node ++ trees_lines S (depth + 1) (from_list (map derivation_of ts))) every
    ∙ (ap (λ n. n ++ rest) first ∙ (append_assoc old (tree_node_line S depth at) rest ∙ ap (λ r. old ++ r) (sym lines)))))))
