-- The keeps of the nodes of a folder.
-- Source: this project's own form.
-- The code opens the files of one node after another.
use Rattle.std.specs.Prelude.{◌≡◌, Bool, true, false, List, None, IsSomeAnd}
use Rattle.sqlite_trees.specs.Tree.{Trees}
use Rattle.sqlite_trees.specs.View.{View}
use Rattle.sqlite_value.specs.declared.value.Value.{Value}
use Rattle.file_keep.specs.NodeKeeps.{NodeView}
use Rattle.file_keep.specs.Keeps.{IsDurable}

-- the keep of a node: if the node is damaged it has no file, so that each of its calls fails; else
-- its file is open, and a crash leaves what it says
abbrev pub IsOpened : {V S : Type 0} → (S → View) → (S → Trees → Type 0) → (V → List Value) → Bool → NodeView V S → Type 0
IsOpened view recovers columns true keep = keep ≡ record { open_keep = None; closed = None; failures = 0 }
IsOpened view recovers columns false keep = IsSomeAnd keep.open_keep (λ k. IsDurable view recovers columns k.keep)
