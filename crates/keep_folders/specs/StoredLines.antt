-- What a node keeps, as a line.
-- Source: this project's own form.
-- The code appends each part to the answer.
use Rattle.std.specs.Prelude.{ℕ, List, [], ◌++◌, Option, Some, None, codes, count_by, decimal, is_some}
use Rattle.synod.specs.Record.{KeptPart}
use Rattle.synod.specs.declared.ballot.Ballot.{Ballot}

-- the bytes of a node's files, the ballot that it promised, at how many slots it accepted an entry,
-- and how it is
abbrev pub kept_line : ℕ → Ballot → ℕ → List ℕ → List ℕ
kept_line bytes promise slots state =
    codes "bytes " ++ decimal bytes ++ codes " promise " ++ decimal promise.round ++ codes "." ++ decimal promise.node
    ++ codes " slots " ++ decimal slots ++ codes " " ++ state ++ codes "\n"

-- the bytes of a damaged node's files, and why it is damaged
abbrev pub damaged_line : ℕ → List ℕ → List ℕ
damaged_line bytes damage = codes "bytes " ++ decimal bytes ++ codes " " ++ damage ++ codes "\n"

-- the number of a node, before what it keeps
abbrev pub node_text : ℕ → List ℕ
node_text k = decimal k ++ codes " "

-- the line of a good node
abbrev pub good_line : {V : Type 0} → ℕ → ℕ → KeptPart V → List ℕ
good_line k bytes kept = node_text k ++ kept_line bytes kept.promise (count_by is_some kept.accepted) (codes "good")

-- why a node is damaged, after the path of its folder; nothing if it is not
abbrev pub damage_text : List ℕ → Option (List ℕ) → List ℕ
damage_text path None = []
damage_text path (Some damage) = path ++ codes ": " ++ damage ++ codes "\n"
