-- The names of the files of assertions, made from their labels.
-- Source: this project's choice; the names of devices are those of Windows.
-- The code appends a name byte by byte; here it is a list.
use Rattle.std.specs.Prelude.{ℕ, ◌+◌, ◌==◌, nat_le, Bool, ◌&&◌, if◌then◌else◌, List, [], ◌∷◌, ◌++◌, length, codes, decimal, flat_map}
use Rattle.std.specs.Char.{is_ascii_uppercase}
use Rattle.mm_lex.specs.Alphabet.{Name, has_name, is_label}

-- an uppercase letter as `+` (43) and its lowercase letter, a dot (46) as `+.`, any other byte
-- unchanged
abbrev pub escaped_byte : ℕ → List ℕ
escaped_byte b = if is_ascii_uppercase b then 43 ∷ (b + 32) ∷ [] else if b == 46 then 43 ∷ b ∷ [] else b ∷ []

-- the label with each byte escaped
abbrev pub escaped : Name → List ℕ
escaped label = flat_map escaped_byte label

-- the labels that, followed by `.html`, would name the list of all assertions or a device of
-- Windows
abbrev pub reserved : List Name
reserved = codes "index" ∷ codes "con" ∷ codes "prn" ∷ codes "aux" ∷ codes "nul" ∷ codes "com0" ∷ codes "com1" ∷ codes "com2" ∷ codes "com3" ∷ codes "com4"
    ∷ codes "com5" ∷ codes "com6" ∷ codes "com7" ∷ codes "com8" ∷ codes "com9" ∷ codes "lpt0" ∷ codes "lpt1" ∷ codes "lpt2" ∷ codes "lpt3" ∷ codes "lpt4"
    ∷ codes "lpt5" ∷ codes "lpt6" ∷ codes "lpt7" ∷ codes "lpt8" ∷ codes "lpt9" ∷ []

-- a `+` if the label is reserved, else nothing
abbrev pub plus_if_reserved : Name → List ℕ
plus_if_reserved label = if has_name label reserved then codes "+" else []

-- whether the file name spells the label: it is a label of at most 100 bytes
abbrev pub is_spelled : Name → Bool
is_spelled label = nat_le (length label) 100 && is_label label

-- the stem (the name without `.html`) that spells the label
abbrev pub label_stem : Name → List ℕ
label_stem label = escaped label ++ plus_if_reserved label

-- the stem made from the position
abbrev pub position_stem : ℕ → List ℕ
position_stem position = codes "+" ++ decimal position

-- the name of the file of the assertion with this label at this position
abbrev pub file_name : Name → ℕ → List ℕ
file_name label position = (if is_spelled label then label_stem label else position_stem position) ++ codes ".html"
