-- An explanation of at most 65,536 bytes: a longer one is cut, and its last line says so.
-- Source: this project's choice.
-- The code keeps no more bytes than are needed to see that there were too many.
use Rattle.std.specs.Prelude.{ℕ, ◌-◌, ◌++◌, List, length, take, codes}

-- the last line of an explanation that is cut
abbrev pub cut_line : List ℕ
cut_line = codes "\n  the explanation is cut here: it has more than 65536 bytes\n"

-- the first of the bytes and that line, 65,536 bytes together
abbrev pub cut_text : List ℕ → List ℕ
cut_text bytes = take (65536 - length cut_line) bytes ++ cut_line
