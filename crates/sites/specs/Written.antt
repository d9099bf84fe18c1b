-- The files written into a folder in memory.
-- Source: this project's choice.
-- The code keeps each as a name and its bytes.
use Rattle.std.specs.Prelude.{ℕ, List, map, string_bytes}
use Rattle.sites.specs.declared.memory_folder.WrittenFile.{WrittenFile}

-- a name and its bytes
abbrev pub File : Type 0
File = List ℕ × List ℕ

-- the name and the bytes of a written file
abbrev pub file_of : WrittenFile → File
file_of f = (string_bytes f.name, f.bytes.items)

-- the names and the bytes of written files
abbrev pub files_of : List WrittenFile → List File
files_of fs = map file_of fs
