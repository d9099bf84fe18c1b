-- Answers of several lines, which begin with their line count, and logs of values that packets
-- carry.
-- Source: this project's own form.
-- The code appends each part to the answer.
use Rattle.std.specs.Prelude.{ℕ, ◌==◌, List, ◌++◌, codes, count_by, decimal, flat_map, Option}
use Rattle.world.specs.declared.carried.Carried.{Carried}
use Rattle.world.specs.Carried.{entry_of}
use Rattle.printed.specs.Printed.{entry_text}

-- the number of line feeds in a text
abbrev pub line_feeds_of : List ℕ → ℕ
line_feeds_of text = count_by (λ b. b == 10) text

-- a line of a word and the count of the lines, and then the lines
abbrev pub counted_lines_text : List ℕ → List ℕ → List ℕ
counted_lines_text word lines = word ++ codes " " ++ decimal (line_feeds_of lines) ++ codes "\n" ++ lines

-- an entry of a log, as a value that packets carry, after a space
abbrev pub spaced_value_text : Option Carried → List ℕ
spaced_value_text v = codes " " ++ entry_text (entry_of v)

-- a log of values that packets carry, on one line with its line feed
abbrev pub carried_log_text : List (Option Carried) → List ℕ
carried_log_text entries = codes "log" ++ flat_map spaced_value_text entries ++ codes "\n"
