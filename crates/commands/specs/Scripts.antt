-- The lines of a script, or the number of the first bad line.
-- Source: this project's own form.
-- The code stops at the first bad line, as here; it may return `Memory` in place of the lines,
-- never in place of a bad line.
use Rattle.std.specs.Prelude.{◌≡◌, ℕ, zero, suc, ◌+◌, List, [], ◌∷◌, Option, Some, None, Result, Ok, Err, IsOk, IsSome, Vec}
use Rattle.std.specs.declared.alloc.Global.{Global}
use Rattle.commands.specs.declared.script.LineFault.{LineFault}
use Rattle.commands.specs.declared.script.LineFault.TheVariants.{Bad, Memory as NoMemory}
use Rattle.commands.specs.declared.script.ScriptFault.{ScriptFault}
use Rattle.commands.specs.declared.script.ScriptFault.TheVariants.{BadLine, Memory}
use Rattle.commands.specs.declared.script.TheConstants.{LINE_FEED}
use Rattle.commands.specs.Pieces.{split_at}
use Rattle.commands.specs.RemainingLines.{RemainingLines, IsAdvanced}

-- the result of parsing a line that is `expected` by definition; `None` if it is a bad line
abbrev pub Parses : {A : Type 0} → Option A → Result A LineFault → Type 0
Parses expected (Ok x) = expected ≡ Some x
Parses expected (Err Bad) = expected ≡ None
Parses expected (Err NoMemory) = IsSome expected

-- the same, given the lines after it: `expected` is the line and how many of those lines are its
-- text, and these are taken
abbrev pub ParsesLine : {A : Type 0} → Option (A × ℕ) → RemainingLines → RemainingLines → Result A LineFault → Type 0
ParsesLine {A = A} expected old new (Ok x) = (count : ℕ) × (expected ≡ Some (x, count)) × IsAdvanced count old new
ParsesLine {A = A} expected old new (Err Bad) = expected ≡ None
ParsesLine {A = A} expected old new (Err NoMemory) = (found : A × ℕ) × (expected ≡ Some found) × IsAdvanced found.1 old new

-- a line, and the result of the lines after it
abbrev pub prepended : {L : Type 0} → L → Result (List L) ℕ → Result (List L) ℕ
prepended line (Ok lines) = Ok (line ∷ lines)
prepended line (Err bad) = Err bad

-- the line found, before the result of the lines after its text; if the line is bad, its number
abbrev pub with_line : {L : Type 0} → ℕ → Option (L × ℕ) → (ℕ → Result (List L) ℕ) → Result (List L) ℕ
with_line number None rest = Err number
with_line number (Some found) rest = prepended found.0 (rest found.1)

-- the result of lines numbered from `number`, the first `count` of which are the text of the line
-- before them; empty lines are skipped
abbrev pub script_from : {L : Type 0} → (List ℕ → List (List ℕ) → Option (L × ℕ)) → ℕ → ℕ → List (List ℕ) → Result (List L) ℕ
script_from expected number count [] = Ok []
script_from expected number (suc count) (line ∷ lines) = script_from expected (number + 1) count lines
script_from expected number zero ([] ∷ lines) = script_from expected (number + 1) zero lines
script_from expected number zero ((c ∷ cs) ∷ lines) =
    with_line number (expected (c ∷ cs) lines) (λ count. script_from expected (number + 1) count lines)

-- the lines of a script, or the number of its first bad line; `expected` gives the line that some
-- bytes are, given the lines that follow, and how many of those are its text
abbrev pub script_of : {L : Type 0} → (List ℕ → List (List ℕ) → Option (L × ℕ)) → List ℕ → Result (List L) ℕ
script_of expected script = script_from expected 1 0 (split_at LINE_FEED script)

-- the result of parsing a script that is `expected` by definition: its lines, or the number of the
-- first bad line
abbrev pub ParsesScript : {L : Type 0} → Result (List L) ℕ → Result (Vec L Global) ScriptFault → Type 0
ParsesScript expected (Ok lines) = expected ≡ Ok lines.items
ParsesScript expected (Err (BadLine number)) = expected ≡ Err number
ParsesScript expected (Err Memory) = IsOk expected
