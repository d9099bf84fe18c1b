-- The columns of an entry.
-- Source: this project's form.
-- The code reads columns that no entry says as some entry or none, and its caller compares what that
-- writes.
use Rattle.std.specs.Prelude.{◌≡◌, ℕ, ◌+◌, ◌*◌, ◌%◌, ◌<◌, ◌^◌, ◌==◌, List, [], ◌∷◌, ◌++◌, Option, Some, decimal, if◌then◌else◌}
use Rattle.std.specs.Int.{cast_unsigned, w64}
use Rattle.std.specs.List.{AllByRecursion}
use Rattle.sqlite_value.specs.Order.{Row, column}
use Rattle.sqlite_value.specs.declared.value.Value.{Value}
use Rattle.sqlite_value.specs.declared.value.Value.TheVariants.{Null, Int, Real, Text as TextColumn, Blob}
use Rattle.library.specs.Charters.{AreNames}
use Rattle.library.specs.declared.entry.Entry.{Entry}
use Rattle.library.specs.declared.entry.Entry.TheVariants.{Text, Charter}
use Rattle.file_keep.specs.Rows.{number}

-- each number in decimal, with a space behind it
abbrev pub names_text : List ℕ → List ℕ
names_text [] = []
names_text (n ∷ ns) = decimal n ++ 32 ∷ names_text ns

-- author, serial number and text; of a charter NULL in place of the text, and then the authors that
-- it lists
abbrev pub entry_columns : Entry → List Value
entry_columns (Text submission) = number submission.author ∷ number submission.serial ∷ TextColumn submission.text ∷ []
entry_columns (Charter author serial names) = number author ∷ number serial ∷ Null ∷ TextColumn (names_text names) ∷ []

-- the numbers of the entry fit in 64 bits, as the types of the code bound them, and a charter lists
-- authors as its type does
abbrev pub EntryIsInRange : Entry → Type 0
EntryIsInRange (Text submission) = (submission.author < 2 ^ 64) × (submission.serial < 2 ^ 64)
EntryIsInRange (Charter author serial names) = (author < 2 ^ 64) × (serial < 2 ^ 64) × AreNames names × AllByRecursion (λ n. n < 2 ^ 64) names

-- the number in a column, or 0 if it has none
abbrev pub unsigned_in : Value → ℕ
unsigned_in (Int n) = cast_unsigned w64 n
unsigned_in Null = 0
unsigned_in (Real x) = 0
unsigned_in (TextColumn text) = 0
unsigned_in (Blob bytes) = 0

-- the numbers of a text that has digits, and a space behind each number; `value` is the number of
-- the digits read so far, below 2^64
abbrev pub numbers_read : ℕ → List ℕ → List ℕ
numbers_read value [] = []
numbers_read value (c ∷ cs) = if c == 32 then value ∷ numbers_read 0 cs else numbers_read ((value * 10 % 2 ^ 64 + c % 16) % 2 ^ 64) cs

-- what is found is the entry whose columns the row has, if it has those of an entry
abbrev pub IsEntryOf : Row → Option Entry → Type 0
IsEntryOf row found = (entry : Entry) (id : Value) → EntryIsInRange entry → row ≡ id ∷ Null ∷ entry_columns entry → found ≡ Some entry

-- what is found is the charter whose authors the row has, if it has those of a charter
abbrev pub IsCharterOf : Row → ℕ → ℕ → Option Entry → Type 0
IsCharterOf row author serial found = (names : List ℕ) → AreNames names → AllByRecursion (λ n. n < 2 ^ 64) names
    → column row 5 ≡ TextColumn (names_text names) → found ≡ Some (Charter author serial names)
