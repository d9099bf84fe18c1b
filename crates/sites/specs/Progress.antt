-- The line that says how many pages of a site are written.
-- Source: this project's own form.
-- The code appends each part to a buffer.
use Rattle.std.specs.Prelude.{ℕ, ◌/◌, ◌%◌, ◌==◌, nat_lt, Bool, not, ◌||◌, if◌then◌else◌, List, ◌++◌, codes, decimal}

-- the last three digits of a number
abbrev pub three_digits : ℕ → List ℕ
three_digits n = decimal ((n / 100) % 10) ++ decimal ((n / 10) % 10) ++ decimal (n % 10)

-- a number below 1,000,000,000 with a comma between groups of three digits, of which the last are
-- given for the thousands
abbrev pub grouped_thousands : ℕ → List ℕ
grouped_thousands n = if nat_lt n 1000 then decimal n else decimal (n / 1000) ++ codes "," ++ three_digits (n % 1000)

abbrev pub grouped : ℕ → List ℕ
grouped n = if nat_lt n 1000 then decimal n else grouped_thousands (n / 1000) ++ codes "," ++ three_digits (n % 1000)

abbrev pub progress_line : ℕ → ℕ → List ℕ
progress_line written total = grouped written ++ codes " of " ++ grouped total ++ codes " pages\n"

-- a line is printed at each tenth of at least 5,000 pages, but not at the last one
abbrev pub is_silent : ℕ → ℕ → Bool
is_silent written total = nat_lt total 5000 || not ((written % (total / 10)) == 0) || (written == total)
