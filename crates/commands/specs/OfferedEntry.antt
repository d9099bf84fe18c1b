-- The entries that lines offer.
-- Source: this project's own form.
-- The code copies the text and the authors into the entry.
use Rattle.std.specs.Prelude.{ℕ, ◌+◌, Bool, true, ◌&&◌, nat_lt, List, [], ◌∷◌, length, Option, Some, None, if◌then◌else◌}
use Rattle.library.specs.declared.charter.TheConstants.{MAX_NAMES}
use Rattle.library.specs.declared.entry.Entry.TheVariants.{Text, Charter}
use Rattle.library.specs.Charters.{is_rising}
use Rattle.commands.specs.declared.offered_entry.OfferedEntry.{OfferedEntry}
use Rattle.commands.specs.declared.text_form.TextForm.{TextForm}
use Rattle.text.specs.Numbers.{number_of}
use Rattle.commands.specs.LineWords.{◌>>=◌, Words, first_entry_id}
use Rattle.commands.specs.Texts.{text_in_form}

-- K AUTHOR SERIAL and a text, and how many of the lines that follow are the text
abbrev pub text_offer : TextForm → Words → List (List ℕ) → Option (OfferedEntry × ℕ)
text_offer form ws lines = do
  e ← first_entry_id ws
  t ← text_in_form form e.1 lines
  Some (record { node = (e.0).node; entry = Text (record { author = (e.0).author; serial = (e.0).serial; text = t.0 }) }, t.1)

-- these words as numbers
abbrev pub numbers_of : Words → Option (List ℕ)
numbers_of [] = Some []
numbers_of (w ∷ ws) = do
  n ← number_of w
  ns ← numbers_of ws
  Some (n ∷ ns)

-- whether these numbers can be the authors of a charter (its names): 1 to 64 in rising order
abbrev pub are_charter_authors : List ℕ → Bool
are_charter_authors numbers = nat_lt 0 (length numbers) && nat_lt (length numbers) (MAX_NAMES + 1) && is_rising numbers

-- whether a number is greater than the last one, or there is no last one
abbrev pub rises : Option ℕ → ℕ → Bool
rises None n = true
rises (Some last) n = nat_lt last n

-- the authors that a charter names: 1 to 64 numbers in rising order
abbrev pub charter_authors_of : Words → Option (List ℕ)
charter_authors_of ws = do
  names ← numbers_of ws
  if are_charter_authors names then Some names else None

-- K AUTHOR SERIAL NAME ..
abbrev pub charter_offer : Words → Option OfferedEntry
charter_offer ws = do
  e ← first_entry_id ws
  names ← charter_authors_of e.1
  Some (record { node = (e.0).node; entry = Charter (e.0).author (e.0).serial names })
