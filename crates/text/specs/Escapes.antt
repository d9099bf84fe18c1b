-- Bytes of a database, escaped for an HTML page and for a quoted label in the DOT language.
-- Source: HTML, character references; the DOT language of Graphviz, quoted strings, `escString`.
-- The code appends byte by byte; here a text is escaped as a whole.
use Rattle.std.specs.Prelude.{◌≡◌, ℕ, ◌==◌, Bool, true, false, ◌||◌, if◌then◌else◌, List, [], ◌∷◌, ◌++◌, codes, flat_map}

-- whether the byte is `&`, `<`, `>` or `"`
abbrev pub is_markup : ℕ → Bool
is_markup b = b == 38 || (b == 60 || (b == 62 || b == 34))

-- the character reference of one of these four
abbrev pub reference : ℕ → List ℕ
reference b = if b == 38 then codes "&amp;" else if b == 60 then codes "&lt;" else if b == 62 then codes "&gt;" else codes "&quot;"

-- a byte as it is written in a page
abbrev pub html_byte : ℕ → List ℕ
html_byte b = if is_markup b then reference b else b ∷ []

-- a text as it is written in a page
abbrev pub html_text : List ℕ → List ℕ
html_text text = flat_map html_byte text

-- the escaped text reads as the text: each reference as its byte, any byte but these four as itself
pub data ReadsAs : List ℕ → List ℕ → Type 0 where
  reads_none : ReadsAs [] []
  reads_plain : (b : ℕ) (written text : List ℕ) → is_markup b ≡ false → ReadsAs written text → ReadsAs (b ∷ written) (b ∷ text)
  reads_reference : (b : ℕ) (written text : List ℕ) → is_markup b ≡ true → ReadsAs written text → ReadsAs (reference b ++ written) (b ∷ text)

-- a byte as it is written in a quoted label: with a `\` before it if it is `"` or `\`
abbrev pub quoted_byte : ℕ → List ℕ
quoted_byte b = if b == 34 || b == 92 then 92 ∷ b ∷ [] else b ∷ []

-- a text as it is written in a quoted label
abbrev pub quoted_text : List ℕ → List ℕ
quoted_text text = flat_map quoted_byte text
