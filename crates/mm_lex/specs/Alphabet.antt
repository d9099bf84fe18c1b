-- The bytes of a text, its runs of bytes that are not white, and the tests for symbols and labels.
-- Source: Metamath, 4.1.1 and appendix E.
-- The code goes from one run to the next; here the list of all runs is defined by recursion.
use Rattle.std.specs.Prelude.{ℕ, ◌+◌, ◌-◌, ◌<◌, ◌≤◌, length, IsTrue, Bool, true, false, not, ◌&&◌, ◌||◌, ◌==◌, if◌then◌else◌, List, [], ◌∷◌, take, drop, bytes_eq, codes}
use Rattle.std.specs.Char.{is_ascii_whitespace, is_ascii_graphic, is_ascii_alphanumeric}
use Rattle.std.specs.List.{list_all, list_any}
use Rattle.mm_lex.specs.declared.span.Span.{Span}

-- a name: any list of bytes, such as the bytes of a token
abbrev pub Name : Type 0
Name = List ℕ

-- the white bytes: space, tab, CR, LF, FF
abbrev pub is_white : ℕ → Bool
is_white b = is_ascii_whitespace b

-- the bytes that a token may have: 0x21 to 0x7E
abbrev pub is_visible : ℕ → Bool
is_visible b = is_ascii_graphic b

-- the bytes that a text may have
abbrev pub is_allowed : ℕ → Bool
is_allowed b = is_visible b || is_white b

-- whether two names are the same
abbrev pub name_eq : Name → Name → Bool
name_eq = bytes_eq

-- whether a word before these bytes ends there: they are empty or begin with a white byte
abbrev pub is_empty_or_starts_white : List ℕ → Bool
is_empty_or_starts_white [] = true
is_empty_or_starts_white (b ∷ bytes) = is_white b

-- the runs from offset `at` on, where a visible byte is; `spans` are the runs after that byte. The
-- byte is a run of its own if a white byte or the end of the text follows it (`true`), else the
-- first byte of the first of `spans`
abbrev pub with_byte : ℕ → Bool → List Span → List Span
with_byte at true spans = record { start = at; end = at + 1 } ∷ spans
with_byte at false [] = record { start = at; end = at + 1 } ∷ []
with_byte at false (s ∷ spans) = record { start = at; end = s.end } ∷ spans

-- the maximal runs of bytes that are not white in a text whose first byte has offset `at`
abbrev pub runs_from : ℕ → List ℕ → List Span
runs_from at [] = []
runs_from at (b ∷ bytes) =
    if is_white b then runs_from (at + 1) bytes else with_byte at (is_empty_or_starts_white bytes) (runs_from (at + 1) bytes)

abbrev pub runs : List ℕ → List Span
runs text = runs_from 0 text

-- the bytes of a span
abbrev pub word : List ℕ → Span → Name
word text s = take (s.end - s.start) (drop s.start text)

-- the span lies in the text and has at least one byte, none of them white; it may be part of a
-- longer run
pub record IsPartOfRun (text : List ℕ) (s : Span) : Type 0 where
  pub some : s.start < s.end
  pub within : s.end ≤ length text
  pub visible : IsTrue (list_all (λ b. not (is_white b)) (word text s))

-- whether the name is one of these
abbrev pub has_name : Name → List Name → Bool
has_name x names = list_any (name_eq x) names

-- whether the byte is in the name
abbrev pub has_byte : ℕ → Name → Bool
has_byte b w = list_any (λ c. c == b) w

abbrev pub is_empty : {A : Type 0} → List A → Bool
is_empty [] = true
is_empty (x ∷ xs) = false

-- whether the name is a math symbol or a token of a proof: it has at least one byte, each visible
-- and none `$`, which is byte 36
abbrev pub is_symbol : Name → Bool
is_symbol w = not (is_empty w) && list_all is_visible w && not (has_byte 36 w)

-- the bytes that a label may have: letters, digits, `.`, `-`, `_`
abbrev pub is_label_byte : ℕ → Bool
is_label_byte b = is_ascii_alphanumeric b || has_byte b (codes ".-_")

-- whether the name is a label: at least one byte, each such a byte
abbrev pub is_label : Name → Bool
is_label w = not (is_empty w) && list_all is_label_byte w
