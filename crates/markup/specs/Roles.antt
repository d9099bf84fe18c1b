-- What the bytes of a word of a description stand for, and the word as HTML.
-- Source: Metamath, 4.4: backquotes enclose math symbols, and underscores emphasis.
-- The code goes from byte to byte.
use Rattle.std.specs.Prelude.{ℕ, ◌==◌, Bool, true, false, not, ◌&&◌, if◌then◌else◌, List, [], ◌∷◌, ◌++◌, codes}
use Rattle.std.specs.Char.{is_ascii_alphanumeric}
use Rattle.text.specs.Escapes.{html_text}
use Rattle.markup.specs.declared.byte_roles.State.{State}
use Rattle.markup.specs.declared.byte_roles.ByteRole.{ByteRole}
use Rattle.markup.specs.declared.byte_roles.ByteRole.TheVariants.{CodeStart, CodeEnd, EmphasisStart, EmphasisEnd, Itself}

-- an underscore begins emphasis if a letter or digit follows and none precedes; it ends emphasis if
-- none follows
abbrev pub underscore_role : Bool → ℕ → ℕ → ByteRole
underscore_role emphasized before after =
    if emphasized then (if is_ascii_alphanumeric after then Itself else EmphasisEnd)
    else (if not (is_ascii_alphanumeric before) && is_ascii_alphanumeric after then EmphasisStart else Itself)

-- what a byte stands for, between the bytes before and after it; 96 is a backquote and 95 an
-- underscore
abbrev pub role_of : State → ℕ → ℕ → ℕ → ByteRole
role_of state before byte after =
    if byte == 96 then (if state.is_code then CodeEnd else CodeStart)
    else (if (byte == 95) && not state.is_code then underscore_role state.is_emphasized before after else Itself)

-- the state after a byte with this role
abbrev pub state_after : State → ByteRole → State
state_after state CodeStart = record state { is_code = true }
state_after state CodeEnd = record state { is_code = false }
state_after state EmphasisStart = record state { is_emphasized = true }
state_after state EmphasisEnd = record state { is_emphasized = false }
state_after state Itself = state

-- the tag that a byte with this role stands for, or the byte itself, escaped
abbrev pub role_html : ByteRole → ℕ → List ℕ
role_html CodeStart byte = codes "<code>"
role_html CodeEnd byte = codes "</code>"
role_html EmphasisStart byte = codes "<em>"
role_html EmphasisEnd byte = codes "</em>"
role_html Itself byte = html_text (byte ∷ [])

-- the first of these bytes, or a space
abbrev pub first_or_space : List ℕ → ℕ
first_or_space [] = 32
first_or_space (byte ∷ bytes) = byte

-- the bytes after the byte `before`, as HTML
abbrev pub word_html : State → ℕ → List ℕ → List ℕ
word_html state before [] = []
word_html state before (byte ∷ bytes) =
    role_html (role_of state before byte (first_or_space bytes)) byte
    ++ word_html (state_after state (role_of state before byte (first_or_space bytes))) byte bytes

-- the state after these bytes
abbrev pub state_after_word : State → ℕ → List ℕ → State
state_after_word state before [] = state
state_after_word state before (byte ∷ bytes) = state_after_word (state_after state (role_of state before byte (first_or_space bytes))) byte bytes
