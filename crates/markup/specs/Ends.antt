-- The tokens that end a statement.
-- Source: Metamath, 4.1 and appendix E.
use Rattle.std.specs.Prelude.{Bool, ◌||◌, codes}
use Rattle.mm_lex.specs.Alphabet.{Name, name_eq}

-- whether this token ends a statement; `${` and `$}` are statements of one token
abbrev pub ends_statement : Name → Bool
ends_statement w = name_eq w (codes "$.") || name_eq w (codes "${") || name_eq w (codes "$}")
