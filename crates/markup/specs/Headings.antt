-- The heading that a comment begins with.
-- Source: the program metamath, which makes its table of contents from such comments.
-- The code goes from word to word.
use Rattle.std.specs.Prelude.{ℕ, ◌==◌, nat_eq, if◌then◌else◌, List, [], ◌∷◌, Option, Some, None, codes}
use Rattle.std.specs.List.{starts_with}
use Rattle.mm_lex.specs.declared.span.Span.{Span}
use Rattle.mm_lex.specs.Alphabet.{Name, runs, word}

-- the level whose four bytes a word begins with, or 0
abbrev pub level_of : Name → ℕ
level_of w =
    if starts_with nat_eq w (codes "####") then 1
    else (if starts_with nat_eq w (codes "#*#*") then 2
    else (if starts_with nat_eq w (codes "=-=-") then 3
    else (if starts_with nat_eq w (codes "-.-.") then 4 else 0)))

-- the span from `start` to the end of the last of these runs before the first one of this level;
-- `end` is the end of the run before them. None if no run has the level
abbrev pub title_to : List ℕ → ℕ → ℕ → ℕ → List Span → Option Span
title_to comment level start end [] = None
title_to comment level start end (r ∷ spans) =
    if level_of (word comment r) == level then Some (record { start = start; end = end }) else title_to comment level start r.end spans

-- the span of the runs before the first one of this level, if there is such a one and it is not the
-- first of all
abbrev pub title_span : List ℕ → ℕ → List Span → Option Span
title_span comment level [] = None
title_span comment level (r ∷ spans) = if level_of (word comment r) == level then None else title_to comment level r.start r.end spans

-- the level, and the title with this span
abbrev pub with_title : List ℕ → ℕ → Option Span → Option (ℕ × List ℕ)
with_title comment level None = None
with_title comment level (Some span) = Some (level, word comment span)

-- the heading of a comment with these runs
abbrev pub heading_in : List ℕ → List Span → Option (ℕ × List ℕ)
heading_in comment [] = None
heading_in comment (r ∷ spans) =
    if level_of (word comment r) == 0 then None
    else with_title comment (level_of (word comment r)) (title_span comment (level_of (word comment r)) spans)

-- the level and the title of the heading that a comment begins with
abbrev pub heading_of : List ℕ → Option (ℕ × List ℕ)
heading_of comment = heading_in comment (runs comment)
