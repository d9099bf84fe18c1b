-- A description as HTML.
-- Source: Metamath, 4.4: `~` before a label, backquotes around math symbols, underscores around
-- emphasis.
-- The code goes from word to word.
use Rattle.std.specs.Prelude.{ℕ, Bool, true, false, not, ◌&&◌, if◌then◌else◌, List, [], ◌∷◌, ◌++◌, map, Option, Some, None, codes}
use Rattle.mm_lex.specs.Alphabet.{Name, name_eq, runs, word}
use Rattle.text.specs.Escapes.{html_text}
use Rattle.markup.specs.Links.{page_link}
use Rattle.markup.specs.Roles.{word_html, state_after_word}
use Rattle.markup.specs.declared.byte_roles.State.{State}

-- a word outside code is a `~`
abbrev pub is_tilde : State → Name → Bool
is_tilde state w = not state.is_code && name_eq w (codes "~")

-- a label after a space: as a link if it has a page at a position, else with its `~`
abbrev pub label_html : Option ℕ → Name → List ℕ
label_html (Some position) label = codes " " ++ page_link label position
label_html None label = codes " ~ " ++ html_text label

-- a word of a description; `page_of` says which labels have pages
abbrev pub run_html : (Name → Option ℕ) → State → Name → List ℕ
run_html page_of state w =
    if state.is_before_label then label_html (page_of w) w
    else (if is_tilde state w then [] else codes " " ++ word_html state 32 w)

-- the state after a word
abbrev pub state_after_run : State → Name → State
state_after_run state w =
    if state.is_before_label then record state { is_before_label = false }
    else (if is_tilde state w then record state { is_before_label = true } else state_after_word state 32 w)

-- a `~` without a label, and the ends of code and emphasis that the description does not end
abbrev pub end_html : State → List ℕ
end_html state =
    (if state.is_before_label then codes " ~" else []) ++ (if state.is_code then codes "</code>" else [])
    ++ (if state.is_emphasized then codes "</em>" else [])

-- these words
abbrev pub runs_html : (Name → Option ℕ) → State → List Name → List ℕ
runs_html page_of state [] = end_html state
runs_html page_of state (w ∷ ws) = run_html page_of state w ++ runs_html page_of (state_after_run state w) ws

-- a description
abbrev pub description_html : (Name → Option ℕ) → List ℕ → List ℕ
description_html page_of text =
    runs_html page_of (record { is_code = false; is_emphasized = false; is_before_label = false }) (map (word text) (runs text))
