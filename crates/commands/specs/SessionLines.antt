-- The lines of a session (`serve --live`), and the end of a text that a line gives on the lines
-- that follow.
-- Source: this project's own form.
-- The code reads a line, then the lines of its text, and then parses all of them.
use Rattle.std.specs.Prelude.{ℕ, Bool, true, false, nat_lt, List, codes, Option, Some, None, option_map, option_and_then, if◌then◌else◌}
use Rattle.std.specs.Str.{bytes_eq}
use Rattle.commands.specs.declared.serve_line.ServeLine.{ServeLine}
use Rattle.commands.specs.declared.session_line.SessionLine.{SessionLine}
use Rattle.commands.specs.declared.session_line.SessionLine.TheVariants.{Serve, Help}
use Rattle.commands.specs.declared.text_form.TextForm.{TextForm}
use Rattle.commands.specs.declared.text_form.TextForm.TheVariants.{Rest, Lines, Bytes}
use Rattle.commands.specs.declared.session_texts.TextEnd.{TextEnd}
use Rattle.commands.specs.declared.session_texts.TextEnd.TheVariants.{AtWord, AfterBytes}
use Rattle.library.specs.declared.submission.TheConstants.{MAX_BYTES}
use Rattle.commands.specs.LineWords.{◌>>=◌, Words, line_by_first_word, first_entry_id, one_number}
use Rattle.commands.specs.Texts.{one_word}
use Rattle.commands.specs.ServeLines.{submit_form, add_form, serve_line_of}

-- `help`, which scripts do not have, or a line that they have
abbrev pub help_or_line : Bool → Option (ServeLine × ℕ) → Option (SessionLine × ℕ)
help_or_line true otherwise = Some (Help, 0)
help_or_line false otherwise = option_map (λ l. (Serve l.0, l.1)) otherwise

-- the line of a session that these bytes are, given the lines that follow, and how many of those
-- are its text
abbrev pub session_line_of : List ℕ → List (List ℕ) → Option (SessionLine × ℕ)
session_line_of line lines = help_or_line (bytes_eq line (codes "help")) (serve_line_of line lines)

-- the first form if there is one, else the other
abbrev pub first_form : Option TextForm → Option TextForm → Option TextForm
first_form (Some form) other = Some form
first_form None other = other

-- where a text ends: at the first line that is a word alone, or at a line feed after a number of
-- bytes
pub data End : Type 0 where
  word : List ℕ → End
  bytes : ℕ → End

-- the end of a text as contracts see it
abbrev pub end_view : TextEnd → End
end_view (AtWord w) = word w.now
end_view (AfterBytes n) = bytes n

-- a number of bytes, if no text that has so many is too long
abbrev pub text_size : ℕ → Option ℕ
text_size n = if nat_lt MAX_BYTES n then None else Some n

-- where a text in this form ends, given the words after its author and serial number; a text on the
-- line ends with the line
abbrev pub end_by : TextForm → Words → Option End
end_by Rest ws = None
end_by Lines ws = option_map (λ w. word w) (one_word ws)
end_by Bytes ws = option_map (λ n. bytes n) (option_and_then text_size (one_number ws))

-- where the text of the line with this verb and these words ends, if the text is on the lines that
-- follow
abbrev pub text_end_by : List ℕ → Words → Option End
text_end_by verb ws = do
  form ← first_form (submit_form verb) (add_form verb)
  e ← first_entry_id ws
  end_by form e.1

-- the end of the text of a line, if the text is on the lines that follow
abbrev pub text_end_of : List ℕ → Option End
text_end_of line = line_by_first_word text_end_by line
