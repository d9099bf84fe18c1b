-- Scripts with texts of several lines.
use Rattle.commands.proofs.Words.{◌≡◌, ℕ, List, [], ◌∷◌, codes, Ok, Err, refl, Text, CommonLine, Offer, Begin, Common, script_of, play_line_of, serve_line_of}
use Rattle.commands.specs.declared.serve_line.ServeLine.TheVariants.{Common as ServeCommon}

-- the offer of a text at node 1, by author 7 as number 3
abbrev offers : List ℕ → CommonLine
offers text = Offer (record { node = 1; entry = Text (record { author = 7; serial = 3; text = text }) })

-- the text is the lines up to the word, with empty ones, and the next line follows the word
lines : script_of play_line_of (codes "offer-lines 1 7 3 END\n$( a\n\nEND\nbegin 0\n") ≡ Ok (Common (offers (codes "$( a\n\n")) ∷ Common (Begin 0) ∷ [])
lines = refl

-- the word comes at once, and the script ends with it
no_lines : script_of serve_line_of (codes "submit-lines 1 7 3 END\nEND") ≡ Ok (ServeCommon (offers []) ∷ [])
no_lines = refl

-- the text is a number of bytes, with line feeds among them
bytes : script_of play_line_of (codes "offer-bytes 1 7 3 3\na\nb\nbegin 0") ≡ Ok (Common (offers (codes "a\nb")) ∷ Common (Begin 0) ∷ [])
bytes = refl

no_bytes : script_of serve_line_of (codes "submit-bytes 1 7 3 0\n\n") ≡ Ok (ServeCommon (offers []) ∷ [])
no_bytes = refl

-- if the end of the text is missing, the line that offers the text is a bad line
no_end : script_of play_line_of (codes "begin 0\noffer-lines 1 7 3 END\na\n") ≡ Err 2
no_end = refl

no_word : script_of play_line_of (codes "offer-lines 1 7 3\n\n") ≡ Err 1
no_word = refl

-- .. and so it is if there are too few bytes, or no line feed follows them
too_many : script_of serve_line_of (codes "\nsubmit-bytes 1 7 3 9\na\n") ≡ Err 2
too_many = refl

no_line_feed : script_of play_line_of (codes "offer-bytes 1 7 3 1\nab\n") ≡ Err 1
no_line_feed = refl

at_the_end : script_of play_line_of (codes "offer-bytes 1 7 3 2\nab") ≡ Err 1
at_the_end = refl

no_number : script_of play_line_of (codes "offer-bytes 1 7 3 x\nab\n") ≡ Err 1
no_number = refl

too_great : script_of play_line_of (codes "offer-bytes 1 7 3 18446744073709551616\nab\n") ≡ Err 1
too_great = refl

-- the lines of a text are counted
after_a_text : script_of play_line_of (codes "offer-lines 1 7 3 E\na\nE\nbad\n") ≡ Err 4
after_a_text = refl

after_bytes : script_of serve_line_of (codes "submit-bytes 1 7 3 3\na\nb\nbad\n") ≡ Err 4
after_bytes = refl
