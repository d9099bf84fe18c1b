-- The pieces of a text between separators of one byte: the lines of a script, the words of a line.
-- Source: this project's own form.
-- The code cuts off one piece after another; here all are listed at once.
use Rattle.std.specs.Prelude.{ℕ, ◌==◌, List, [], Option, Some, None}
use Rattle.std.specs.List.{slice_split}

-- the pieces of the bytes between separators; one more piece than there are separators
abbrev pub split_at : ℕ → List ℕ → List (List ℕ)
split_at separator bytes = slice_split (λ b. b == separator) bytes

-- the pieces of the bytes that are left; none if the last piece was taken
abbrev pub pieces_left : ℕ → Option (List ℕ) → List (List ℕ)
pieces_left separator None = []
pieces_left separator (Some rest) = split_at separator rest
