-- The words of a line: a verb, then numbers, nodes, entries by their author and serial number.
-- Source: this project's own form.
-- The code takes one word after another; here a definition returns the value of the first words and
-- the words after them.
use Rattle.std.specs.Prelude.{ℕ, Bool, true, false, List, [], ◌∷◌, Option, Some, None, option_map, option_and_then, nat_lt, if◌then◌else◌}
use Rattle.text.specs.Numbers.{number_of}
use Rattle.commands.specs.Pieces.{split_at}
use Rattle.commands.specs.declared.line_words.TheConstants.{SPACE}
use Rattle.commands.specs.declared.line_words.NodeEntryId.{NodeEntryId}
use Rattle.commands.specs.declared.line_words.NodePair.{NodePair}

-- the option that f gives for the value of o, or none if o is none; a `do` block is made of these,
-- and its `x ← o` is `let x = o?` of Rust
infixl 10 ◌>>=◌
abbrev pub ◌>>=◌ : {A B : Type 0} → Option A → (A → Option B) → Option B
o >>= f = option_and_then f o

-- the words of a line
abbrev pub Words : Type 0
Words = List (List ℕ)

-- the line that `line_of` gives for the first word and the words after it; none if there is no word
abbrev pub by_first_word : {L : Type 0} → (List ℕ → Words → Option L) → Words → Option L
by_first_word line_of [] = None
by_first_word line_of (verb ∷ ws) = line_of verb ws

-- the line of these bytes, whose words are separated by single spaces: its verb is the first word
abbrev pub line_by_first_word : {L : Type 0} → (List ℕ → Words → Option L) → List ℕ → Option L
line_by_first_word line_of line = by_first_word line_of (split_at SPACE line)

-- the first word as a number, and the words after it
abbrev pub first_number : Words → Option (ℕ × Words)
first_number [] = None
first_number (w ∷ ws) = option_map (λ n. (n, ws)) (number_of w)

-- the value, if no word follows it
abbrev pub last_value : {A : Type 0} → A × Words → Option A
last_value (x, []) = Some x
last_value (x, w ∷ ws) = None

-- no word is left
abbrev pub has_no_words : Words → Bool
has_no_words [] = true
has_no_words (w ∷ ws) = false

-- the only word as a number
abbrev pub one_number : Words → Option ℕ
one_number ws = do
  n ← first_number ws
  last_value n

-- the node with a number, or 255 if the number is greater; no cluster has a node 255
abbrev pub node_of : ℕ → ℕ
node_of n = if nat_lt n 256 then n else 255

-- the only word as a node
abbrev pub one_node : Words → Option ℕ
one_node ws = option_map node_of (one_number ws)

-- the first word as a node, and the words after it
abbrev pub first_node : Words → Option (ℕ × Words)
first_node ws = option_map (λ k. (node_of k.0, k.1)) (first_number ws)

-- two nodes: J K
abbrev pub two_nodes : Words → Option NodePair
two_nodes ws = do
  j ← first_node ws
  k ← one_node j.1
  Some (record { first = j.0; second = k })

-- the first three words as a node, an author and a serial number (K AUTHOR SERIAL), and the words
-- after them
abbrev pub first_entry_id : Words → Option (NodeEntryId × Words)
first_entry_id ws = do
  k ← first_number ws
  a ← first_number k.1
  s ← first_number a.1
  Some (record { node = node_of k.0; author = a.0; serial = s.0 }, s.1)

-- the only three words as K AUTHOR SERIAL
abbrev pub one_entry_id : Words → Option NodeEntryId
one_entry_id ws = do
  e ← first_entry_id ws
  last_value e
