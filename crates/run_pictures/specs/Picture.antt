-- The picture of some steps of a run, byte by byte.
-- Source: this project's own form; arrows between lines of processes are Lamport's space-time
-- diagrams (Time, Clocks, and the Ordering of Events, 1978).
-- The code writes the three layers (lines, points, texts) of a row at once.
use Rattle.std.specs.Prelude.{ℕ, zero, suc, ◌+◌, min, max, List, [], ◌∷◌, ◌++◌, Option, Some, None, codes, decimal, flat_map, length, slice_get, if◌then◌else◌}
use Rattle.library.specs.declared.verdict.Verdict.{Verdict}
use Rattle.library.specs.declared.verdict.Verdict.TheVariants.{Added, Nothing, Repeat, Refused}
use Rattle.synod.specs.declared.packet.Packet.{Packet}
use Rattle.text.specs.Escapes.{html_text}
use Rattle.world.specs.declared.carried.Carried.{Carried}
use Rattle.world.specs.WorldView.{WorldView}
use Rattle.run_pictures.specs.declared.step.Act.{Act}
use Rattle.run_pictures.specs.declared.step.Act.TheVariants.{Offer, Begin, Deliver, Restart, Apply}
use Rattle.run_pictures.specs.declared.step.Step.{Step}
use Rattle.run_pictures.specs.declared.stumps.Stump.{Stump}
use Rattle.run_pictures.specs.declared.style.TheConstants.{STYLE}
use Rattle.run_pictures.specs.Posts.{Packets, row_of_post, stumps_of, is_first, numbers_to, titles_to}
use Rattle.run_pictures.specs.Labels.{act_label, packet_label, learned_label, short_numbers}
use Rattle.run_pictures.specs.Elements.{row_y, picture_width, two_numbered, node_element, arrow_element, break_element, stump_element, stump_text, circle_element, row_start, span, span_length}
use Rattle.run_pictures.specs.RunView.{packets_of}

-- a restart breaks the line of its node
abbrev pub break_of : ℕ → ℕ → Act → List ℕ
break_of node row Restart = break_element node row
break_of node row (Offer index) = []
break_of node row Begin = []
break_of node row (Deliver number) = []
break_of node row (Apply slot verdict) = []

-- the arrow of packet n, which is delivered in a row
abbrev pub arrow : List Step → ℕ → ℕ → Option (Packet Carried) → List ℕ
arrow shown row n None = []
arrow shown row n (Some p) = arrow_element p.from (row_of_post n shown) p.to row

-- the arrow of the packet that an act delivers, if it is a delivery
abbrev pub arrow_of : Packets → List Step → ℕ → Act → List ℕ
arrow_of packets shown row (Deliver n) = arrow shown row n (slice_get packets n)
arrow_of packets shown row (Offer index) = []
arrow_of packets shown row Begin = []
arrow_of packets shown row Restart = []
arrow_of packets shown row (Apply slot verdict) = []

-- a stump of a node in a row, for all that go where this one goes; the title names their packets
abbrev pub stump_line : Packets → ℕ → ℕ → List Stump → Stump → List ℕ
stump_line packets node row stumps s = if is_first stumps s then stump_element node row s.to (titles_to packets s.to stumps) else []

-- the lines of the step in a row, which has these stumps
abbrev pub lines_of : Packets → List Step → List Stump → ℕ → Step → List ℕ
lines_of packets shown stumps row s =
    break_of s.node row s.act ++ arrow_of packets shown row s.act ++ flat_map (stump_line packets s.node row stumps) stumps

-- the lines of the step in a row
abbrev pub row_lines : Packets → List Step → ℕ → Step → List ℕ
row_lines packets shown row s = lines_of packets shown (stumps_of packets shown s) row s

-- the look of a point: green for an entry that is added, red for one that is refused
abbrev pub verdict_class : Verdict → List ℕ
verdict_class Added = codes " class=\"y\""
verdict_class (Refused cause) = codes " class=\"x\""
verdict_class Nothing = []
verdict_class Repeat = []

-- the look of the point of an act
abbrev pub act_class : Act → List ℕ
act_class (Apply slot verdict) = verdict_class verdict
act_class (Offer index) = []
act_class Begin = []
act_class (Deliver number) = []
act_class Restart = []

-- the numbers below a stump
abbrev pub stump_numbers : ℕ → ℕ → List Stump → Stump → List ℕ
stump_numbers node row stumps s = if is_first stumps s then stump_text node row s.to (short_numbers (numbers_to s.to stumps)) else []

-- the point of the step in a row, which has these stumps, and their numbers
abbrev pub points_of : List Stump → ℕ → Step → List ℕ
points_of stumps row s = circle_element (act_class s.act) s.node row ++ flat_map (stump_numbers s.node row stumps) stumps

-- the point of the step in a row, and the numbers of its stumps
abbrev pub row_points : Packets → List Step → ℕ → Step → List ℕ
row_points packets shown row s = points_of (stumps_of packets shown s) row s

-- the index in the run of the step in a row, if the picture begins with the step at an index
abbrev pub number_of_row : ℕ → ℕ → ℕ
number_of_row from row = min (from + row) 18446744073709551615

-- the text of the step in a row
abbrev pub row_text : WorldView → ℕ → ℕ → Step → List ℕ
row_text world from row s =
    row_start (number_of_row from row) s.node row ++ html_text (act_label world.history.events s.act)
    ++ span (codes " <tspan class=\"p\">") (packet_label (packets_of world) s.act)
    ++ span (codes " <tspan class=\"k\">") (learned_label s) ++ codes "</text>\n"

-- how many characters the text of a step shows
abbrev pub row_length : WorldView → Step → ℕ
row_length world s =
    min (length (act_label world.history.events s.act) + span_length (packet_label (packets_of world) s.act) + span_length (learned_label s)) 4294967295

-- how many characters the longest text shows
abbrev pub longest_of : WorldView → List Step → ℕ
longest_of world [] = 0
longest_of world (s ∷ ss) = max (row_length world s) (longest_of world ss)

-- what is written for each of some steps, the first of which is in a row
abbrev pub each_row : (ℕ → Step → List ℕ) → ℕ → List Step → List ℕ
each_row written row [] = []
each_row written row (s ∷ ss) = written row s ++ each_row written (row + 1) ss

-- the lines of the nodes below k, down to `bottom`
abbrev pub node_elements : ℕ → ℕ → List ℕ
node_elements bottom zero = []
node_elements bottom (suc k) = node_elements bottom k ++ node_element bottom k

-- the style of a picture, after its height
unfoldable pub style : List ℕ
style = STYLE.now

-- the start of a picture of this width and height
abbrev pub picture_start : ℕ → ℕ → List ℕ
picture_start width height =
    two_numbered (codes "<svg xmlns=\"http://www.w3.org/2000/svg\" width=\"") width (codes "\" height=\"") height ++ style

-- the picture of some steps of a run, which begin at an index, for this many nodes
abbrev pub picture_of : ℕ → WorldView → ℕ → List Step → List ℕ
picture_of nodes world from shown =
    picture_start (picture_width nodes (longest_of world shown)) (row_y (length shown))
    ++ node_elements (row_y (length shown)) nodes
    ++ (each_row (row_lines (packets_of world) shown) 0 shown ++ each_row (row_points (packets_of world) shown) 0 shown
    ++ each_row (row_text world from) 0 shown ++ codes "</svg>\n")
