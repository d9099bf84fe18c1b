-- The elements of a picture, and where they are, in pixels from its upper left corner.
-- Source: Scalable Vector Graphics; the layout is this project's own.
-- The code appends each part to a text.
use Rattle.std.specs.Prelude.{ℕ, ◌+◌, ◌-◌, ◌*◌, ◌==◌, nat_lt, if◌then◌else◌, List, [], ◌∷◌, ◌++◌, Option, Some, None, codes, decimal, length}
use Rattle.text.specs.Escapes.{html_text}

-- the x coordinate of the line of node k
abbrev pub column_x : ℕ → ℕ
column_x k = 80 + 200 * k

-- the y coordinate of a row
abbrev pub row_y : ℕ → ℕ
row_y row = 60 + 28 * row

-- the y coordinate at which an arrow begins: in a row, or above the first one
abbrev pub start_y : Option ℕ → ℕ
start_y None = 34
start_y (Some row) = row_y row

-- the x coordinate at which a stump from one node towards another ends
abbrev pub stump_x : ℕ → ℕ → ℕ
stump_x from to = if nat_lt from to then column_x from + 44 * (to - from) else column_x from - 22 - 44 * (from - to)

-- the width of a picture of some nodes whose longest text has this many characters
abbrev pub picture_width : ℕ → ℕ → ℕ
picture_width nodes characters = column_x (nodes - 1) + 7 * characters + 40

-- two numbers, each after some text
unfoldable pub two_numbered : List ℕ → ℕ → List ℕ → ℕ → List ℕ
two_numbered before x between y = before ++ decimal x ++ between ++ decimal y

-- the name of node k, above its line
unfoldable pub node_name : ℕ → ℕ → List ℕ
node_name x k = two_numbered (codes "<text class=\"h\" x=\"") x (codes "\" y=\"22\">node ") k ++ codes "</text>\n"

-- the line of node k, down to `bottom`, and its name
abbrev pub node_element : ℕ → ℕ → List ℕ
node_element bottom k =
    two_numbered (codes "<path class=\"l\" d=\"M") (column_x k) (codes " 34V") bottom ++ codes "\"/>\n" ++ node_name (column_x k) k

-- the bent path of an arrow from a node to itself
abbrev pub arrow_curve : ℕ → ℕ → ℕ → List ℕ
arrow_curve x start end =
    two_numbered (codes "C") (x - 30) (codes " ") start ++ two_numbered (codes " ") (x - 30) (codes " ") end
    ++ two_numbered (codes " ") x (codes " ") end

-- the path of an arrow after its beginning: straight between two nodes, bent from a node to itself
unfoldable pub arrow_path : ℕ → Option ℕ → ℕ → ℕ → List ℕ
arrow_path from start to row =
    if from == to then arrow_curve (column_x to) (start_y start) (row_y row)
    else two_numbered (codes "L") (column_x to) (codes " ") (row_y row)

-- the arrow of a packet from one node to another, posted in a row or above the first one, and
-- delivered in a row
abbrev pub arrow_element : ℕ → Option ℕ → ℕ → ℕ → List ℕ
arrow_element from start to row =
    two_numbered (codes "<path d=\"M") (column_x from) (codes " ") (start_y start) ++ arrow_path from start to row
    ++ codes "\" marker-end=\"url(#a)\"/>\n"

-- a stump from a node in a row towards a node, with a title
abbrev pub stump_element : ℕ → ℕ → ℕ → List ℕ → List ℕ
stump_element node row to title =
    two_numbered (codes "<path class=\"s\" d=\"M") (column_x node) (codes " ") (row_y row)
    ++ two_numbered (codes "L") (stump_x node to) (codes " ") (row_y row + 9)
    ++ codes "\"><title>" ++ html_text title ++ codes "</title></path>\n"

-- words below the end of a stump
abbrev pub stump_text : ℕ → ℕ → ℕ → List ℕ → List ℕ
stump_text node row to words =
    two_numbered (codes "<text class=\"n\" x=\"") (stump_x node to) (codes "\" y=\"") (row_y row + 18)
    ++ codes "\">" ++ words ++ codes "</text>\n"

-- a break of the line of a node
abbrev pub break_element : ℕ → ℕ → List ℕ
break_element node row =
    two_numbered (codes "<path class=\"g\" d=\"M") (column_x node) (codes " ") (row_y row - 8)
    ++ two_numbered (codes "v16\"/>\n<path class=\"b\" d=\"M") (column_x node - 7) (codes " ") (row_y row - 8)
    ++ two_numbered (codes "h14M") (column_x node - 7) (codes " ") (row_y row + 8) ++ codes "h14\"/>\n"

-- the point of a node in a row, with an attribute of its own
abbrev pub circle_element : List ℕ → ℕ → ℕ → List ℕ
circle_element class node row =
    codes "<circle" ++ class ++ two_numbered (codes " cx=\"") (column_x node) (codes "\" cy=\"") (row_y row)
    ++ codes "\" r=\"4\"/>\n"

-- the number of a row at the left, and the start of its text
abbrev pub row_start : ℕ → ℕ → ℕ → List ℕ
row_start number node row =
    two_numbered (codes "<text class=\"r\" x=\"40\" y=\"") (row_y row + 4) (codes "\">") number
    ++ two_numbered (codes "</text>\n<text x=\"") (column_x node + 10) (codes "\" y=\"") (row_y row + 4) ++ codes "\">"

-- words in the text of a row, after what begins their style; nothing if there are no words
abbrev pub span : List ℕ → List ℕ → List ℕ
span start [] = []
span start (b ∷ bs) = start ++ html_text (b ∷ bs) ++ codes "</tspan>"

-- how many characters words in the text of a row show, with a space before them
abbrev pub span_length : List ℕ → ℕ
span_length [] = 0
span_length (b ∷ bs) = 1 + length (b ∷ bs)
