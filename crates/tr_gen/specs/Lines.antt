-- The line of a round: a command for one of the four windows, or an edit of the tree.
use Rattle.std.specs.Prelude.{ℕ, zero, suc, ◌+◌, ◌==◌, pos, ◌-ℤ◌, if◌then◌else◌, List, [], ◌∷◌, ◌++◌, codes, decimal}
use Rattle.std.specs.Fmt.{signed_decimal}
use Rattle.tr_gen.specs.Draws.{Drawing, ◌>>=◌, give, draw, pick}

-- a number as one more word of a line
abbrev pub number_word : ℕ → List ℕ
number_word n = codes " " ++ decimal n

-- n letters, each of them A or B
abbrev pub letters : ℕ → Drawing (List ℕ)
letters zero = give []
letters (suc n) = do
  before ← letters n
  letter ← pick (codes "AB")
  give (before ++ letter ∷ [])

-- a line of at most 20 letters for the window of lines
abbrev pub text_line : Drawing (List ℕ)
text_line = do
  n ← draw 21
  text ← letters n
  give (if n == 0 then codes "@t line" else codes "@t line " ++ text)

-- the edges of a rectangle: west, east, north, south
abbrev pub drawn_edges : Drawing (List ℕ)
drawn_edges = do
  west ← draw 64
  wide ← draw 32
  north ← draw 64
  high ← draw 32
  give (number_word west ++ number_word (west + wide) ++ number_word north ++ number_word (north + high))

-- a rectangle of one tint for the canvas
abbrev pub rect_line : Drawing (List ℕ)
rect_line = do
  edges ← drawn_edges
  tint ← draw 256
  give (codes "@k rect" ++ edges ++ number_word tint)

-- a rectangle in which the canvas exchanges two pixels
abbrev pub swap_line : Drawing (List ℕ)
swap_line = do
  edges ← drawn_edges
  give (codes "@k swap" ++ edges)

-- the canvas loses its last rectangle
abbrev pub undo_line : Drawing (List ℕ)
undo_line = give (codes "@k undo")

-- a bar of the meter gets a height
abbrev pub bar_line : Drawing (List ℕ)
bar_line = do
  bar ← draw 8
  height ← draw 64
  give (codes "@m bar" ++ number_word bar ++ number_word height)

-- the solid window gets a tint
abbrev pub tint_line : Drawing (List ℕ)
tint_line = do
  tint ← draw 256
  give (codes "@s tint" ++ number_word tint)

-- a coordinate that something is moved to; the least is 32 points before the root's corner
abbrev pub coordinate_word : ℕ → Drawing (List ℕ)
coordinate_word k = do
  n ← draw k
  give (codes " " ++ signed_decimal (pos n -ℤ pos 32))

-- the name of one of the root's four children
abbrev pub child_word : Drawing (List ℕ)
child_word = do
  name ← pick (codes "bkms")
  give (codes " " ++ name ∷ [])

-- a child of the root moves
abbrev pub move_line : Drawing (List ℕ)
move_line = do
  child ← child_word
  h ← coordinate_word 256
  v ← coordinate_word 192
  give (codes "move" ++ child ++ h ++ v)

-- a child of the root moves to the front
abbrev pub lift_line : Drawing (List ℕ)
lift_line = do
  child ← child_word
  give (codes "lift" ++ child)

-- the line of each of the eight kinds
unfoldable pub drawn_line : ℕ → Drawing (List ℕ)
drawn_line kind =
    if kind == 0 then text_line
    else if kind == 1 then rect_line
    else if kind == 2 then swap_line
    else if kind == 3 then undo_line
    else if kind == 4 then bar_line
    else if kind == 5 then tint_line
    else if kind == 6 then move_line
    else lift_line

-- a round draws the kind of its line first
abbrev pub round_line : Drawing (List ℕ)
round_line = do
  kind ← draw 8
  drawn_line kind
