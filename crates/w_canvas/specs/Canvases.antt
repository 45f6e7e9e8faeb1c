-- Windows with figures that lie one over the other in the order of drawing; the last one can be removed.
use Rattle.std.specs.Prelude.{ℕ, ◌-◌, ◌<◌, ◌≤◌, ◌^◌, ◌==◌, ◌&&◌, pos, ◌+ℤ◌, Bool, nat_lt, if◌then◌else◌, List, [], ◌∷◌, ◌++◌, length, take, map, slice_get, Option, Some, None, codes, decimal}
use Rattle.std.specs.Fmt.{signed_decimal}
use Rattle.std.specs.List.{All, fold}
use Rattle.tr_base.specs.declared.Point.{Point}
use Rattle.tr_base.specs.declared.Size.{Size}
use Rattle.tr_base.specs.declared.Event.{Event}
use Rattle.tr_base.specs.declared.Event.TheVariants.{Mouse, Key}
use Rattle.tr_base.specs.declared.Click.{Click}
use Rattle.tr_base.specs.declared.Click.TheVariants.{FirstDown}
use Rattle.tr_base.specs.declared.Kind.{Kind}
use Rattle.tr_base.specs.declared.Op.{Op}
use Rattle.tr_base.specs.declared.Op.TheVariants.{Bg, Set, Exchange as Exchanged}
use Rattle.tr_base.specs.Layouts.{longest}
use Rattle.tr_base.specs.Ops.{eff}
use Rattle.tr_base.specs.Rects.{Edges, between, has_point, meet_of, rect_of, whole_of}
use Rattle.tr_paint.specs.declared.Paint.{Paint}
use Rattle.tr_paint.specs.declared.Paint.TheVariants.{Tint}
use Rattle.tr_paint.specs.Traces.{Look}
use Rattle.tr_paint.specs.Batches.{batch_of}
use Rattle.w_canvas.specs.declared.canvases.Figure.{Figure}
use Rattle.w_canvas.specs.declared.commands.CanvasCmd.{CanvasCmd}
use Rattle.w_canvas.specs.declared.commands.CanvasCmd.TheVariants.{Rect, Exchange, Undo}
use Rattle.w_canvas.specs.Areas.{IsArea}

-- the most figures of a canvas
abbrev pub most_figures : ℕ
most_figures = 64

-- a figure sets its points to a byte, or exchanges two bytes
abbrev pub IsFigureOp : Op → Type 0
IsFigureOp (Set n) = n < 2 ^ 8
IsFigureOp (Exchanged a b) = (a < 2 ^ 8) × (b < 2 ^ 8)
IsFigureOp op = ⊥

-- the numbers of a figure are in range
pub record IsFigure (f : Figure) : Type 0 where
  pub area : IsArea f.area
  pub op : IsFigureOp f.op

-- there is room for the figures, and the numbers of each are in range
pub record IsCanvas (figures : List Figure) : Type 0 where
  pub most : length figures ≤ most_figures
  pub each : All IsFigure figures

-- a rectangle whose points are set to a tint
abbrev pub filled : Edges → ℕ → Figure
filled area tint = record { area = area; op = Set tint }

-- a rectangle in which two pixel values are exchanged
abbrev pub exchanging : Edges → ℕ → ℕ → Figure
exchanging area a b = record { area = area; op = Exchanged a b }

-- the numbers of a command are those of a figure
abbrev pub IsCanvasCmd : CanvasCmd → Type 0
IsCanvasCmd (Rect area tint) = IsFigure (filled area tint)
IsCanvasCmd (Exchange area a b) = IsFigure (exchanging area a b)
IsCanvasCmd Undo = Unit {0}

-- the edges of a rectangle in a script: west, east, north, south
abbrev pub edge_words : Edges → List ℕ
edge_words e =
    signed_decimal e.west ++ codes " " ++ signed_decimal e.east
    ++ codes " " ++ signed_decimal e.north ++ codes " " ++ signed_decimal e.south

-- the words of an exchange in a script: the exchange of 0 and 1 has a word of its own
abbrev pub exchange_words : Edges → ℕ → ℕ → List ℕ
exchange_words area a b =
    if a == 0 && b == 1 then codes "swap " ++ edge_words area
    else codes "exchange " ++ edge_words area ++ codes " " ++ decimal a ++ codes " " ++ decimal b

-- the words of a command in a script
abbrev pub canvas_words : CanvasCmd → List ℕ
canvas_words (Rect area tint) = codes "rect " ++ edge_words area ++ codes " " ++ decimal tint
canvas_words (Exchange area a b) = exchange_words area a b
canvas_words Undo = codes "undo"

-- the effect of a figure on the pixel of a point: it changes the points in its rectangle
abbrev pub drawn_over : Kind → Point → ℕ → Figure → ℕ
drawn_over kind q old f = if has_point f.area q then eff kind f.op old else old

-- the background, and over it each figure in its order
abbrev pub canvas_pic : Look → Size → List Figure → Point → ℕ
canvas_pic look size figures q = fold (drawn_over look.kind q) 0 figures

-- a figure over all others, if there is room for it
abbrev pub with_figure : List Figure → Figure → List Figure
with_figure figures f = if nat_lt (length figures) most_figures then figures ++ f ∷ [] else figures

-- the figures without the last
abbrev pub without_last : List Figure → List Figure
without_last figures = take (length figures - 1) figures

-- a command draws a figure over all others, or removes the last one
abbrev pub canvas_next : List Figure → CanvasCmd → List Figure
canvas_next figures (Rect area tint) = with_figure figures (filled area tint)
canvas_next figures (Exchange area a b) = with_figure figures (exchanging area a b)
canvas_next figures Undo = without_last figures

-- the command that paints a figure's points in a part of the window
abbrev pub figure_paint : Edges → Figure → Paint
figure_paint part f = Tint (meet_of part f.area) f.op

-- the commands that paint a part of the picture: the background, and over it each figure that lies there
abbrev pub canvas_paints : Edges → List Figure → List Paint
canvas_paints part figures = batch_of (Tint part Bg ∷ map (figure_paint part) figures)

-- a new figure is painted over the picture, if there is room for it
abbrev pub with_patch : Size → List Figure → Figure → List Paint
with_patch size figures f =
    if nat_lt (length figures) most_figures then batch_of (figure_paint (whole_of size) f ∷ []) else []

-- the rectangle of a removed figure is painted anew with the remaining figures
abbrev pub gone_patch : Size → List Figure → Option Figure → List Paint
gone_patch size left None = []
gone_patch size left (Some f) = canvas_paints (meet_of (whole_of size) f.area) left

-- the last figure is removed, if there is one
abbrev pub undo_patch : Size → List Figure → List Paint
undo_patch size figures = gone_patch size (without_last figures) (slice_get figures (length figures - 1))

-- a command paints the figure that it draws, or the figures under the one that it removes
abbrev pub canvas_patch : Look → Size → List Figure → CanvasCmd → List Paint
canvas_patch look size figures (Rect area tint) = with_patch size figures (filled area tint)
canvas_patch look size figures (Exchange area a b) = with_patch size figures (exchanging area a b)
canvas_patch look size figures Undo = undo_patch size figures

-- a point of the greatest window
abbrev pub is_drawable : Point → Bool
is_drawable at = between (pos 0) (pos longest) at.h && between (pos 0) (pos longest) at.v

-- the two by two points from a point on
abbrev pub square_at : Point → Edges
square_at at = rect_of at.h (at.h +ℤ pos 2) at.v (at.v +ℤ pos 2)

-- the number of the backspace key
abbrev pub backspace : ℕ
backspace = 8

-- the first button that goes down draws a small square at its point
abbrev pub click_answer : Click → Point → Option CanvasCmd
click_answer FirstDown at = if is_drawable at then Some (Rect (square_at at) 1) else None
click_answer click at = None

-- the backspace key removes the last figure
abbrev pub key_answer : ℕ → Option CanvasCmd
key_answer code = if code == backspace then Some Undo else None

-- the command that an event asks for
abbrev pub canvas_answer : List Figure → Event → Option CanvasCmd
canvas_answer figures (Mouse time click button at) = click_answer click at
canvas_answer figures (Key time code) = key_answer code
canvas_answer figures event = None

-- the number of figures in decimal
abbrev pub canvas_value : List Figure → List ℕ
canvas_value figures = decimal (length figures)

-- the points in both windows
abbrev pub canvas_keeps : List Figure → Size → Size → Edges
canvas_keeps figures from to = meet_of (whole_of from) (whole_of to)
