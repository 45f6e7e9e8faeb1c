-- Texts in a window, and lines one below the other: each in a strip of the window that is eight points high, in cells of 8 by 8.
use Rattle.std.specs.Prelude.{ℕ, ◌*◌, ◌/◌, pos, neg_ℤ, Bool, if◌then◌else◌, List, [], ◌∷◌, length, slice_index_or, unsigned_abs}
use Rattle.tr_base.specs.declared.Point.{Point}
use Rattle.tr_base.specs.declared.Size.{Size}
use Rattle.tr_base.specs.declared.Op.TheVariants.{Bg}
use Rattle.tr_base.specs.Rects.{Edges, has_point, rect_of}
use Rattle.tr_paint.specs.declared.Paint.{Paint}
use Rattle.tr_paint.specs.declared.Paint.TheVariants.{Tint}
use Rattle.tr_paint.specs.Paints.{cells_of, text_bit}
use Rattle.tr_paint.specs.Traces.{Look}
use Rattle.tr_paint.specs.Batches.{batch_of}
use Rattle.tr_client.specs.Plain.{colour_of}

-- the colour of a point in a text whose cells begin at `at`: foreground for the letters, and background for all other points
abbrev pub text_colour : Look → Point → List ℕ → Point → ℕ
text_colour look at text q = if has_point (cells_of at (length text)) q then colour_of (text_bit look.font at text q) else 0

-- the most lines that a typescript or an editor keeps
abbrev pub most_lines : ℕ
most_lines = 200

-- the number of strips of a window, each with room for a line
abbrev pub room : Size → ℕ
room size = size.high / 8

-- the strip of a point: the number of strips above it
abbrev pub strip_of : Point → ℕ
strip_of q = unsigned_abs q.v / 8

-- the north-west corner of the strip with `above` others above it
abbrev pub begin_of : ℕ → Point
begin_of above = record { h = pos 0; v = pos (8 * above) }

-- a point lies in the cells of a line in this strip
abbrev pub in_cells : ℕ → List ℕ → Point → Bool
in_cells above line q = has_point (cells_of (begin_of above) (length line)) q

-- the colour of a point, given by the line in its strip
abbrev pub line_colour : Look → ℕ → List ℕ → Point → ℕ
line_colour look above line q = text_colour look (begin_of above) line q

-- the colour of a point, given by these lines, one below the other; below the last one all is background
abbrev pub colour_in : Look → List (List ℕ) → Point → ℕ
colour_in look lines q = line_colour look (strip_of q) (slice_index_or lines (strip_of q) []) q

-- the strips of a window that have at least `above` and fewer than `end` others above them
abbrev pub strips_between : Size → ℕ → ℕ → Edges
strips_between size above end = rect_of (pos 0) (pos size.wide) (pos (8 * above)) (pos (8 * end))

-- one line upwards, and one downwards
abbrev pub upwards : Point
upwards = record { h = pos 0; v = neg_ℤ (pos 8) }

abbrev pub downwards : Point
downwards = record { h = pos 0; v = pos 8 }

-- the commands that paint a part of a window with the background
abbrev pub cleared : Edges → List Paint
cleared part = batch_of (Tint part Bg ∷ [])
