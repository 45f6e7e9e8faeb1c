-- Paint commands: the area of each, and its operation at each point.
use Rattle.std.specs.Prelude.{ℕ, ◌*◌, ◌/◌, ℤ, pos, neg_ℤ, ◌+ℤ◌, ◌-ℤ◌, ◌≤ℤ◌, Bool, true, false, ◌&&◌, if◌then◌else◌, int_lt, List, length, slice_index, unsigned_abs}
use Rattle.tr_base.specs.declared.Point.{Point}
use Rattle.tr_base.specs.declared.Pair.{Pair}
use Rattle.tr_base.specs.declared.Op.{Op}
use Rattle.tr_base.specs.declared.Op.TheVariants.{Transparent, Set}
use Rattle.tr_base.specs.Ops.{opaque}
use Rattle.tr_base.specs.Rects.{Edges, before_shift, meet_of, rect_of, shifted, whole_of}
use Rattle.tr_base.specs.Tiles.{tile_bit}
use Rattle.tr_base.specs.Fonts.{glyph_bit}
use Rattle.tr_base.specs.Pixmaps.{pixmap_at}
use Rattle.tr_paint.specs.declared.paints.Paint.{Paint}
use Rattle.tr_paint.specs.declared.paints.Paint.TheVariants.{Tint, Texture, Pixels, Text, Scroll, Spoil}

-- a coordinate of a paint command is at most 16,384 away from 0
pub record IsNearZero (x : ℤ) : Type 0 where
  pub low : neg_ℤ (pos 16384) ≤ℤ x
  pub high : x ≤ℤ pos 16384

-- both coordinates of a point are near
pub record IsNearPoint (p : Point) : Type 0 where
  pub h : IsNearZero p.h
  pub v : IsNearZero p.v

-- all edges of a rectangle are near
pub record IsNearRect (e : Edges) : Type 0 where
  pub west : IsNearZero e.west
  pub east : IsNearZero e.east
  pub north : IsNearZero e.north
  pub south : IsNearZero e.south

-- all coordinates of a command are near
abbrev pub IsNearPaint : Paint → Type 0
IsNearPaint (Tint clip op) = IsNearRect clip
IsNearPaint (Texture ops clip tile delta) = IsNearRect clip × IsNearPoint delta
IsNearPaint (Pixels clip src delta) = IsNearRect clip × IsNearPoint delta
IsNearPaint (Text ops clip at text) = IsNearRect clip × IsNearPoint at
IsNearPaint (Scroll clip delta) = IsNearRect clip × IsNearPoint delta
IsNearPaint (Spoil clip) = IsNearRect clip

-- the cells of a text of n bytes, each 8 by 8, side by side from a point on
abbrev pub cells_of : Point → ℕ → Edges
cells_of at n = rect_of at.h (at.h +ℤ pos (8 * n)) at.v (at.v +ℤ pos 8)

-- the points that a command can touch: its clip, or the part of the clip in the cells of the command's text, or in its picture
abbrev pub area : Paint → Edges
area (Tint clip op) = clip
area (Texture ops clip tile delta) = clip
area (Pixels clip src delta) = meet_of clip (shifted (whole_of src.size) delta)
area (Text ops clip at text) = meet_of clip (cells_of at (length text))
area (Scroll clip delta) = clip
area (Spoil clip) = clip

-- a command has an area that isn't empty
abbrev pub has_area : Paint → Bool
has_area c = int_lt (area c).west (area c).east

-- the operation of a pair for a bit
abbrev pub chosen : Pair → Bool → Op
chosen ops bit = if bit then ops.one else ops.zero

-- both operations of a pair are opaque
abbrev pub both_opaque : Pair → Bool
both_opaque ops = opaque ops.zero && opaque ops.one

-- the pixels after a command don't depend on those before it
abbrev pub is_opaque : Paint → Bool
is_opaque (Tint clip op) = opaque op
is_opaque (Texture ops clip tile delta) = both_opaque ops
is_opaque (Pixels clip src delta) = true
is_opaque (Text ops clip at text) = both_opaque ops
is_opaque (Scroll clip delta) = false
is_opaque (Spoil clip) = false

-- the bit of a text at a point of its cells, which begin at `at`: a bit of the glyph whose cell has the point
abbrev pub text_bit : List (List ℕ) → Point → List ℕ → Point → Bool
text_bit font at text q =
    let h = unsigned_abs (q.h -ℤ at.h) in
    glyph_bit font (slice_index text (h / 8)) h (unsigned_abs (q.v -ℤ at.v))

-- the operation of a command at a point of its area, for a font; Scroll and Spoil have none
abbrev pub op_at : List (List ℕ) → Paint → Point → Op
op_at font (Tint clip op) q = op
op_at font (Texture ops clip tile delta) q = chosen ops (tile_bit tile (q.h -ℤ delta.h) (q.v -ℤ delta.v))
op_at font (Pixels clip src delta) q = Set (pixmap_at src (before_shift q delta))
op_at font (Text ops clip at text) q = chosen ops (text_bit font at text q)
op_at font (Scroll clip delta) q = Transparent
op_at font (Spoil clip) q = Transparent
