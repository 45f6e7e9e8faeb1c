-- The deeds of paint commands at a point of a window, and the colour of the point after them, if it is known.
use Rattle.std.specs.Prelude.{ℕ, Bool, if◌then◌else◌, List, [], ◌∷◌, Option, Some, None}
use mathlib.Core.List.{reverse}
use Rattle.std.specs.Option.{option_map}
use Rattle.tr_base.specs.declared.Point.{Point}
use Rattle.tr_base.specs.declared.Kind.{Kind}
use Rattle.tr_base.specs.declared.Op.{Op}
use Rattle.tr_base.specs.Ops.{eff}
use Rattle.tr_base.specs.Rects.{before_shift, has_point}
use Rattle.tr_paint.specs.declared.paints.Paint.{Paint}
use Rattle.tr_paint.specs.declared.paints.Paint.TheVariants.{Scroll, Spoil}
use Rattle.tr_paint.specs.Paints.{area, is_opaque, op_at}

-- the two inputs of the picture besides the commands: the kind of the pixels, and the glyphs of the font
pub record Look : Type 0 where
  pub kind : Kind
  pub font : List (List ℕ)

-- the look of a kind and a font
abbrev pub look_of : Kind → List (List ℕ) → Look
look_of kind font = record { kind = kind; font = font }

-- the effect of one command at one point
pub data Deed : Type 0 where
  -- keeps its pixel
  Keep : Deed
  -- makes its pixel unknown
  Lose : Deed
  -- gives it the pixel of another point
  From : Point → Deed
  -- gives it a pixel, whatever it was
  Value : ℕ → Deed
  -- applies an operation to its pixel
  Change : Op → Deed

-- the deed of a command at a point of its area: an opaque command gives a pixel, and another one changes the old pixel
abbrev pub deed_within : Look → Paint → Point → Deed
deed_within look (Scroll clip delta) q = From (before_shift q delta)
deed_within look (Spoil clip) q = Lose
deed_within look c q = if is_opaque c then Value (eff look.kind (op_at look.font c q) 0) else Change (op_at look.font c q)

-- the deed of a command at a point: a point outside its area keeps its pixel
abbrev pub deed : Look → Paint → Point → Deed
deed look c q = if has_point (area c) q then deed_within look c q else Keep

-- the state before the commands: the visible points, and the pixels of the known ones
pub record Base : Type 0 where
  pub visible : Point → Bool
  pub known : Point → Option ℕ

-- the colour of a point after a deed, from the colours before it
abbrev pub after_deed : Kind → Deed → (Point → Option ℕ) → Point → Option ℕ
after_deed kind Keep before q = before q
after_deed kind Lose before q = None
after_deed kind (From r) before q = before r
after_deed kind (Value x) before q = Some x
after_deed kind (Change op) before q = option_map (eff kind op) (before q)

-- the colour of a point, if it is known, traced back through commands, the last one first; a point that isn't visible is never known
abbrev pub trace : Look → Base → List Paint → Point → Option ℕ
trace look base [] q = if base.visible q then base.known q else None
trace look base (c ∷ before) q = if base.visible q then after_deed look.kind (deed look c q) (trace look base before) q else None

-- the colour of a point after the commands of a batch, in their order
abbrev pub after : Look → Base → List Paint → Point → Option ℕ
after look base batch q = trace look base (reverse batch) q

-- the base for the commands after a batch: the points that are known after it
abbrev pub left_by : Look → Base → List Paint → Base
left_by look base batch = record { visible = base.visible; known = λ q. after look base batch q }
