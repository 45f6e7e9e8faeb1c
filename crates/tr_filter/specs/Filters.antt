-- The shapes of the nodes that have one child, and the place of that child.
use Rattle.std.specs.Prelude.{ℕ, ◌+◌, ◌*◌, pos, ◌+ℤ◌, ◌-ℤ◌}
use Rattle.tr_base.specs.declared.shapes.Shapes.{Shapes}
use Rattle.tr_base.specs.declared.sizes.Size.{Size}
use Rattle.tr_base.specs.Rects.{Edges, rect_of}
use Rattle.tr_base.specs.Shapes.{Lengths}
use Rattle.tr_base.specs.Layouts.{longest, stopped}

-- lengths, each greater by the same number
abbrev pub widened : ℕ → Lengths → Lengths
widened by l = record { lo = stopped (l.lo + by); pref = stopped (l.pref + by); hi = stopped (l.hi + by) }

-- a border adds its width on both sides
abbrev pub border_shape : ℕ → Shapes → Shapes
border_shape width child = record {
  across = widened (2 * width) child.across;
  down = widened (2 * width) child.down;
}

-- the lengths all have one value
abbrev pub fixed : ℕ → Lengths
fixed n = record { lo = n; pref = n; hi = n }

-- a node of a fixed size
abbrev pub rigid_shape : Size → Shapes
rigid_shape size = record { across = fixed size.wide; down = fixed size.high }

-- the lengths allow any length, and keep the preferred one
abbrev pub loosened : Lengths → Lengths
loosened l = record { lo = 0; pref = l.pref; hi = longest }

-- a node that moves its child may have any size
abbrev pub translate_shape : Shapes → Shapes
translate_shape child = record { across = loosened child.across; down = loosened child.down }

-- a border leaves its child the rectangle less the width on each side, or the empty one if nothing is left
abbrev pub border_place : Edges → ℕ → Edges
border_place e width =
    rect_of (e.west +ℤ pos width) (e.east -ℤ pos width) (e.north +ℤ pos width) (e.south -ℤ pos width)
