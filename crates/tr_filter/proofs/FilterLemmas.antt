-- Where a border leaves its child.
use Rattle.std.proofs.Common.{◌≡◌, ℕ, pos, ◌+ℤ◌, ◌-ℤ◌, arith}
use Rattle.std.proofs.lemmas.Int.{ints}
use Rattle.tr_base.specs.Rects.{Edges, empty_rect}
use Rattle.tr_base.specs.Layouts.{IsPartOf}
use Rattle.tr_base.proofs.LayoutLemmas.{part-rect_of, part_of_empty}
use Rattle.tr_filter.specs.Filters.{border_place}

-- a border leaves a part of the node's rectangle
pub border_part : (e : Edges) (width : ℕ) → IsPartOf (border_place e width) e
border_part e width =
    part-rect_of e (e.west +ℤ pos width) (e.east -ℤ pos width) (e.north +ℤ pos width) (e.south -ℤ pos width)
    (omega (arith, ints)) (omega (arith, ints)) (omega (arith, ints)) (omega (arith, ints))

-- and so nothing of an empty one
pub border_empty : (width : ℕ) → border_place empty_rect width ≡ empty_rect
border_empty width = part_of_empty (pos 0 +ℤ pos width) (pos 0 -ℤ pos width) (pos 0 +ℤ pos width) (pos 0 -ℤ pos width) (border_part empty_rect width)
