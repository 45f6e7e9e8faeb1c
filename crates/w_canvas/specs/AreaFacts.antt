-- The rectangles of figures are in range. This proof is in specs/ because an impl's laws may cite nothing else of its crate.
use Rattle.std.proofs.Common.{ℤ, pos, Bool, true, false, ◌&&◌, cond, arith}
use Rattle.std.specs.Prelude.{int_lt}
use Rattle.std.proofs.lemmas.Int.{ints}
use Rattle.tr_base.specs.Rects.{rect_of, empty_rect}
use Rattle.w_canvas.specs.Areas.{IsFigureEdge, IsArea}

-- the rectangle of edges in range is in range
pub area-rect_of : (w e n s : ℤ) → IsFigureEdge w → IsFigureEdge e → IsFigureEdge n → IsFigureEdge s → IsArea (rect_of w e n s)
area-rect_of w e n s hw he hn hs = by_test (int_lt w e && int_lt n s)
  where
    zero : IsFigureEdge (pos 0)
    zero = record { low = omega (arith, ints); high = omega (arith, ints) }

    by_test : (b : Bool) → IsArea (cond b (record { west = w; east = e; north = n; south = s }) empty_rect)
    by_test true = record { west = hw; east = he; north = hn; south = hs }
    by_test false = record { west = zero; east = zero; north = zero; south = zero }
