-- The rectangle of edges in range is in range.
use Rattle.std.proofs.Common.{ℤ, pos, Bool, true, false, ◌&&◌, cond, arith}
use Rattle.std.specs.Prelude.{int_lt}
use Rattle.std.proofs.lemmas.Int.{ints}
use Rattle.tr_base.specs.Rects.{InReach, rect_of, empty_rect}
use Rattle.tr_journal.specs.Steps.{IsEdge, IsClip}

-- an edge is within reach
pub reach-edge : (x : ℤ) → IsEdge x → InReach x
reach-edge x edge = record { low = omega (arith, ints, edge.low); high = omega (arith, ints, edge.high) }

pub clip-rect_of : (w e n s : ℤ) → IsEdge w → IsEdge e → IsEdge n → IsEdge s → IsClip (rect_of w e n s)
clip-rect_of w e n s hw he hn hs = by_test (int_lt w e && int_lt n s)
  where
    zero : IsEdge (pos 0)
    zero = record { low = omega (arith, ints); high = omega (arith, ints) }

    by_test : (b : Bool) → IsClip (cond b (record { west = w; east = e; north = n; south = s }) empty_rect)
    by_test true = record { west = hw; east = he; north = hn; south = hs }
    by_test false = record { west = zero; east = zero; north = zero; south = zero }
