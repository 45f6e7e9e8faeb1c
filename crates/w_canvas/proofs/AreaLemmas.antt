-- Edges of figures stay in range.
use Rattle.std.proofs.Common.{◌≡◌, ℤ, Bool, true, false, ◌&&◌, cond, w16, w32, to_z, of_z, refl, ◌∙◌, arith}
use Rattle.std.specs.Prelude.{int_lt}
use Rattle.std.proofs.lemmas.Int.{ints}
use Rattle.tr_base.specs.Rects.{Edges, InReach, rect_of, empty_rect}
use Rattle.tr_base.proofs.RectLemmas.{cast-in_reach, cast-rect}
use Rattle.w_canvas.specs.AreaFacts.{area-rect_of}
use Rattle.w_canvas.specs.Areas.{IsFigureEdge, IsArea, KeepsArea}

-- an edge of a figure is within reach
pub reach-edge : (x : ℤ) → IsFigureEdge x → InReach x
reach-edge x edge = record { low = omega (arith, ints, edge.low); high = omega (arith, ints, edge.high) }

-- an edge of a figure passes unchanged through 16 bits
pub cast-edge : (x : ℤ) → IsFigureEdge x → to_z w16 (of_z w16 x) ≡ x
cast-edge x edge = omega (arith, ints, edge.low, edge.high)

pub long-edge : (x read : ℤ) → IsFigureEdge x → read ≡ to_z w16 (of_z w16 x) → read ≡ x
long-edge x read edge m = m ∙ cast-edge x edge

-- it passes so through 32 bits and then 16
pub short-edge : (kept read x : ℤ) → IsFigureEdge x → InReach read → read ≡ x → kept ≡ to_z w32 (of_z w32 read) → to_z w16 (of_z w16 kept) ≡ x
short-edge kept read x edge reach e f = rw (f, cast-in_reach read reach, e) (cast-edge x edge)

-- a rectangle of such edges, and its range
pub made-rect : (r : Edges) (w e n s : ℤ) → IsFigureEdge w → IsFigureEdge e → IsFigureEdge n → IsFigureEdge s →
    r ≡ rect_of (to_z w32 (of_z w32 w)) (to_z w32 (of_z w32 e)) (to_z w32 (of_z w32 n)) (to_z w32 (of_z w32 s)) → r ≡ rect_of w e n s
made-rect r w e n s hw he hn hs m =
    cast-rect r w e n s w e n s (reach-edge w hw) (reach-edge e he) (reach-edge n hn) (reach-edge s hs) m refl refl refl refl

pub made-area : (r : Edges) (w e n s : ℤ) → IsFigureEdge w → IsFigureEdge e → IsFigureEdge n → IsFigureEdge s →
    r ≡ rect_of (to_z w32 (of_z w32 w)) (to_z w32 (of_z w32 e)) (to_z w32 (of_z w32 n)) (to_z w32 (of_z w32 s)) → IsArea r
made-area r w e n s hw he hn hs m = rw (made-rect r w e n s hw he hn hs m) (area-rect_of w e n s hw he hn hs)

-- the edges of a rectangle are those of itself
pub rect_of-rect_of : (w e n s : ℤ) → (let r : Edges = rect_of w e n s in rect_of r.west r.east r.north r.south ≡ r)
rect_of-rect_of w e n s = by_test (int_lt w e && int_lt n s) refl
  where
    by_test : (b : Bool) → int_lt w e && int_lt n s ≡ b →
        (let r : Edges = cond b (record { west = w; east = e; north = n; south = s }) empty_rect in rect_of r.west r.east r.north r.south ≡ r)
    by_test true h = rw h refl
    by_test false h = refl

-- the four edges of a rectangle in range are kept
pub keeps-area : (r : Edges) (w e n s : ℤ) → rect_of r.west r.east r.north r.south ≡ r → IsArea r →
    w ≡ r.west → e ≡ r.east → n ≡ r.north → s ≡ r.south → KeepsArea (record { west = w; east = e; north = n; south = s })
keeps-area r w e n s edges range ew ee en es = rw (ew, ee, en, es) (record { edges = edges; range = range })
