-- The range of figures.
use Rattle.std.specs.Prelude.{◌≡◌, ℤ, pos, neg_ℤ, ◌≤ℤ◌}
use Rattle.tr_base.specs.Rects.{Edges, rect_of}

-- an edge of a figure is at most 8,192 away from 0
pub record IsFigureEdge (x : ℤ) : Type 0 where
  pub low : neg_ℤ (pos 8192) ≤ℤ x
  pub high : x ≤ℤ pos 8192

-- each edge of a figure's rectangle is in range
pub record IsArea (e : Edges) : Type 0 where
  pub west : IsFigureEdge e.west
  pub east : IsFigureEdge e.east
  pub north : IsFigureEdge e.north
  pub south : IsFigureEdge e.south

-- the edges are those of a rectangle, and each is in range
pub record KeepsArea (e : Edges) : Type 0 where
  pub edges : rect_of e.west e.east e.north e.south ≡ e
  pub range : IsArea e
