-- Definitions shared by the layouts of all kinds of node: sums and maxima of lengths, and places of children.
use Rattle.std.specs.Prelude.{◌≡◌, ℕ, map, ◌≤◌, min, max, ℤ, pos, neg_ℤ, ◌+ℤ◌, ◌≤ℤ◌, Bool, true, false, ◌&&◌, ◌⊎◌, List, [], ◌∷◌, sum_by, if◌then◌else◌, int_lt}
use Rattle.std.specs.List.{range_with_len}
use Rattle.tr_base.specs.declared.points.Point.{Point}
use Rattle.tr_base.specs.declared.shapes.Shapes.{Shapes}
use Rattle.tr_base.specs.Rects.{Edges, has_point, empty_rect, rect_of, sides_of}
use Rattle.tr_base.specs.Shapes.{Lengths}

-- the greatest length
abbrev pub longest : ℕ
longest = 4096

-- a sum or a product of lengths stops at the greatest length
abbrev pub stopped : ℕ → ℕ
stopped n = min n longest

-- the shape along one axis of a node without children
abbrev pub no_lengths : Lengths
no_lengths = record { lo = 0; pref = 0; hi = 0 }

-- the sums of the lengths of children side by side
abbrev pub sums_of : List Lengths → Lengths
sums_of cs = record {
  lo = stopped (sum_by (λ c. c.lo) cs);
  pref = stopped (sum_by (λ c. c.pref) cs);
  hi = stopped (sum_by (λ c. c.hi) cs);
}

-- the greatest number of a list's items, and 0 for an empty list
abbrev pub greatest_by : {X : Type 0} → (X → ℕ) → List X → ℕ
greatest_by f [] = 0
greatest_by f (x ∷ xs) = max (f x) (greatest_by f xs)

-- the greatest lengths of children, if each may have the whole length
abbrev pub maxima_of : List Lengths → Lengths
maxima_of cs = record {
  lo = greatest_by (λ c. c.lo) cs;
  pref = greatest_by (λ c. c.pref) cs;
  hi = greatest_by (λ c. c.hi) cs;
}

-- the lengths of a window along one axis: down, or across
abbrev pub along : Bool → Shapes → Lengths
along true s = s.down
along false s = s.across

-- the shapes of a window from its lengths along one axis, down or across, and along the other
abbrev pub shapes_of : Bool → Lengths → Lengths → Shapes
shapes_of true main other = record { across = other; down = main }
shapes_of false main other = record { across = main; down = other }

-- if the axis is down, across and down are exchanged
abbrev pub turned : Bool → Edges → Edges
turned true e = record { west = e.north; east = e.south; north = e.west; south = e.east }
turned false e = e

-- the rectangle holds some point
abbrev pub has_points : Edges → Bool
has_points e = int_lt e.west e.east && int_lt e.north e.south

-- the rectangle of a size whose corner is another's corner, moved by h and v
abbrev pub placed : Edges → ℤ → ℤ → ℕ × ℕ → Edges
placed e h v size =
    rect_of (e.west +ℤ h) (e.west +ℤ h +ℤ pos size.0) (e.north +ℤ v) (e.north +ℤ v +ℤ pos size.1)

-- the farthest that a child may be moved from its node's corner, along each axis
abbrev pub farthest : ℕ
farthest = 2048

-- a child has its preferred size, and its corner is the node's corner, moved; in an empty node the child is empty
abbrev pub preferred_place : Edges → Point → Shapes → Edges
preferred_place e by child =
    if has_points e then placed e by.h by.v (child.across.pref, child.down.pref) else empty_rect

-- the rectangles of `count` children, from the place of each
abbrev pub places_by : (ℕ → Edges) → ℕ → List Edges
places_by place count = map place (range_with_len 0 count)

-- the range of a node's rectangle: each edge is at most 65,536 away from 0, and each side is at most 4096
pub record IsDomain (e : Edges) : Type 0 where
  pub west : neg_ℤ (pos 65536) ≤ℤ e.west
  pub east : e.east ≤ℤ pos 65536
  pub north : neg_ℤ (pos 65536) ≤ℤ e.north
  pub south : e.south ≤ℤ pos 65536
  pub wide : (sides_of e).0 ≤ longest
  pub high : (sides_of e).1 ≤ longest

-- a point is at most `far` away from (0, 0) along each axis
pub record IsOffset (far : ℕ) (p : Point) : Type 0 where
  pub west : neg_ℤ (pos far) ≤ℤ p.h
  pub east : p.h ≤ℤ pos far
  pub north : neg_ℤ (pos far) ≤ℤ p.v
  pub south : p.v ≤ℤ pos far

-- the edges of a rectangle lie between those of another
pub record IsBetween (inner outer : Edges) : Type 0 where
  pub west : outer.west ≤ℤ inner.west
  pub east : inner.east ≤ℤ outer.east
  pub north : outer.north ≤ℤ inner.north
  pub south : inner.south ≤ℤ outer.south

-- a rectangle is part of another: it is empty, or its edges lie between the other's
abbrev pub IsPartOf : Edges → Edges → Type 0
IsPartOf inner outer = (inner ≡ empty_rect) ⊎ IsBetween inner outer

-- no point lies in both rectangles
pub record ShareNoPoint (a b : Edges) : Type 0 where
  pub none : (p : Point) → has_point a p && has_point b p ≡ false

-- the corner of a rectangle is at most `far` away from another's along each axis, and its sides are at most 4096
pub record StandsNear (far : ℕ) (child parent : Edges) : Type 0 where
  pub west : parent.west ≤ℤ (child.west +ℤ pos far)
  pub east : child.west ≤ℤ (parent.west +ℤ pos far)
  pub north : parent.north ≤ℤ (child.north +ℤ pos far)
  pub south : child.north ≤ℤ (parent.north +ℤ pos far)
  pub wide : (sides_of child).0 ≤ longest
  pub high : (sides_of child).1 ≤ longest

-- a rectangle is empty, or its corner is near another's
abbrev pub IsNear : ℕ → Edges → Edges → Type 0
IsNear far child parent = (child ≡ empty_rect) ⊎ StandsNear far child parent
