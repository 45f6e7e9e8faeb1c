-- The execution of a batch on the screen, within the visible points of a window.
use Rattle.std.specs.Prelude.{◌≡◌, ℕ, pos, neg_ℤ, ◌+ℤ◌, ◌≤ℤ◌, true, if◌then◌else◌, List, Option, Some, None}
use Rattle.tr_base.specs.declared.Point.{Point}
use Rattle.tr_base.specs.declared.Size.{Size}
use Rattle.tr_base.specs.Rects.{Edges, before_shift, has_point, whole_of}
use Rattle.tr_screen.specs.Pictures.{Picture, pixel_of}
use Rattle.tr_region.specs.Points.{holds}
use Rattle.tr_paint.specs.declared.Paint.{Paint}
use Rattle.tr_paint.specs.Traces.{Look, Base, after}

-- a window's north-west corner is at most 65,536 away from the screen's, each way
pub record IsOrigin (origin : Point) : Type 0 where
  pub west : neg_ℤ (pos 65536) ≤ℤ origin.h
  pub east : origin.h ≤ℤ pos 65536
  pub north : neg_ℤ (pos 65536) ≤ℤ origin.v
  pub south : origin.v ≤ℤ pos 65536

-- all points of a region lie on a screen of this size
abbrev pub RegionLiesOn : Size → List Edges → Type 0
RegionLiesOn size region = (p : Point) → holds region p ≡ true → has_point (whole_of size) p ≡ true

-- the greatest size of a screen
abbrev pub greatest_screen : Size
greatest_screen = record { wide = 1024; high = 1024 }

-- the point of the screen at a window's point, given the window's north-west corner
abbrev pub screen_point : Point → Point → Point
screen_point origin q = record { h = q.h +ℤ origin.h; v = q.v +ℤ origin.v }

-- the state of a window before a batch: its visible points, and the screen's pixel at each of them that isn't bad
abbrev pub base_of : Point → List Edges → List Edges → Picture → Base
base_of origin visible bad screen = record {
  visible = λ q. holds visible (screen_point origin q);
  known = λ q. if holds bad (screen_point origin q) then None else Some (pixel_of screen (screen_point origin q));
}

-- the same, given the good visible points in place of the bad ones
abbrev pub known_base : Point → List Edges → List Edges → Picture → Base
known_base origin visible good screen = record {
  visible = λ q. holds visible (screen_point origin q);
  known = λ q. if holds good (screen_point origin q) then Some (pixel_of screen (screen_point origin q)) else None;
}

-- the colour of a point of the screen after a batch, if it is known: that of the window's point there
abbrev pub colour_after : Look → Base → List Paint → Point → Point → Option ℕ
colour_after look base batch origin p = after look base batch (before_shift p origin)
