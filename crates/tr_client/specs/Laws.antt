-- The terms of a client's laws.
use Rattle.std.specs.Prelude.{◌≡◌, ℕ, ◌<◌, ◌≤◌, ◌^◌, ◌==◌, ◌||◌, Bool, true}
use Rattle.tr_base.specs.declared.Point.{Point}
use Rattle.tr_base.specs.declared.Size.{Size}
use Rattle.tr_base.specs.declared.Event.{Event}
use Rattle.tr_base.specs.declared.Event.TheVariants.{Mouse, Position, Key}
use Rattle.tr_base.specs.Rects.{Edges, has_point, whole_of}
use Rattle.tr_base.specs.Layouts.{longest}

-- the size of a window: no side is greater than the greatest length
pub record IsWindowSize (size : Size) : Type 0 where
  pub wide : size.wide ≤ longest
  pub high : size.high ≤ longest

-- a window of the size has no point, since one of its sides is zero
abbrev pub is_flat : Size → Bool
is_flat size = size.wide == 0 || size.high == 0

-- the numbers of an event are in the ranges of their types
abbrev pub IsEvent : Event → Type 0
IsEvent (Mouse time click button at) = (time < 2 ^ 32) × (button < 2 ^ 8)
IsEvent (Position time at gone) = time < 2 ^ 32
IsEvent (Key time code) = (time < 2 ^ 32) × (code < 2 ^ 8)
IsEvent event = Unit {0}

-- the points that are kept when a window's size changes lie in the window before and after, and have the same colours in both pictures
pub record Survives (kept : Edges) (from to : Size) (before after : Point → ℕ) : Type 0 where
  pub first : (q : Point) → has_point kept q ≡ true → has_point (whole_of from) q ≡ true
  pub second : (q : Point) → has_point kept q ≡ true → has_point (whole_of to) q ≡ true
  pub colours : (q : Point) → has_point kept q ≡ true → before q ≡ after q
