-- Sums over the commands of a batch, kept so that no walk over the commands is needed.
use Rattle.std.specs.Prelude.{◌≡◌, ⊤, ℕ, ◌-◌, ◌*◌, ◌^◌, Bool, true, false, List, min, sum_by, All}
use Rattle.std.specs.List.{list_any}
use Rattle.tr_base.specs.Rects.{Edges, has_point, sides_of}
use Rattle.tr_paint.specs.declared.paints.Paint.{Paint}
use Rattle.tr_paint.specs.declared.paints.Paint.TheVariants.{Tint, Texture, Pixels, Text, Scroll, Spoil}
use Rattle.tr_paint.specs.declared.sums.Scrolls.{Scrolls}
use Rattle.tr_paint.specs.declared.sums.Scrolls.TheVariants.{Absent, Alike}
use Rattle.tr_paint.specs.declared.sums.Sums.{Sums}
use Rattle.tr_paint.specs.Paints.{IsNearPoint, IsNearRect, area}
use Rattle.tr_paint.specs.Batches.{touches, IsBatch}
use Rattle.tr_paint.specs.Hulls.{HasAll}

-- the number of points of a rectangle
abbrev pub points_in : Edges → ℕ
points_in e = (sides_of e).0 * (sides_of e).1

-- the work for a point of a command's area; for a filled point it is 1
abbrev pub weight : Paint → ℕ
weight (Tint clip op) = 1
weight (Texture ops clip tile delta) = 2
weight (Pixels clip src delta) = 1
weight (Text ops clip at text) = 3
weight (Scroll clip delta) = 2
weight (Spoil clip) = 1

-- the estimated work of executing commands: the sum of their areas in points, each times its command's weight; the sum stops at 2^64 - 1
abbrev pub cost_of : List Paint → ℕ
cost_of commands = min (sum_by (λ c. points_in (area c) * weight c) commands) (2 ^ 64 - 1)

-- a command makes the pixels of its points unknown
abbrev pub is_spoil : Paint → Bool
is_spoil (Spoil clip) = true
is_spoil c = false

-- one of the commands is a spoil
abbrev pub has_spoil : List Paint → Bool
has_spoil commands = list_any is_spoil commands

-- a command isn't a scroll, or it is one that the summary allows: none, the one with this clip and delta, or any
abbrev pub IsOneOf : Scrolls → Paint → Type 0
IsOneOf Absent (Scroll clip delta) = ⊥
IsOneOf (Alike clip delta) (Scroll c d) = (c ≡ clip) × (d ≡ delta)
IsOneOf scrolls c = ⊤

-- the summary allows each scroll among the commands
abbrev pub AreScrolls : Scrolls → List Paint → Type 0
AreScrolls scrolls commands = All (IsOneOf scrolls) commands

-- if all scrolls are the same, their coordinates are near
abbrev pub AreNear : Scrolls → Type 0
AreNear (Alike clip delta) = IsNearRect clip × IsNearPoint delta
AreNear scrolls = ⊤

-- the least rectangle that contains all points that commands touch: it has them all, and any other that has them has its points
pub record IsHull (e : Edges) (commands : List Paint) : Type 0 where
  pub touched : HasAll e (touches commands)
  pub least : (outer : Edges) → HasAll outer (touches commands) → HasAll outer (has_point e)

-- the sums are those of the commands
pub record AreSums (sums : Sums) (commands : List Paint) : Type 0 where
  pub hull : IsHull sums.hull commands
  pub cost : sums.cost ≡ cost_of commands
  pub spoils : sums.spoils ≡ has_spoil commands
  pub scrolls : AreScrolls sums.scrolls commands
  pub near : AreNear sums.scrolls

-- the commands are those of a batch, and the sums are theirs
pub record IsSummed (commands : List Paint) (sums : Sums) : Type 0 where
  pub batch : IsBatch commands
  pub known : AreSums sums commands
