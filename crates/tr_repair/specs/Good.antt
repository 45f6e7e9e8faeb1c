-- The points that lie in the same one of some regions before and after.
use Rattle.std.specs.Prelude.{◌≡◌, ℕ, zero, suc, ◌<◌, Bool, true, false, ◌&&◌, ◌||◌, List, [], length, slice_index_or}
use Rattle.tr_base.specs.declared.points.Point.{Point}
use Rattle.tr_base.specs.Rects.{Edges}
use Rattle.tr_region.specs.Points.{holds}

-- region i of the list holds the point
abbrev pub held_by : List (List Edges) → Point → ℕ → Bool
held_by regions p i = holds (slice_index_or regions i []) p

-- for some i, region i of both lists holds the point
abbrev pub StaysInOne : List (List Edges) → List (List Edges) → Point → Type 0
StaysInOne old new p = (i : ℕ) × (i < length new) × (held_by old p i ≡ true) × (held_by new p i ≡ true)

-- some number below n passes the test
unfoldable pub any_below : ℕ → (ℕ → Bool) → Bool
any_below zero test = false
any_below (suc n) test = any_below n test || test n

-- for some i below n, region i of both lists holds the point: with n the length, the test of StaysInOne
abbrev pub stays_below : ℕ → List (List Edges) → List (List Edges) → Point → Bool
stays_below n old new p = any_below n (λ i. held_by old p i && held_by new p i)
