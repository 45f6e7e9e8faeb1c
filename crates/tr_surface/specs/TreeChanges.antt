-- Private contracts alone cite this file.
-- The cover of a change of the tree.
use Rattle.std.specs.Prelude.{◌≡◌, true, false, Option}
use Rattle.tr_base.specs.declared.Point.{Point}
use Rattle.tr_base.specs.declared.NodeId.{NodeId}
use Rattle.tr_region.specs.Points.{holds}
use Rattle.tr_tree.specs.Trees.{Seen}
use Rattle.tr_spot.specs.Covers.{IsCarried, comes_upon, lies_under}
use Rattle.tr_surface.specs.declared.covers.Cover.{Cover}
use Rattle.tr_surface.specs.Survivors.{unmoved, way_from, way_of_moved}

-- All nodes below the cover's child move as the points do, and the cover has the points at which the walk reaches the child.
pub record IsCover (was is : Seen) (moved : Option NodeId) (v : Cover) : Type 0 where
  pub carried : IsCarried (way_of_moved was is moved) v.child was is
  pub points : (p : Point) → holds v.region p ≡ comes_upon is p v.child
  pub there : (n : NodeId) → lies_under is.nodes v.child n ≡ true → way_from was is moved n ≡ way_of_moved was is moved
  pub away : (n : NodeId) → lies_under is.nodes v.child n ≡ false → way_from was is moved n ≡ unmoved
