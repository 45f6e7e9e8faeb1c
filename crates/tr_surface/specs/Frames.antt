-- Private contracts alone cite this file.
-- The frames of all nodes, with the points to paint on each.
use Rattle.std.specs.Prelude.{◌≡◌, true, ◌&&◌, ◌||◌, List, length}
use Rattle.tr_base.specs.declared.Point.{Point}
use Rattle.tr_base.specs.declared.NodeId.{NodeId}
use Rattle.tr_base.specs.Rects.{Edges}
use Rattle.tr_region.specs.Points.{holds}
use Rattle.tr_forest.specs.Nodes.{IsNode}
use Rattle.tr_tree.specs.Trees.{Seen}
use Rattle.tr_spot.specs.Spots.{spot, is_on_frame, region_of}
use Rattle.tr_surface.specs.Surfaces.{Shown, is_bad}

-- the points of each region are on the frame of its node
pub record AreOnFrames (t : Seen) (regions : List (List Edges)) : Type 0 where
  pub count : length regions ≡ length t.nodes.entries
  pub points : (n : NodeId) (p : Point) → IsNode t.nodes n → holds (region_of regions n) p ≡ true → is_on_frame n (spot t p) ≡ true

-- the points of each region are the bad ones on the frame of its node
pub record AreBadFrames (s : Shown) (regions : List (List Edges)) : Type 0 where
  pub count : length regions ≡ length s.tree.nodes.entries
  pub points : (n : NodeId) (p : Point) → IsNode s.tree.nodes n →
      holds (region_of regions n) p ≡ (is_bad s p && is_on_frame n (spot s.tree p))

-- the points of each region are the good points of its node and the points of the node's frame
pub record AreGoodFrames (s : Shown) (regions : List (List Edges)) : Type 0 where
  pub count : length regions ≡ length s.tree.nodes.entries
  pub points : (n : NodeId) (p : Point) → IsNode s.tree.nodes n →
      holds (region_of regions n) p ≡ (holds (region_of s.good n) p || is_on_frame n (spot s.tree p))
