-- The screen on which a tree of windows is shown, and its bad points.
use Rattle.std.specs.Prelude.{◌≡◌, ℕ, neg_ℤ, Bool, true, false, not, ◌&&◌, if◌then◌else◌, List, Some, None, length}
use Rattle.std.specs.List.{list_any}
use Rattle.tr_base.specs.declared.Point.{Point}
use Rattle.tr_base.specs.declared.LeafId.{LeafId}
use Rattle.tr_base.specs.declared.NodeId.{NodeId}
use Rattle.tr_base.specs.declared.Spot.{Spot}
use Rattle.tr_base.specs.declared.Spot.TheVariants as spots
use Rattle.tr_base.specs.declared.Op.TheVariants.{Set}
use Rattle.tr_base.specs.Ops.{eff}
use Rattle.tr_base.specs.Rects.{Edges, before_shift, has_point, whole_of}
use Rattle.tr_region.specs.Points.{holds}
use Rattle.tr_screen.specs.Pictures.{Picture, pixel_of}
use Rattle.tr_paint.specs.Traces.{Base}
use Rattle.tr_exec.specs.Executions.{screen_point}
use Rattle.tr_forest.specs.Nodes.{IsNode}
use Rattle.tr_forest.specs.Forests.{IsForest}
use Rattle.tr_tree.specs.Trees.{Seen}
use Rattle.tr_spot.specs.Spots.{HasRoot, spot, is_in_leaf, is_spot_of, region_of}
use Rattle.tr_spot.specs.Leaves.{leaf_corner}

-- the model of a surface: the tree of windows, the pixels of the screen, and for each node its good points, which show the last
-- paint
pub record Shown : Type 0 where
  pub tree : Seen
  pub screen : Picture
  pub good : List (List Edges)

-- the move from the screen's coordinates to those of a window with this corner
abbrev pub back_from : Point → Point
back_from corner = record { h = neg_ℤ corner.h; v = neg_ℤ corner.v }

-- the point is on the screen
abbrev pub is_on : Seen → Point → Bool
is_on t p = has_point (whole_of t.size) p

-- one of the regions holds the point
abbrev pub any_holds : List (List Edges) → Point → Bool
any_holds regions p = list_any (λ r. holds r p) regions

-- the point is on the screen and isn't good: it must be painted again
unfoldable pub is_bad : Shown → Point → Bool
is_bad s p = is_on s.tree p && not (any_holds s.good p)

-- the spot is on the frame of some node
abbrev pub is_frame : Spot → Bool
is_frame (spots.Frame n tint kind) = true
is_frame spot = false

-- the colour of a point of a frame; 0 for a point of no frame
abbrev pub frame_colour : Spot → ℕ
frame_colour (spots.Frame n tint kind) = eff kind (Set tint) 0
frame_colour spot = 0

-- the visible points of a leaf's window, in its own coordinates, and the pixels of those that aren't bad
abbrev pub leaf_base : Shown → LeafId → Base
leaf_base s leaf = record {
  visible = λ q. is_in_leaf leaf (spot s.tree (screen_point (leaf_corner s.tree leaf) q));
  known = λ q.
      if is_bad s (screen_point (leaf_corner s.tree leaf) q) then None
      else Some (pixel_of s.screen (screen_point (leaf_corner s.tree leaf) q));
}

-- the rectangle, in the coordinates of a leaf's window, has each bad visible point of the leaf
abbrev pub HasBadPoints : Shown → LeafId → Edges → Type 0
HasBadPoints s leaf r = (p : Point) → is_in_leaf leaf (spot s.tree p) ≡ true → is_bad s p ≡ true →
    has_point r (before_shift p (leaf_corner s.tree leaf)) ≡ true

-- for each node a region of its own points: visible points of a leaf, points of the frame of another node
pub record AreOwn (t : Seen) (good : List (List Edges)) : Type 0 where
  pub count : length good ≡ length t.nodes.entries
  pub points : (n : NodeId) (p : Point) → IsNode t.nodes n → holds (region_of good n) p ≡ true → is_spot_of t n (spot t p) ≡ true

-- the screen is the tree's, and the good points of each node are its own
pub record IsShown (s : Shown) : Type 0 where
  pub forest : IsForest s.tree.nodes
  pub root : HasRoot s.tree
  pub size : s.screen.size ≡ s.tree.size
  pub kind : s.screen.kind ≡ s.tree.kind
  pub own : AreOwn s.tree s.good
