-- The good points after an edit of the tree: those that show the same as before, in place or moved along, and those that a window
-- keeps when its size changes.
use Rattle.std.specs.Prelude.{◌-ℤ◌, Bool, true, false, not, ◌&&◌, ◌||◌, ◌==◌, if◌then◌else◌, List, [], ◌∷◌, Option, Some, None}
use Rattle.std.specs.Ordering.{int_eq}
use Rattle.tr_base.specs.declared.Point.{Point}
use Rattle.tr_base.specs.declared.Size.{Size}
use Rattle.tr_base.specs.declared.NodeId.{NodeId}
use Rattle.tr_base.specs.declared.LeafId.{LeafId}
use Rattle.tr_base.specs.declared.Spot.{Spot}
use Rattle.tr_base.specs.declared.Spot.TheVariants as spots
use Rattle.tr_base.specs.Rects.{Edges, has_point, before_shift}
use Rattle.tr_base.specs.Layouts.{has_points}
use Rattle.tr_base.specs.Ops.{same_kind}
use Rattle.tr_paint.specs.declared.Paint.{Paint}
use Rattle.tr_paint.specs.Batches.{touches}
use Rattle.tr_forest.specs.declared.Edit.{Edit}
use Rattle.tr_forest.specs.declared.Edit.TheVariants as edits
use Rattle.tr_forest.specs.Nodes.{Nodes, node, node_of}
use Rattle.tr_forest.specs.Families.{is_under}
use Rattle.tr_tree.specs.Trees.{Seen}
use Rattle.tr_tree.specs.Places.{domain}
use Rattle.tr_spot.specs.Spots.{spot}
use Rattle.tr_spot.specs.Leaves.{same_size}
use Rattle.tr_surface.specs.Surfaces.{is_on}

-- the facts about windows that an edit of the tree needs: the points that a leaf keeps when its size changes, and the commands that wait
-- for it
pub record WindowFacts : Type 0 where
  pub keeps : LeafId → Size → Size → Edges
  pub batch : LeafId → List Paint

-- the first node of a list
abbrev pub first_node : List NodeId → Option NodeId
first_node [] = None
first_node (n ∷ ns) = Some n

-- the child that an edit moves: that of a Move, or the only child of an Offset's node
abbrev pub child_of : Nodes → Edit → Option NodeId
child_of t (edits.Move child at) = Some child
child_of t (edits.Offset n by) = first_node (node t n).children
child_of t edit = None

-- the node, if its domain has points
abbrev pub if_placed : Seen → Option NodeId → Option NodeId
if_placed t None = None
if_placed t (Some n) = if has_points (domain t n) then Some n else None

-- the child that an edit moves, if its domain has points
abbrev pub moved_child : Seen → Edit → Option NodeId
moved_child was edit = if_placed was (child_of was.nodes edit)

-- the distance by which a child moves: its new corner minus its old one
abbrev pub way_of : Seen → Seen → NodeId → Point
way_of was is child = record {
  h = (domain is child).west -ℤ (domain was child).west;
  v = (domain is child).north -ℤ (domain was child).north;
}

-- the spot is the child's, or that of a node below it
abbrev pub is_below : Nodes → NodeId → Spot → Bool
is_below t child (spots.Leaf leaf at size kind) = is_under t child (node_of t leaf)
is_below t child (spots.Frame n tint kind) = is_under t child n
is_below t child spots.Off = false

-- the point of the old screen from which a point of the new screen comes, if this child moves: the points below the child move along,
-- and all others stay
abbrev pub source_by : Seen → Seen → Option NodeId → Point → Point
source_by was is None p = p
source_by was is (Some child) p =
    if is_below is.nodes child (spot is p) then before_shift p (way_of was is child) else p

-- the point of the old screen from which a point of the new screen comes
abbrev pub source : Seen → Seen → Edit → Point → Point
source was is edit p = source_by was is (moved_child was edit) p

-- the two points are the same
abbrev pub same_point : Point → Point → Bool
same_point p q = int_eq p.h q.h && int_eq p.v q.v

-- the two spots are equal: the same point of a leaf of one size and kind, or the frame of one node with one tint and kind
abbrev pub same_spot : Spot → Spot → Bool
same_spot (spots.Leaf a p from old) (spots.Leaf b q to new) =
    (a.0 == b.0) && same_point p q && same_size from to && same_kind old new
same_spot (spots.Frame m before old) (spots.Frame n after new) = (m.0 == n.0) && (before == after) && same_kind old new
same_spot spots.Off spots.Off = true
same_spot s t = false

-- a point of a leaf whose size changes is kept: the client keeps it, and no waiting command touches it
abbrev pub is_kept : WindowFacts → LeafId → Size → Size → Point → Bool
is_kept k leaf from to q = has_point (k.keeps leaf from to) q && not (touches (k.batch leaf) q)

-- the two spots are the same point of a leaf whose size changes, and it is kept
abbrev pub kept_spot : WindowFacts → Spot → Spot → Bool
kept_spot k (spots.Leaf a p from old) (spots.Leaf b q to new) =
    (a.0 == b.0) && same_point p q && same_kind old new && not (same_size from to) && is_kept k a from to q
kept_spot k s t = false

-- the second spot must show the same as the first one did
abbrev pub survives : WindowFacts → Spot → Spot → Bool
survives k s t = same_spot s t || kept_spot k s t

-- a point of the new screen is good after an edit if its source was on the old screen, was good, and survives
abbrev pub good_after : WindowFacts → Seen → Seen → Edit → (Point → Bool) → Point → Bool
good_after k was is edit bad p =
    let s = source was is edit p in
    is_on is p && is_on was s && not (bad s) && survives k (spot was s) (spot is p)

-- the bad points after an edit: all points of the new screen that aren't good
abbrev pub bad_after_edit : WindowFacts → Seen → Seen → Edit → (Point → Bool) → Point → Bool
bad_after_edit k was is edit bad p = is_on is p && not (good_after k was is edit bad p)
