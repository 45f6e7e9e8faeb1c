-- Private contracts alone cite this file.
-- The points of one node that survive an edit of the tree.
use Rattle.std.specs.Prelude.{◌≡◌, ◌<◌, ⊤, ℕ, zero, suc, pos, Bool, true, false, not, ◌&&◌, ◌||◌, ◌==◌, if◌then◌else◌, List, [], Option, Some, None, length, get_or}
use Rattle.tr_base.specs.declared.Point.{Point}
use Rattle.tr_base.specs.declared.Size.{Size}
use Rattle.tr_base.specs.declared.NodeId.{NodeId}
use Rattle.tr_base.specs.declared.LeafId.{LeafId}
use Rattle.tr_base.specs.Rects.{Edges, before_shift, has_point, whole_of}
use Rattle.tr_base.specs.Ops.{same_kind}
use Rattle.tr_screen.specs.Pictures.{Picture, pixel_of}
use Rattle.tr_region.specs.Points.{holds}
use Rattle.tr_client.specs.Laws.{IsWindowSize}
use Rattle.tr_forest.specs.declared.Edit.{Edit}
use Rattle.tr_forest.specs.declared.Edit.TheVariants as edits
use Rattle.tr_forest.specs.Nodes.{Nodes, node, leaf_of}
use Rattle.tr_forest.specs.Families.{is_under}
use Rattle.tr_tree.specs.Trees.{Seen}
use Rattle.tr_tree.specs.Places.{domain}
use Rattle.tr_spot.specs.Spots.{spot, from_corner, is_spot_of, region_of, size_of}
use Rattle.tr_spot.specs.Leaves.{same_size}
use Rattle.tr_surface.specs.declared.survivors.Survivors.{Survivors}
use Rattle.tr_surface.specs.declared.survivors.Survivors.TheVariants as variants
use Rattle.tr_surface.specs.Surfaces.{AreOwn, Shown, any_holds, is_bad, is_on}
use Rattle.tr_surface.specs.TreeSteps.{WindowFacts, child_of, is_below, is_kept, same_point, source_by, survives, way_of}

-- the north-west corner of a rectangle
abbrev pub corner_of : Edges → Point
corner_of e = record { h = e.west; v = e.north }

-- the north-west corner of a node's domain
abbrev pub corner : Seen → NodeId → Point
corner t n = corner_of (domain t n)

-- the size of a node's domain
abbrev pub domain_size : Seen → NodeId → Size
domain_size t n = size_of (domain t n)

-- no move
abbrev pub unmoved : Point
unmoved = record { h = pos 0; v = pos 0 }

-- a change of the tree: the tree before and after it, the child that it moves, if any, and the points that were bad
pub record TreeEdit : Type 0 where
  pub was : Seen
  pub is : Seen
  pub moved : Option NodeId
  pub bad : Point → Bool

abbrev pub change : Seen → Seen → Option NodeId → (Point → Bool) → TreeEdit
change was is moved bad = record { was = was; is = is; moved = moved; bad = bad }

-- the change from a surface to another tree
abbrev pub change_to : Shown → Seen → Option NodeId → TreeEdit
change_to s is moved = change s.tree is moved (is_bad s)

-- the distance by which the points of a node move, if this child is moved
abbrev pub way_from : Seen → Seen → Option NodeId → NodeId → Point
way_from was is None n = unmoved
way_from was is (Some child) n = if is_under is.nodes child n then way_of was is child else unmoved

-- the distance by which a change moves a node
abbrev pub way_by : TreeEdit → NodeId → Point
way_by c n = way_from c.was c.is c.moved n

-- a leaf keeps points only if its corner moves with them
abbrev pub leaf_survivors : Bool → LeafId → Size → Size → Survivors
leaf_survivors false leaf from to = variants.Nothing
leaf_survivors true leaf from to = if same_size from to then variants.All else variants.Kept leaf from to

-- the points of a node that survive a move by this distance, for a leaf or for a frame
abbrev pub survivors_by : Seen → Seen → Point → NodeId → Option LeafId → Survivors
survivors_by was is by n (Some leaf) =
    leaf_survivors (same_point (before_shift (corner is n) by) (corner was n)) leaf (domain_size was n) (domain_size is n)
survivors_by was is by n None =
    if (node was.nodes n).tint == (node is.nodes n).tint then variants.All else variants.Nothing

abbrev pub survivors_from : Seen → Seen → Point → NodeId → Survivors
survivors_from was is by n = survivors_by was is by n (leaf_of (node was.nodes n).kind)

-- a point is among the survivors, in the coordinates of the node's domain
abbrev pub has_survivor : WindowFacts → Survivors → Point → Bool
has_survivor k variants.Nothing q = false
has_survivor k variants.All q = true
has_survivor k (variants.Kept leaf from to) q = is_kept k leaf from to q

-- the source of a node's point was good, and the point survives
abbrev pub goes_on : WindowFacts → Seen → Seen → Option NodeId → List (List Edges) → NodeId → Point → Bool
goes_on k was is moved good n p =
    let by = way_from was is moved n in
    holds (region_of good n) (before_shift p by) && has_survivor k (survivors_from was is by n) (from_corner (domain is n) p)

-- a point is a good one of a node after a change
abbrev pub good_at : WindowFacts → Seen → Seen → Option NodeId → List (List Edges) → NodeId → Point → Bool
good_at k was is moved good n p = goes_on k was is moved good n p && is_spot_of is n (spot is p)

-- a point is good after a change
abbrev pub good_by : WindowFacts → TreeEdit → Point → Bool
good_by k c p =
    let s = source_by c.was c.is c.moved p in
    is_on c.is p && is_on c.was s && not (c.bad s) && survives k (spot c.was s) (spot c.is p)

-- the tree before and after an edit that keeps the kind of the screen, with the good points of its nodes before it
pub record AreSides (was is : Seen) (good : List (List Edges)) : Type 0 where
  pub leaves : (n : NodeId) → leaf_of (node is.nodes n).kind ≡ leaf_of (node was.nodes n).kind
  pub count : length is.nodes.entries ≡ length was.nodes.entries
  pub kind : is.kind ≡ was.kind
  pub own : AreOwn was good

-- one of the first n nodes is this child or lies below it, and has the point in its region
unfoldable pub in_moved : ℕ → Nodes → NodeId → List (List Edges) → Point → Bool
in_moved zero t child regions p = false
in_moved (suc n) t child regions p = in_moved n t child regions p || (is_under t child (record { 0 = n }) && holds (get_or regions n []) p)

-- the same, if there is a child
abbrev pub follows : Nodes → Option NodeId → List (List Edges) → Point → Bool
follows t None good p = false
follows t (Some child) good p = in_moved (length t.entries) t child good p

-- the node of the point's spot is this child or lies below it, if there is a child
abbrev pub is_below_moved : Seen → Option NodeId → Point → Bool
is_below_moved t None p = false
is_below_moved t (Some child) p = is_below t.nodes child (spot t p)

-- the node of the point's spot is the moved child or lies below it
abbrev pub is_carried : TreeEdit → Point → Bool
is_carried c p = is_below_moved c.is c.moved p

-- the distance by which the moved child moves
abbrev pub way_of_moved : Seen → Seen → Option NodeId → Point
way_of_moved was is None = unmoved
way_of_moved was is (Some child) = way_of was is child

-- survivors that the windows can compute: a leaf's number and sizes are in range
abbrev pub IsFitting : ℕ → Survivors → Type 0
IsFitting leaves (variants.Kept leaf from to) = (leaf.0 < leaves) × IsWindowSize from × IsWindowSize to
IsFitting leaves survivors = ⊤

-- a point is bad after a change
abbrev pub bad_by : WindowFacts → TreeEdit → Point → Bool
bad_by k c p = is_on c.is p && not (good_by k c p)

-- a point is good after a change, and moves along with the moved child
abbrev pub follows_by : WindowFacts → TreeEdit → Point → Bool
follows_by k c p = is_carried c p && good_by k c p

-- an edit changes neither the number of nodes nor which of them are leaves
pub record IsLike (was is : Seen) : Type 0 where
  pub leaves : (n : NodeId) → leaf_of (node is.nodes n).kind ≡ leaf_of (node was.nodes n).kind
  pub count : length is.nodes.entries ≡ length was.nodes.entries
  pub root : is.nodes.root ≡ was.nodes.root

-- the child to which an edit gives another place among a node's children, or which it attaches or detaches
abbrev pub placed_child : Edit → Option NodeId
placed_child (edits.Attach child parent at) = Some child
placed_child (edits.Detach child) = Some child
placed_child (edits.Lift child) = Some child
placed_child edit = None

-- a screen is fitted to a tree: if their kinds are the same, the points of both keep their pixels
pub record IsFitted (t : Seen) (old new : Picture) : Type 0 where
  pub size : new.size ≡ t.size
  pub kind : new.kind ≡ t.kind
  pub points : (p : Point) → same_kind old.kind t.kind ≡ true →
      has_point (whole_of old.size) p ≡ true → is_on t p ≡ true → pixel_of new p ≡ pixel_of old p

-- the good points of all nodes after a change, as a region of own points for each node
pub record AreGoodAfter (k : WindowFacts) (c : TreeEdit) (good : List (List Edges)) : Type 0 where
  pub own : AreOwn c.is good
  pub any : (p : Point) → any_holds good p ≡ good_by k c p

-- the child that an edit moves with all nodes below it, or brings to the front
abbrev pub carried_child : Nodes → Edit → Option NodeId
carried_child t (edits.Lift child) = Some child
carried_child t edit = child_of t edit

-- an edit attaches or detaches a child
abbrev pub is_hanging : Edit → Bool
is_hanging (edits.Attach child parent at) = true
is_hanging (edits.Detach child) = true
is_hanging edit = false
