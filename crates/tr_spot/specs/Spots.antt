-- The owner of a point of the screen.
use Rattle.std.specs.Prelude.{◌<◌, ⊤, ℕ, zero, suc, ◌-ℤ◌, Bool, false, ◌==◌, if◌then◌else◌, List, [], Option, Some, None, IsSome, get_or}
use Rattle.std.specs.List.{find}
use Rattle.tr_base.specs.declared.Point.{Point}
use Rattle.tr_base.specs.declared.Size.{Size}
use Rattle.tr_base.specs.declared.NodeId.{NodeId}
use Rattle.tr_base.specs.declared.LeafId.{LeafId}
use Rattle.tr_base.specs.declared.Spot.{Spot}
use Rattle.tr_base.specs.declared.Spot.TheVariants as spots
use Rattle.tr_base.specs.Rects.{Edges, has_point, sides_of, whole_of}
use Rattle.tr_forest.specs.declared.NodeKind.{NodeKind}
use Rattle.tr_forest.specs.declared.NodeKind.TheVariants as kinds
use Rattle.tr_forest.specs.Nodes.{node}
use Rattle.tr_forest.specs.Families.{levels}
use Rattle.tr_tree.specs.Trees.{Seen}
use Rattle.tr_tree.specs.Places.{domain}

-- the root was chosen
abbrev pub HasRoot : Seen → Type 0
HasRoot t = IsSome t.nodes.root

-- the owner below a child that has the point; if no child has it, the node itself
abbrev pub followed : NodeId → (NodeId → NodeId) → Option NodeId → NodeId
followed n down None = n
followed n down (Some child) = down child

-- the owner of a point of a node's domain, limited to some levels: the walk continues at the first child whose domain has the point
unfoldable pub owner_within : ℕ → Seen → NodeId → Point → NodeId
owner_within zero t n p = n
owner_within (suc f) t n p =
    followed n (λ c. owner_within f t c p) (find (λ c. has_point (domain t c) p) (node t.nodes n).children)

-- the owner of a point of a node's domain: no node is deeper than 16
abbrev pub owner : Seen → NodeId → Point → NodeId
owner t n p = owner_within levels t n p

-- a point relative to a rectangle's corner
abbrev pub from_corner : Edges → Point → Point
from_corner e p = record { h = p.h -ℤ e.west; v = p.v -ℤ e.north }

-- the size of a rectangle
abbrev pub size_of : Edges → Size
size_of e = record { wide = (sides_of e).0; high = (sides_of e).1 }

-- the spot of a point, from the node that owns it: a leaf, or the frame of another node
abbrev pub spot_on : Seen → Point → NodeId → NodeKind → Spot
spot_on t p n (kinds.Leaf leaf shapes) = spots.Leaf leaf (from_corner (domain t n) p) (size_of (domain t n)) t.kind
spot_on t p n kind = spots.Frame n (node t.nodes n).tint t.kind

-- the spot of a point of the screen: `Off` if no root was chosen
abbrev pub spot_below : Seen → Point → Option NodeId → Spot
spot_below t p None = spots.Off
spot_below t p (Some root) = spot_on t p (owner t root p) (node t.nodes (owner t root p)).kind

-- the spot of a point: `Off` if it isn't on the screen
abbrev pub spot : Seen → Point → Spot
spot t p = if has_point (whole_of t.size) p then spot_below t p t.nodes.root else spots.Off

-- if the spot is part of a leaf, that is one of the first `count`
abbrev pub IsLeafBelow : ℕ → Spot → Type 0
IsLeafBelow count (spots.Leaf leaf at size kind) = leaf.0 < count
IsLeafBelow count spot = ⊤

-- the spot is part of this leaf
abbrev pub is_in_leaf : LeafId → Spot → Bool
is_in_leaf leaf (spots.Leaf l at size kind) = l.0 == leaf.0
is_in_leaf leaf spot = false

-- the spot is on the frame of this node
abbrev pub is_on_frame : NodeId → Spot → Bool
is_on_frame n (spots.Frame m tint kind) = m.0 == n.0
is_on_frame n spot = false

-- the spot is that of a node of this kind: part of the leaf if the node is one, and else on its frame
abbrev pub is_spot_as : NodeKind → NodeId → Spot → Bool
is_spot_as (kinds.Leaf leaf shapes) n spot = is_in_leaf leaf spot
is_spot_as kind n spot = is_on_frame n spot

-- the spot is that of this node
abbrev pub is_spot_of : Seen → NodeId → Spot → Bool
is_spot_of t n spot = is_spot_as (node t.nodes n).kind n spot

-- the region of a node in a list with a region for each node
abbrev pub region_of : List (List Edges) → NodeId → List Edges
region_of regions n = get_or regions n.0 []
