-- Private contracts alone cite this file.
-- The table of domains is filled from the root downwards.
use Rattle.std.specs.Prelude.{◌≡◌, ℕ, ◌*◌, ◌-◌, ◌<◌, ◌≤◌, pos, neg_ℤ, ◌≤ℤ◌, true, false, List, map, length, get_or, All}
use Rattle.tr_base.specs.declared.NodeId.{NodeId}
use Rattle.tr_base.specs.declared.Shapes.{Shapes}
use Rattle.tr_base.specs.declared.Point.{Point}
use Rattle.tr_base.specs.declared.Size.{Size}
use Rattle.tr_base.specs.declared.Kind.{Kind}
use Rattle.tr_base.specs.declared.Kind.TheVariants.{Mono}
use Rattle.tr_base.specs.Rects.{Edges, empty_rect, rect_of, sides_of, IsScreenSize}
use Rattle.tr_base.specs.Layouts.{longest, IsDomain, IsNear}
use Rattle.tr_forest.specs.Nodes.{Nodes, IsNode, node}
use Rattle.tr_forest.specs.Forests.{IsForest}
use Rattle.tr_forest.specs.Families.{depth, is_among, is_under}
use Rattle.tr_tree.specs.declared.rooms.Room.{Room}
use Rattle.tr_tree.specs.Trees.{Seen}
use Rattle.tr_tree.specs.Wishes.{shape}
use Rattle.tr_tree.specs.Places.{child_places, domain}
use Rattle.tr_tree.specs.Tables.{shape_in, domain_in}

-- these nodes on a screen of this size and kind
abbrev pub on_screen : Nodes → Size → Kind → Seen
on_screen t size kind = record { nodes = t; size = size; kind = kind }

-- these nodes on a screen of one kind: the domains don't depend on the kind
abbrev pub laid : Nodes → Size → Seen
laid t size = on_screen t size Mono

-- the plan of a layout: the size is a screen's, and the table has the shapes of each node
pub record IsPlan (t : Nodes) (size : Size) (shapes : List Shapes) : Type 0 where
  pub screen : IsScreenSize size
  pub count : length shapes ≡ length t.entries
  pub shapes_are : (n : NodeId) → shape_in shapes n ≡ shape t n

-- there is room for the shapes and for the places of one node's children
pub record HasRoom (t : Nodes) (room : Room) : Type 0 where
  pub shapes : length room.shapes.items ≡ length t.entries
  pub places : length room.places.items ≡ length t.entries

-- each child has its place from the list, and all other domains stay
pub record Spreads (cs : List NodeId) (places old new : List Edges) : Type 0 where
  pub placed : (k : ℕ) (d : NodeId) → k < length cs → domain_in new (get_or cs k d) ≡ get_or places k empty_rect
  pub others : (m : NodeId) → is_among m cs ≡ false → domain_in new m ≡ domain_in old m

-- the rectangle is the one made from its edges
pub record IsRectangle (e : Edges) : Type 0 where
  pub edges : rect_of e.west e.east e.north e.south ≡ e

-- a child is near its node, and is the rectangle made from its edges
pub record StandsInNode (e c : Edges) : Type 0 where
  pub own : IsRectangle c
  pub near : IsNear longest c e

-- the offsets of a node's children, which a Z uses
abbrev pub offsets_of : Nodes → NodeId → List Point
offsets_of t n = map (λ c. (node t c).at) (node t n).children

-- a node whose children can be placed, its rectangle, and their shapes
pub record IsParent (t : Nodes) (n : NodeId) (e : Edges) (shapes : List Shapes) : Type 0 where
  pub forest : IsForest t
  pub is_node : IsNode t n
  pub own : IsRectangle e
  pub small : IsDomain e
  pub shapes_are : shapes ≡ map (shape t) (node t n).children

-- these are the places of a node's children, computed from its rectangle
pub record ArePlaced (t : Nodes) (n : NodeId) (e : Edges) (places : List Edges) : Type 0 where
  pub right : places ≡ child_places t n e
  pub fit : All (StandsInNode e) places

-- a rectangle with a corner at most `far` times the longest length from the screen's corner, each way
pub record IsAt (far : ℕ) (e : Edges) : Type 0 where
  pub own : IsRectangle e
  pub west : neg_ℤ (pos (longest * far)) ≤ℤ e.west
  pub east : e.west ≤ℤ pos (longest * far)
  pub north : neg_ℤ (pos (longest * far)) ≤ℤ e.north
  pub south : e.north ≤ℤ pos (longest * far)
  pub wide : (sides_of e).0 ≤ longest
  pub high : (sides_of e).1 ≤ longest

-- the table has the domain of a node; its distance from the screen's corner is at most one longest length for each node above it
pub record HasDomain (t : Seen) (n : NodeId) (table : List Edges) : Type 0 where
  pub right : domain_in table n ≡ domain t n
  pub at : IsAt (depth t.nodes n - 1) (domain t n)

-- each domain that was right stays right, and those of n and of all nodes below it are right
pub record Lays (t : Seen) (n : NodeId) (old new : List Edges) : Type 0 where
  pub stays : (m : NodeId) → HasDomain t m old → HasDomain t m new
  pub below : (m : NodeId) → is_under t.nodes n m ≡ true → HasDomain t m new
