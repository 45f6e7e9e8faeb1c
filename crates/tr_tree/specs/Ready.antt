-- Private contracts alone cite this file.
-- The tables of a tree.
use Rattle.std.specs.Prelude.{◌≡◌, ℕ, ◌<◌, ◌-◌, Bool, true, false, Some, length, get_or, vec_len, vec_capacity}
use Rattle.tr_base.specs.declared.Point.{Point}
use Rattle.tr_base.specs.declared.NodeId.{NodeId}
use Rattle.tr_base.specs.declared.Kind.{Kind}
use Rattle.tr_base.specs.declared.Size.{Size}
use Rattle.tr_base.specs.Layouts.{preferred_place, IsDomain}
use Rattle.tr_base.specs.Rects.{Edges, empty_rect, IsScreenSize}
use Rattle.tr_forest.specs.declared.Edit.{Edit}
use Rattle.tr_forest.specs.declared.Edit.TheVariants as edits
use Rattle.tr_forest.specs.Nodes.{Nodes, node}
use Rattle.tr_tree.specs.declared.layouts.Layout.{Layout}
use Rattle.tr_tree.specs.Wishes.{shape}
use Rattle.tr_tree.specs.Places.{child_places, domain, index_of}
use Rattle.tr_tree.specs.Tables.{shape_in, domain_in}
use Rattle.tr_forest.specs.Families.{depth, is_under}
use Rattle.tr_tree.specs.Laying.{on_screen, laid, IsAt, HasDomain}

-- each table has this number of entries, and so has the room
pub record HavePlaces (count : ℕ) (l : Layout) : Type 0 where
  pub shapes : length l.shapes.items ≡ count
  pub domains : length l.domains.items ≡ count
  pub room_shapes : length l.room.shapes.items ≡ count
  pub room_places : length l.room.places.items ≡ count

-- the table has the shapes of each node
pub record HasShapes (t : Nodes) (l : Layout) : Type 0 where
  pub each : (n : NodeId) → shape_in l.shapes.items n ≡ shape t n

-- the table has the domain of each node on a screen of this size, whatever its kind
pub record HasDomains (t : Nodes) (size : Size) (l : Layout) : Type 0 where
  pub each : (kind : Kind) (n : NodeId) → domain_in l.domains.items n ≡ domain (on_screen t size kind) n
  pub small : (n : NodeId) → IsDomain (domain_in l.domains.items n)
  pub at : (n : NodeId) → IsAt (depth t n - 1) (domain_in l.domains.items n)

-- the tables have the shapes and the domain of each node on a screen of this size
pub record IsLaidOut (t : Nodes) (size : Size) (l : Layout) : Type 0 where
  pub screen : IsScreenSize size
  pub places : HavePlaces (length t.entries) l
  pub shapes : HasShapes t l
  pub domains : HasDomains t size l

-- the table has the domain of each node except n and the nodes below it
pub record HasOtherDomains (t : Nodes) (size : Size) (n : NodeId) (l : Layout) : Type 0 where
  pub each : (m : NodeId) → is_under t n m ≡ false → HasDomain (laid t size) m l.domains.items

-- the parent of a node, if it has one, places the node at this offset
pub record IsPlacedAt (t : Nodes) (n : NodeId) (at : Point) : Type 0 where
  pub place : (p : NodeId) (e : Edges) → (node t n).parent ≡ Some p →
      get_or (child_places t p e) (index_of n (node t p).children) empty_rect ≡ preferred_place e at (shape t n)

-- the tables and the room have the same entries
pub record HaveSamePlaces (a b : Layout) : Type 0 where
  pub shapes : b.shapes.items ≡ a.shapes.items
  pub domains : b.domains.items ≡ a.domains.items
  pub room_shapes : b.room.shapes.items ≡ a.room.shapes.items
  pub room_places : b.room.places.items ≡ a.room.places.items

-- one more entry takes no memory
pub record HasSpare (l : Layout) : Type 0 where
  pub shapes : vec_len l.shapes < vec_capacity l.shapes
  pub domains : vec_len l.domains < vec_capacity l.domains
  pub room_shapes : vec_len l.room.shapes < vec_capacity l.room.shapes
  pub room_places : vec_len l.room.places < vec_capacity l.room.places

-- an edit that changes no node's shapes
abbrev pub keeps_shapes : Edit → Bool
keeps_shapes (edits.Offset n by) = true
keeps_shapes (edits.Move child at) = true
keeps_shapes (edits.Lift child) = true
keeps_shapes (edits.Show n child) = true
keeps_shapes (edits.Turn n page) = true
keeps_shapes (edits.Resize size) = true
keeps_shapes edit = false
