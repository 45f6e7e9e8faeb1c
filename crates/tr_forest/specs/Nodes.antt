-- The nodes of a tree of windows: the kind of each of them, and its parent.
use Rattle.std.specs.Prelude.{◌≡◌, ℕ, pos, ◌≤◌, ◌<◌, ⊤, Bool, true, false, List, [], Option, Some, None, get_or, length, ◌==◌}
use Rattle.std.specs.List.{filter, position_or_len}
use Rattle.tr_base.specs.declared.Point.{Point}
use Rattle.tr_base.specs.declared.Size.{Size}
use Rattle.tr_base.specs.declared.NodeId.{NodeId}
use Rattle.tr_base.specs.declared.LeafId.{LeafId}
use Rattle.tr_base.specs.Layouts.{longest, farthest, IsOffset}
use Rattle.tr_forest.specs.declared.kinds.NodeKind.{NodeKind}
use Rattle.tr_forest.specs.declared.kinds.NodeKind.TheVariants as kinds

-- a node: its kind, the tint of its frame, its place in a Z, its parent, and its own children in order
pub record Entry : Type 0 where
  pub kind : NodeKind
  pub tint : ℕ
  pub at : Point
  pub parent : Option NodeId
  pub children : List NodeId

-- the nodes by their numbers, and the number of the root
pub record Nodes : Type 0 where
  pub entries : List Entry
  pub root : Option NodeId

-- a node that was just added: it has no parent and no children
abbrev pub new_entry : NodeKind → ℕ → Entry
new_entry kind tint = record { kind = kind; tint = tint; at = record { h = pos 0; v = pos 0 }; parent = None; children = [] }

-- the node of this number; a number without a node gives an H without a parent
abbrev pub node : Nodes → NodeId → Entry
node t n = get_or t.entries n.0 (new_entry kinds.H 0)

-- the number is that of a node
pub record IsNode (t : Nodes) (n : NodeId) : Type 0 where
  pub within : n.0 < length t.entries

-- the node is a leaf: a window, with content of its own and no children
abbrev pub is_leaf : NodeKind → Bool
is_leaf (kinds.Leaf leaf shapes) = true
is_leaf kind = false

-- its children lie over one another, each at an offset of its own
abbrev pub is_z : NodeKind → Bool
is_z kinds.Z = true
is_z kind = false

-- it shows one of its children at a time
abbrev pub is_t : NodeKind → Bool
is_t (kinds.T shown) = true
is_t kind = false

-- it shows its children page by page
abbrev pub is_page : NodeKind → Bool
is_page (kinds.Page per page) = true
is_page kind = false

-- it surrounds its child
abbrev pub is_border : NodeKind → Bool
is_border (kinds.Border width) = true
is_border kind = false

-- it has a fixed size
abbrev pub is_rigid : NodeKind → Bool
is_rigid (kinds.Rigid size) = true
is_rigid kind = false

-- it moves its child
abbrev pub is_translate : NodeKind → Bool
is_translate (kinds.Translate by) = true
is_translate kind = false

-- filters have at most one child
abbrev pub is_filter : NodeKind → Bool
is_filter (kinds.Border width) = true
is_filter (kinds.Rigid size) = true
is_filter (kinds.Translate by) = true
is_filter kind = false

-- the child that a T shows by name
abbrev pub shown_by : NodeKind → Option NodeId
shown_by (kinds.T shown) = shown
shown_by kind = None

-- the leaf of a kind of node, if it is one
abbrev pub leaf_of : NodeKind → Option LeafId
leaf_of (kinds.Leaf leaf shapes) = Some leaf
leaf_of kind = None

-- the kind is that of this leaf
abbrev pub is_that_leaf : LeafId → NodeKind → Bool
is_that_leaf leaf (kinds.Leaf own shapes) = leaf.0 == own.0
is_that_leaf leaf kind = false

-- the node that is this leaf: the first of that kind
abbrev pub node_of : Nodes → LeafId → NodeId
node_of t leaf = record { 0 = position_or_len (λ e. is_that_leaf leaf e.kind) t.entries }

-- the number of leaves
abbrev pub leaf_count : Nodes → ℕ
leaf_count t = length (filter (λ e. is_leaf e.kind) t.entries)

-- a leaf has the next number, and there are at most 32
pub record IsNext (t : Nodes) (leaf : LeafId) : Type 0 where
  pub next : leaf.0 ≡ leaf_count t
  pub room : leaf_count t < 32

-- if a node that is to be added is a leaf, it is the next leaf
abbrev pub IsNextLeaf : Nodes → NodeKind → Type 0
IsNextLeaf t (kinds.Leaf leaf shapes) = IsNext t leaf
IsNextLeaf t kind = ⊤

-- the sides of a size are no longer than the greatest length
pub record IsSize (size : Size) : Type 0 where
  pub wide : size.wide ≤ longest
  pub high : size.high ≤ longest

-- a page has 1 to 16 strips
pub record IsPer (per : ℕ) : Type 0 where
  pub low : 1 ≤ per
  pub high : per ≤ 16

-- the numbers of a kind of node are within their ranges
abbrev pub IsNodeKind : NodeKind → Type 0
IsNodeKind (kinds.Page per page) = IsPer per
IsNodeKind (kinds.Rigid size) = IsSize size
IsNodeKind (kinds.Translate by) = IsOffset farthest by
IsNodeKind (kinds.Pack down gap) = gap ≤ 64
IsNodeKind kind = ⊤
