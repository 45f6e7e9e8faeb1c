-- Private contracts alone cite this file.
-- Two trees of the same nodes.
use Rattle.std.specs.Prelude.{◌≡◌, List, Option, Some, None, length}
use Rattle.tr_base.specs.declared.NodeId.{NodeId}
use Rattle.tr_forest.specs.Nodes.{node}
use Rattle.tr_forest.specs.Edits.{without}
use Rattle.tr_tree.specs.Trees.{Seen}

-- a list of children without one child, if one is named
abbrev pub without_child : Option NodeId → List NodeId → List NodeId
without_child None cs = cs
without_child (Some child) cs = without child cs

-- The two trees have the same nodes on a screen of the same size, and each node has the same children in the same order, except for one
-- child that may have another place.
pub record AreAlikeBut (child : Option NodeId) (was is : Seen) : Type 0 where
  pub count : length is.nodes.entries ≡ length was.nodes.entries
  pub root : is.nodes.root ≡ was.nodes.root
  pub size : is.size ≡ was.size
  pub children : (n : NodeId) → without_child child (node is.nodes n).children ≡ without_child child (node was.nodes n).children
