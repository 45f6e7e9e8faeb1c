-- Private contracts alone cite this file.
-- The table of a forest's windows.
use Rattle.std.specs.Prelude.{◌≡◌, ℕ, ◌<◌, List, Some, get_or, length}
use Rattle.tr_base.specs.declared.NodeId.{NodeId}
use Rattle.tr_forest.specs.Nodes.{Nodes, node, leaf_of, leaf_count}
use Rattle.tr_forest.specs.Forests.{IsForest}

-- the node of the leaf of this number
abbrev pub in_table : List NodeId → ℕ → NodeId
in_table leaves k = get_or leaves k (record { 0 = 0 })

-- the nodes are a forest, and the table has the node of each leaf
pub record IsLeafTable (t : Nodes) (leaves : List NodeId) : Type 0 where
  pub forest : IsForest t
  pub count : length leaves ≡ leaf_count t
  pub places : (k : ℕ) → k < length leaves → leaf_of (node t (in_table leaves k)).kind ≡ Some (record { 0 = k })
