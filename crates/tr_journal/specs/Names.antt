-- The names of nodes and leaves.
use Rattle.std.specs.Prelude.{ℕ, ◌<◌, List, [], length, slice_get, unwrap_or}
use Rattle.tr_base.specs.declared.ids.NodeId.{NodeId}
use Rattle.tr_base.specs.declared.ids.LeafId.{LeafId}
use Rattle.tr_journal.specs.declared.names.NameOf.{Ghosts}

-- the names of the nodes, leaves among them, and those of the leaves, by their numbers
pub record Names : Type 0 where
  pub nodes : List (List ℕ)
  pub leaves : List (List ℕ)

-- the names, by a type that has them
abbrev pub names_of : {N : Type 0} → Ghosts N → N → Names
names_of has names = record { nodes = has.node_names names; leaves = has.leaf_names names }

-- the name of a node
abbrev pub node_name : Names → NodeId → List ℕ
node_name names node = unwrap_or (slice_get names.nodes node.0) []

-- the name of a leaf
abbrev pub leaf_name : Names → LeafId → List ℕ
leaf_name names leaf = unwrap_or (slice_get names.leaves leaf.0) []

-- the node has a name
pub record HasNode (names : Names) (node : NodeId) : Type 0 where
  pub within : node.0 < length names.nodes

-- the leaf has a name
pub record HasLeaf (names : Names) (leaf : LeafId) : Type 0 where
  pub within : leaf.0 < length names.leaves
