-- The invariant of a forest.
use Rattle.std.specs.Prelude.{◌≡◌, ◌≢◌, ◌≤◌, ◌<◌, true, [], AllPairs, Some, None, length}
use Rattle.tr_base.specs.declared.NodeId.{NodeId}
use Rattle.tr_base.specs.declared.LeafId.{LeafId}
use Rattle.tr_base.specs.Layouts.{farthest, IsOffset}
use Rattle.tr_forest.specs.Nodes.{Nodes, IsNode, IsNodeKind, node, is_leaf, is_filter, shown_by, leaf_of, leaf_count}
use Rattle.tr_forest.specs.Families.{levels, is_among, depth}

-- parents and children agree, no node is listed twice, and no node lies below itself or deeper than 16
pub record IsForest (t : Nodes) : Type 0 where
  pub count : length t.entries ≤ 256
  pub parents : (n parent : NodeId) → (node t n).parent ≡ Some parent → is_among n (node t parent).children ≡ true
  pub children : (n child : NodeId) → is_among child (node t n).children ≡ true → (node t child).parent ≡ Some n
  pub once : (n : NodeId) → AllPairs (λ a b. a.0 ≢ b.0) (node t n).children
  pub depths : (n : NodeId) → depth t n ≤ levels
  pub root : (n : NodeId) → t.root ≡ Some n → IsNode t n
  pub top : (n : NodeId) → t.root ≡ Some n → (node t n).parent ≡ None
  pub leaves : (n : NodeId) → is_leaf (node t n).kind ≡ true → (node t n).children ≡ []
  pub filters : (n : NodeId) → is_filter (node t n).kind ≡ true → length (node t n).children ≤ 1
  pub shown : (n child : NodeId) → shown_by (node t n).kind ≡ Some child → is_among child (node t n).children ≡ true
  pub kinds : (n : NodeId) → IsNodeKind (node t n).kind
  pub offsets : (n : NodeId) → IsOffset farthest (node t n).at
  pub leaf_numbers : leaf_count t ≤ 32
  pub numbered : (n : NodeId) (leaf : LeafId) → leaf_of (node t n).kind ≡ Some leaf → leaf.0 < leaf_count t
  pub unlike : (m n : NodeId) (leaf : LeafId) → leaf_of (node t m).kind ≡ Some leaf → leaf_of (node t n).kind ≡ Some leaf → m.0 ≡ n.0
