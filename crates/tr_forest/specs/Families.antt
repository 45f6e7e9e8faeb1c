-- The nodes below a node. Each walk up or down has a bound on its steps; 16 are enough, since no node lies deeper.
use Rattle.std.specs.Prelude.{ℕ, zero, suc, ◌+◌, Bool, false, ◌==◌, ◌||◌, List, Option, Some, None}
use Rattle.std.specs.List.{list_any}
use Rattle.tr_base.specs.declared.NodeId.{NodeId}
use Rattle.tr_base.specs.Layouts.{greatest_by}
use Rattle.tr_forest.specs.Nodes.{Nodes, node}

-- the most nodes that may lie one below another
abbrev pub levels : ℕ
levels = 16

-- the node is in the list
abbrev pub is_among : NodeId → List NodeId → Bool
is_among n ns = list_any (λ m. m.0 == n.0) ns

-- a node's depth: one more than its parent's depth, which `up` gives, and 1 without a parent
abbrev pub deeper : Option NodeId → (NodeId → ℕ) → ℕ
deeper None up = 1
deeper (Some parent) up = up parent + 1

-- the number of nodes from a node up to its topmost one, both counted, in a limited number of steps
unfoldable pub depth_within : ℕ → Nodes → NodeId → ℕ
depth_within zero t n = 1
depth_within (suc f) t n = deeper (node t n).parent (depth_within f t)

-- the number of nodes from a node up to its topmost one, both counted
abbrev pub depth : Nodes → NodeId → ℕ
depth t n = depth_within levels t n

-- the number of nodes from a node down to the lowest one below it, both counted, in a limited number of steps
unfoldable pub height_within : ℕ → Nodes → NodeId → ℕ
height_within zero t n = 1
height_within (suc f) t n = greatest_by (height_within f t) (node t n).children + 1

-- the number of nodes from a node down to the lowest one below it, both counted
abbrev pub height : Nodes → NodeId → ℕ
height t n = height_within levels t n

-- a test of the parent; it fails without a parent
abbrev pub of_parent : Option NodeId → (NodeId → Bool) → Bool
of_parent None up = false
of_parent (Some parent) up = up parent

-- n is `top`, or going up from n by parents reaches `top` within a limited number of steps
unfoldable pub is_under_within : ℕ → Nodes → NodeId → NodeId → Bool
is_under_within zero t top n = n.0 == top.0
is_under_within (suc f) t top n = (n.0 == top.0) || of_parent (node t n).parent (is_under_within f t top)

-- n is `top`, or lies below it
abbrev pub is_under : Nodes → NodeId → NodeId → Bool
is_under t top n = is_under_within levels t top n
