-- The nodes on the walk from the root to a point's owner.
use Rattle.std.specs.Prelude.{ℕ, zero, suc, Bool, true, false, ◌&&◌, ◌==◌, if◌then◌else◌, List, Option, Some, None}
use Rattle.std.specs.List.{find}
use Rattle.tr_base.specs.declared.Point.{Point}
use Rattle.tr_base.specs.declared.NodeId.{NodeId}
use Rattle.tr_base.specs.Rects.{has_point, whole_of}
use Rattle.tr_forest.specs.Nodes.{node}
use Rattle.tr_forest.specs.Families.{levels}
use Rattle.tr_forest.specs.Edits.{is_root}
use Rattle.tr_tree.specs.Trees.{Seen}
use Rattle.tr_tree.specs.Places.{domain}
use Rattle.tr_spot.specs.Spots.{owner}

-- the first of these nodes whose domain has the point
abbrev pub front : Seen → Point → List NodeId → Option NodeId
front t p cs = find (λ c. has_point (domain t c) p) cs

-- a node was found, and it is this one
abbrev pub is_it : NodeId → Option NodeId → Bool
is_it n None = false
is_it n (Some m) = m.0 == n.0

-- nothing was found
abbrev pub is_nobody : Option NodeId → Bool
is_nobody None = true
is_nobody (Some m) = false

-- the walk reaches the parent, and continues at this child
abbrev pub comes_below : Seen → Point → NodeId → Option NodeId → (NodeId → Bool) → Bool
comes_below t p n None up = false
comes_below t p n (Some parent) up = up parent && is_it n (front t p (node t.nodes parent).children)

-- the walk reaches a node, checked for this number of levels up
unfoldable pub comes_within : ℕ → Seen → Point → NodeId → Bool
comes_within zero t p n = false
comes_within (suc f) t p n =
    if is_root t.nodes n then has_point (whole_of t.size) p else comes_below t p n (node t.nodes n).parent (comes_within f t p)

-- the walk from the root to the owner of a point reaches a node
abbrev pub comes_to : Seen → Point → NodeId → Bool
comes_to t p n = comes_within levels t p n

-- the node at which the walk from the root ends, if there is a root
abbrev pub ends_at : Seen → Point → Option NodeId → Option NodeId
ends_at t p None = None
ends_at t p (Some root) = Some (owner t root p)

-- the walk from the root ends at the node
abbrev pub owns : Seen → Point → NodeId → Bool
owns t p n = has_point (whole_of t.size) p && is_it n (ends_at t p t.nodes.root)
