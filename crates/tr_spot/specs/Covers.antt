-- Private contracts alone cite this file.
-- Two trees between which one child has moved with all nodes below it, or has come in front of its siblings, and all other nodes
-- have stayed.
use Rattle.std.specs.Prelude.{◌≡◌, Bool, true, false, Option, Some, None}
use Rattle.tr_base.specs.declared.Point.{Point}
use Rattle.tr_base.specs.declared.NodeId.{NodeId}
use Rattle.tr_base.specs.Rects.{before_shift, has_point}
use Rattle.tr_forest.specs.Nodes.{Nodes, IsNode}
use Rattle.tr_forest.specs.Families.{is_under}
use Rattle.tr_forest.specs.Forests.{IsForest}
use Rattle.tr_tree.specs.Trees.{Seen}
use Rattle.tr_tree.specs.Places.{domain}
use Rattle.tr_spot.specs.Ways.{comes_to}
use Rattle.tr_spot.specs.Changes.{AreAlikeBut}

-- the node is the child or lies below it, if there is a child
abbrev pub lies_under : Nodes → Option NodeId → NodeId → Bool
lies_under t None n = false
lies_under t (Some child) n = is_under t child n

-- the walk from the root to the owner of a point reaches the child, if there is one
abbrev pub comes_upon : Seen → Point → Option NodeId → Bool
comes_upon t p None = false
comes_upon t p (Some child) = comes_to t p child

-- Each node has the same children in the same order in both trees, except for the child, which may have another place among them. The
-- child and all nodes below it have moved by `by`, and all other nodes have stayed.
pub record IsCarried (by : Point) (child : Option NodeId) (was is : Seen) : Type 0 where
  pub before : IsForest was.nodes
  pub after : IsForest is.nodes
  pub alike : AreAlikeBut child was is
  pub still : (n : NodeId) (p : Point) → IsNode is.nodes n → lies_under is.nodes child n ≡ false →
      has_point (domain is n) p ≡ has_point (domain was n) p
  pub moved : (n : NodeId) (p : Point) → IsNode is.nodes n → lies_under is.nodes child n ≡ true →
      has_point (domain is n) p ≡ has_point (domain was n) (before_shift p by)
