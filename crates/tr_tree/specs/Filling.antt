-- Private contracts alone cite this file.
-- The table of shapes is filled from the lowest nodes upwards.
use Rattle.std.specs.Prelude.{◌≡◌, ◌⊎◌, true, List}
use Rattle.tr_base.specs.declared.NodeId.{NodeId}
use Rattle.tr_base.specs.declared.Shapes.{Shapes}
use Rattle.tr_forest.specs.Nodes.{Nodes, node}
use Rattle.tr_forest.specs.Families.{is_among, is_under}
use Rattle.tr_tree.specs.Wishes.{shape}
use Rattle.tr_tree.specs.Tables.{shape_in}

-- each entry is the old one or right
pub record AreKeptOrRight (t : Nodes) (old new : List Shapes) : Type 0 where
  pub each : (m : NodeId) → (shape_in new m ≡ shape_in old m) ⊎ (shape_in new m ≡ shape t m)

-- each entry is the old one or right, and the entries of n and of all nodes below it are right
pub record Fills (t : Nodes) (n : NodeId) (old new : List Shapes) : Type 0 where
  pub others : AreKeptOrRight t old new
  pub below : (m : NodeId) → is_under t n m ≡ true → shape_in new m ≡ shape t m

-- the table has the shapes of a node's children
pub record HasChildren (t : Nodes) (n : NodeId) (table : List Shapes) : Type 0 where
  pub right : (c : NodeId) → is_among c (node t n).children ≡ true → shape_in table c ≡ shape t c
