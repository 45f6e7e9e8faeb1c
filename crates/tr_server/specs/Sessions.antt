-- The numbers that belong to the name of a session.
use Rattle.std.specs.Prelude.{◌≡◌, ℕ, List, length}
use Rattle.tr_forest.specs.Nodes.{leaf_count}
use Rattle.tr_journal.specs.declared.items.Item.{Item}
use Rattle.tr_journal.specs.Openings.{tree_of}

-- the tree of an opening has this number of nodes, and this number of leaves
pub record HasIds {C : Type 0} (nodes leaves : ℕ) (opening : List (Item C)) : Type 0 where
  pub nodes_are : length (tree_of opening).nodes.entries ≡ nodes
  pub leaves_are : leaf_count (tree_of opening).nodes ≡ leaves
