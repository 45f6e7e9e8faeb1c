-- Private contracts alone cite this file.
-- The parts of an opening beside its items.
use Rattle.std.specs.Prelude.{◌≡◌, ℕ, suc, ◌+◌, ◌≤◌, List, [], ◌∷◌, All, is_none, map, count_by, length}
use Rattle.tr_forest.specs.Nodes.{Nodes, leaf_count}
use Rattle.tr_tree.specs.Trees.{Seen}
use Rattle.tr_client.specs.declared.clients.Client.{Ghosts}
use Rattle.tr_journal.specs.declared.items.Item.{Item}
use Rattle.tr_journal.specs.declared.items.Item.TheVariants.{Leaf}
use Rattle.tr_journal.specs.Openings.{tree_of, font_of, contents_of}

-- the places of the leaves' items
abbrev pub leaf_places : {C : Type 0} → List (Item C) → List ℕ
leaf_places [] = []
leaf_places (Leaf shapes content ∷ items) = 0 ∷ map suc (leaf_places items)
leaf_places (item ∷ items) = map suc (leaf_places items)

-- The tree, the font and the places are those of the items, and each leaf has a content.
pub record IsTreeOfItems {C M : Type 0} (client : Ghosts C M) (items : List (Item C)) (tree : Seen) (font : List (List ℕ))
    (leaves : List ℕ) :
    Type 0 where
  pub tree_is : tree ≡ tree_of items
  pub font_is : font ≡ font_of items
  pub leaves_are : leaves ≡ leaf_places items
  pub nodes : length tree.nodes.entries ≤ 256
  pub contents : All client.valid (contents_of items)
  pub numbers : length (contents_of items) ≡ leaf_count tree.nodes

-- the number of nodes without a parent
abbrev pub loose_count : Nodes → ℕ
loose_count t = count_by is_none (map (λ e. e.parent) t.entries)

-- there is room for a Put of each node without a parent
pub record HasRoomForPuts (count capacity : ℕ) (t : Nodes) : Type 0 where
  pub room : count + loose_count t ≤ capacity
