-- The tree, the font and the contents of the leaves that the items of an opening make.
use Rattle.std.specs.Prelude.{◌≡◌, ◌≢◌, ℕ, ◌-◌, ◌≤◌, ◌||◌, if◌then◌else◌, List, [], ◌∷◌, ◌++◌, Option, Some, None, is_some, All, fold, length, take, slice_get, slice_set}
use Rattle.std.specs.List.{filter_map}
use Rattle.tr_base.specs.declared.NodeId.{NodeId}
use Rattle.tr_base.specs.declared.Kind.TheVariants.{Mono}
use Rattle.tr_base.specs.Fonts.{empty_font}
use Rattle.tr_base.specs.Rects.{IsScreenSize}
use Rattle.tr_forest.specs.declared.NodeKind.{NodeKind}
use Rattle.tr_forest.specs.declared.NodeKind.TheVariants as kinds
use Rattle.tr_forest.specs.declared.Edit.TheVariants as edits
use Rattle.tr_forest.specs.declared.NodeFault.{NodeFault}
use Rattle.tr_forest.specs.declared.NodeFault.TheVariants as faults
use Rattle.tr_forest.specs.Nodes.{Nodes, new_entry, leaf_count}
use Rattle.tr_forest.specs.Forests.{IsForest}
use Rattle.tr_forest.specs.Edits.{hangs}
use Rattle.tr_tree.specs.Trees.{Seen, edited_tree}
use Rattle.tr_client.specs.declared.clients.Client.{Ghosts}
use Rattle.tr_journal.specs.declared.items.Item.{Item}
use Rattle.tr_journal.specs.declared.items.Item.TheVariants.{Screen, Glyph, Node, Leaf, Put, Root}

-- no node, and no root
abbrev pub no_nodes : Nodes
no_nodes = record { entries = []; root = None }

-- the tree before there is a screen: it has no nodes
abbrev pub no_screen : Seen
no_screen = record { nodes = no_nodes; size = record { wide = 0; high = 0 }; kind = Mono }

-- the tree with one more node, which has no parent
abbrev pub with_node : NodeKind → ℕ → Seen → Seen
with_node kind tint t = record t { nodes = record t.nodes { entries = t.nodes.entries ++ new_entry kind tint ∷ [] } }

-- the tree after an item
abbrev pub tree_after : {C : Type 0} → Seen → Item C → Seen
tree_after t (Screen size kind) = record { nodes = no_nodes; size = size; kind = kind }
tree_after t (Glyph byte rows) = t
tree_after t (Node kind tint) = with_node kind tint t
tree_after t (Leaf shapes content) = with_node (kinds.Leaf (record { 0 = leaf_count t.nodes }) shapes) 0 t
tree_after t (Put child parent at) = edited_tree t (edits.Attach child parent at)
tree_after t (Root node) = record t { nodes = record t.nodes { root = Some node } }

-- the tree that the items make, one after another
abbrev pub tree_of : {C : Type 0} → List (Item C) → Seen
tree_of items = fold tree_after no_screen items

-- the font after an item
abbrev pub font_after : {C : Type 0} → List (List ℕ) → Item C → List (List ℕ)
font_after font (Glyph byte rows) = slice_set font (byte - 32) rows
font_after font item = font

-- the font that the items make
abbrev pub font_of : {C : Type 0} → List (Item C) → List (List ℕ)
font_of items = fold font_after empty_font items

-- the content that an item has
abbrev pub content_in : {C : Type 0} → Item C → Option C
content_in (Leaf shapes content) = Some content
content_in item = None

-- the contents of the leaves, by their numbers
abbrev pub contents_of : {C : Type 0} → List (Item C) → List C
contents_of items = filter_map content_in items

-- the reason why a node can't become the root, if it can't: there is a root, or the node has a parent
abbrev pub root_refusal : Nodes → NodeId → Option NodeFault
root_refusal t node = if is_some t.root || hangs t node then Some faults.Attached else None

-- The invariant of an opening's items: they make a tree on a screen, and each of its leaves has a content.
pub record IsOpened {C M : Type 0} (client : Ghosts C M) (items : List (Item C)) : Type 0 where
  pub forest : IsForest (tree_of items).nodes
  pub screen : IsScreenSize (tree_of items).size
  pub leaves : length (contents_of items) ≡ leaf_count (tree_of items).nodes
  pub contents : All client.valid (contents_of items)

-- two lists have the same elements before a place, counted from 1, and differ at that place; one of them may end there
pub record DifferAt {A : Type 0} (xs ys : List A) (place : ℕ) : Type 0 where
  pub counted : 1 ≤ place
  pub before : take (place - 1) xs ≡ take (place - 1) ys
  pub there : slice_get xs (place - 1) ≢ slice_get ys (place - 1)
