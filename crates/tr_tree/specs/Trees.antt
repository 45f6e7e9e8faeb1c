-- The model of a tree of windows.
use Rattle.tr_base.specs.declared.Size.{Size}
use Rattle.tr_base.specs.declared.Kind.{Kind}
use Rattle.tr_forest.specs.declared.Edit.{Edit}
use Rattle.tr_forest.specs.declared.Edit.TheVariants as edits
use Rattle.tr_forest.specs.Nodes.{Nodes}
use Rattle.tr_forest.specs.Edits.{edited}

-- the nodes, and the size and the kind of the screen
pub record Seen : Type 0 where
  pub nodes : Nodes
  pub size : Size
  pub kind : Kind

-- the size of the screen after an edit
abbrev pub size_after : Edit → Size → Size
size_after (edits.Resize new) size = new
size_after edit size = size

-- the kind of the screen after an edit
abbrev pub kind_after : Edit → Kind → Kind
kind_after (edits.Rescreen new) kind = new
kind_after edit kind = kind

-- the tree after an edit that isn't refused
abbrev pub edited_tree : Seen → Edit → Seen
edited_tree t edit = record {
  nodes = edited t.nodes edit;
  size = size_after edit t.size;
  kind = kind_after edit t.kind;
}
