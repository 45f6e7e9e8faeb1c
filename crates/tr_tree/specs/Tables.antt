-- Private contracts alone cite this file.
-- Reading the tables of a tree.
use Rattle.std.specs.Prelude.{List, get_or}
use Rattle.tr_base.specs.declared.NodeId.{NodeId}
use Rattle.tr_base.specs.declared.Shapes.{Shapes}
use Rattle.tr_base.specs.Rects.{Edges, empty_rect}
use Rattle.tr_tree.specs.Wishes.{no_shapes}

-- the shapes that a table has
abbrev pub shape_in : List Shapes → NodeId → Shapes
shape_in table n = get_or table n.0 no_shapes

-- the domain that a table has
abbrev pub domain_in : List Edges → NodeId → Edges
domain_in table n = get_or table n.0 empty_rect
