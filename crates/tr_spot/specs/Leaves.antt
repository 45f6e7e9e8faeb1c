-- The place of a leaf on the screen, and the size of its window.
use Rattle.std.specs.Prelude.{Bool, ◌&&◌, ◌==◌}
use Rattle.tr_base.specs.declared.Point.{Point}
use Rattle.tr_base.specs.declared.Size.{Size}
use Rattle.tr_base.specs.declared.LeafId.{LeafId}
use Rattle.tr_base.specs.Rects.{Edges}
use Rattle.tr_forest.specs.Nodes.{node_of}
use Rattle.tr_tree.specs.Trees.{Seen}
use Rattle.tr_tree.specs.Places.{domain}
use Rattle.tr_spot.specs.Spots.{from_corner, size_of}

-- the rectangle of a leaf's window in the screen's coordinates; it is empty for an unplaced leaf
abbrev pub leaf_domain : Seen → LeafId → Edges
leaf_domain t leaf = domain t (node_of t.nodes leaf)

-- the size of a leaf's window
abbrev pub leaf_size : Seen → LeafId → Size
leaf_size t leaf = size_of (leaf_domain t leaf)

-- the north-west corner of a leaf's window; it is (0, 0) for an unplaced leaf
abbrev pub leaf_corner : Seen → LeafId → Point
leaf_corner t leaf = record { h = (leaf_domain t leaf).west; v = (leaf_domain t leaf).north }

-- a point of the screen in the coordinates of a leaf's window
abbrev pub in_leaf : Seen → LeafId → Point → Point
in_leaf t leaf p = from_corner (leaf_domain t leaf) p

-- the two sizes are equal
abbrev pub same_size : Size → Size → Bool
same_size a b = (a.wide == b.wide) && (a.high == b.high)
