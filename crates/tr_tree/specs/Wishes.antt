-- The lengths that each node wants, computed upwards from its children's.
use Rattle.std.specs.Prelude.{ℕ, zero, suc, false, true, List, [], ◌∷◌, map}
use Rattle.tr_base.specs.declared.NodeId.{NodeId}
use Rattle.tr_base.specs.declared.Shapes.{Shapes}
use Rattle.tr_base.specs.Layouts.{no_lengths}
use Rattle.tr_forest.specs.declared.NodeKind.{NodeKind}
use Rattle.tr_forest.specs.declared.NodeKind.TheVariants as kinds
use Rattle.tr_forest.specs.Nodes.{Nodes, node}
use Rattle.tr_forest.specs.Families.{levels}
use Rattle.tr_hv.specs.Places as hv
use Rattle.tr_stack.specs.Stacks.{max_shape, page_shape}
use Rattle.tr_filter.specs.Filters.{border_shape, rigid_shape, translate_shape}
use Rattle.tr_pack.specs.Packs.{pack_shape}

-- a node that wants nothing
abbrev pub no_shapes : Shapes
no_shapes = record { across = no_lengths; down = no_lengths }

-- the shapes of the one child of a filter, if it has one
abbrev pub only_child : List Shapes → Shapes
only_child [] = no_shapes
only_child (c ∷ cs) = c

-- the shapes of a node, from its children's
abbrev pub shape_of : NodeKind → List Shapes → Shapes
shape_of kinds.H cs = hv.hv_shape false cs
shape_of kinds.V cs = hv.hv_shape true cs
shape_of kinds.Z cs = max_shape cs
shape_of (kinds.T shown) cs = max_shape cs
shape_of (kinds.Page per page) cs = page_shape per cs
shape_of (kinds.Border width) cs = border_shape width (only_child cs)
shape_of (kinds.Rigid size) cs = rigid_shape size
shape_of (kinds.Translate by) cs = translate_shape (only_child cs)
shape_of (kinds.Pack down gap) cs = pack_shape down gap cs
shape_of (kinds.Leaf leaf shapes) cs = shapes

-- the shapes of a node, computed from this number of levels of nodes, its own included: deeper nodes want nothing
unfoldable pub shape_within : ℕ → Nodes → NodeId → Shapes
shape_within zero t n = no_shapes
shape_within (suc f) t n = shape_of (node t n).kind (map (shape_within f t) (node t n).children)

-- the shapes of a node: there are at most 16 levels from a node downwards, its own included
abbrev pub shape : Nodes → NodeId → Shapes
shape t n = shape_within levels t n
