-- Private contracts alone cite this file.
-- Edits after which no window has another size or another kind of pixels.
use Rattle.std.specs.Prelude.{Bool, true, false}
use Rattle.tr_forest.specs.declared.Edit.{Edit}
use Rattle.tr_forest.specs.declared.Edit.TheVariants as edits
use Rattle.tr_forest.specs.Nodes.{Nodes, is_leaf, node}

-- a tint, a lift, and a move of a window
abbrev pub keeps_sizes : Nodes → Edit → Bool
keeps_sizes t (edits.Tint n tint) = true
keeps_sizes t (edits.Lift child) = true
keeps_sizes t (edits.Move child at) = is_leaf (node t child).kind
keeps_sizes t edit = false
