-- Private contracts alone cite this file.
-- The tree before the last edit.
use Rattle.std.specs.Prelude.{◌≡◌}
use Rattle.tr_forest.specs.Edits.{IsEdit}
use Rattle.tr_tree.specs.Trees.{Seen, edited_tree}
use Rattle.tr_surface.specs.declared.formers.Former.{Former}

-- the last edit made this tree of the former one
pub record IsFormer (t : Seen) (f : Former) : Type 0 where
  pub fits : IsEdit f.tree.nodes f.edit
  pub edited : edited_tree f.tree f.edit ≡ t
