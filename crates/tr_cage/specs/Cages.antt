-- The positions of the cursor that a window needn't be told.
use Rattle.std.specs.Prelude.{Bool, true, ◌&&◌, if◌then◌else◌}
use Rattle.tr_base.specs.declared.points.Point.{Point}
use Rattle.tr_base.specs.Rects.{has_point}
use Rattle.tr_cage.specs.declared.cages.Cage.{Cage}
use Rattle.tr_cage.specs.declared.cages.Cage.TheVariants.{Everywhere, Only}

-- the cage holds the cursor at a position; the flag says that the cursor is gone from the window
abbrev pub cage_holds : Cage → Point → Bool → Bool
cage_holds Everywhere at is_gone = true
cage_holds (Only rect here gone) at is_gone = has_point rect at && (if is_gone then gone else here)
