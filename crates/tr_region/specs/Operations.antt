-- Private contracts alone cite this file.
-- The points that an operation on two sets keeps.
use Rattle.std.specs.Prelude.{Bool, not, ◌&&◌, ◌||◌}
use Rattle.tr_region.specs.declared.operations.Operation.{Operation}
use Rattle.tr_region.specs.declared.operations.Operation.TheVariants.{Union, Meet, Minus}

-- the operation keeps a point: this depends on whether the first set has it, and the second
abbrev pub keeps : Operation → Bool → Bool → Bool
keeps Union in_first in_second = in_first || in_second
keeps Meet in_first in_second = in_first && in_second
keeps Minus in_first in_second = in_first && not in_second
