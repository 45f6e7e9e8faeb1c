-- Private contracts alone cite this file.
-- Bounded cages.
use Rattle.std.specs.Prelude.{◌≡◌, Bool, true, false}
use Rattle.tr_base.specs.declared.LeafId.{LeafId}
use Rattle.tr_cage.specs.declared.Cage.{Cage}
use Rattle.tr_cage.specs.declared.Cage.TheVariants.{Everywhere, Only}
use Rattle.tr_desk.specs.Desks.{Devices, state_of}

-- the cage isn't everywhere
abbrev pub is_bounded : Cage → Bool
is_bounded Everywhere = false
is_bounded (Only rect here gone) = true

-- each leaf's cage is everywhere
abbrev pub IsUnbounded : Devices → Type 0
IsUnbounded d = (leaf : LeafId) → is_bounded (state_of d leaf).cage ≡ false
