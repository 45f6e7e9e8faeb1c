-- The levels that are held, as a list.
use Rattle.std.specs.Prelude.{Bool, true, false, List, [], ◌∷◌, ◌++◌, map, Option, Some, None, if◌then◌else◌}
use Rattle.std.specs.Option.{option_to_list}
use Rattle.tr_base.specs.declared.ids.LeafId.{LeafId}
use Rattle.tr_levels.specs.declared.levels.Level.{Level}
use Rattle.tr_levels.specs.declared.levels.Level.TheVariants.{Mu, Share, Win}

-- the levels of the tree's lock, of a share and of a window, each if it is held
abbrev pub levels_of : Bool → Option LeafId → Option LeafId → List Level
levels_of mu share win =
    (if mu then Mu ∷ [] else []) ++ map Share (option_to_list share) ++ map Win (option_to_list win)

-- the tree's lock is among the levels
abbrev pub has_mu : List Level → Bool
has_mu [] = false
has_mu (Mu ∷ levels) = true
has_mu (level ∷ levels) = has_mu levels

-- the leaf of the first share among the levels
abbrev pub first_share : List Level → Option LeafId
first_share [] = None
first_share (Share leaf ∷ levels) = Some leaf
first_share (level ∷ levels) = first_share levels

-- the leaf of the first window among the levels
abbrev pub first_window : List Level → Option LeafId
first_window [] = None
first_window (Win leaf ∷ levels) = Some leaf
first_window (level ∷ levels) = first_window levels
