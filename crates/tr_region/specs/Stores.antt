-- Private contracts alone cite this file.
-- The two parts that store the list of a region.
use Rattle.std.specs.Prelude.{◌≡◌, int_lt, if◌then◌else◌, List, [], ◌∷◌}
use Rattle.tr_base.specs.Rects.{Edges}
use Rattle.tr_region.specs.Bands.{IsCanonical}
use Rattle.tr_region.specs.Extents.{extents_of}

-- the list from its stored parts: `many`, if it has rectangles, and else the one rectangle of the extents, if that has points
abbrev pub listed : Edges → List Edges → List Edges
listed extents [] = if int_lt extents.west extents.east then extents ∷ [] else []
listed extents (r ∷ rects) = r ∷ rects

-- the stored list is canonical, and the extents are those of the list
pub record IsStored (extents : Edges) (many : List Edges) : Type 0 where
  pub canonical : IsCanonical (listed extents many)
  pub hull : extents ≡ extents_of (listed extents many)
