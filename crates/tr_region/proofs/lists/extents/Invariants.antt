use Rattle.std.proofs.Common.{◌≡◌, ◌∷◌, take}
use Rattle.tr_base.specs.Rects.{InReach}
use Rattle.tr_region.specs.Extents.{extents_of}
use Rattle.tr_region.proofs.lists.extents.Given as goal

abbrev pub invariant-loop-rect : goal.invariant-loop-rect
invariant-loop-rect l = record {
  west : l.west ≡ (extents_of (l.first ∷ take l.rect-index l.rects)).west;
  east : l.east ≡ (extents_of (l.first ∷ take l.rect-index l.rects)).east;
  west_reach : InReach l.west;
  east_reach : InReach l.east;
}
