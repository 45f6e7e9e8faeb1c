use Rattle.std.proofs.Common.{refl}
use Rattle.tr_region.proofs.RegionLemmas.{IsCanonical-append}
use Rattle.tr_region.proofs.regions.Region.followed_by.Goals as goal

pub of_list-requires : goal.of_list-requires
of_list-requires c =
    rw (
      c.in_ok-extend_from_slice-2.ensures.items,
      c.in_ok-extend_from_slice.ensures.items,
      c.in_ok-rects.ensures.items,
      c.rects-mine.ensures.value,
      c.rects-theirs.ensures.value,
    )
    (IsCanonical-append c.args.self.now c.args.other.now c.rects-mine.ensures.invariant c.rects-theirs.ensures.invariant c.requires)

pub returns : goal.returns
returns c =
    rw (
      c.of_list.ensures,
      c.in_ok-extend_from_slice-2.ensures.items,
      c.in_ok-extend_from_slice.ensures.items,
      c.in_ok-rects.ensures.items,
      c.rects-mine.ensures.value,
      c.rects-theirs.ensures.value,
    )
    refl
