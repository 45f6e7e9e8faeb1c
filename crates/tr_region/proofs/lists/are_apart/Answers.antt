use Rattle.std.proofs.Common.{◌<◌, inl, inr, length, rules, arith}
use Rattle.tr_base.specs.Rects.{empty_rect}
use Rattle.tr_base.proofs.RectLemmas.{cast-in_reach}
use Rattle.tr_region.proofs.lists.are_apart.Goals as goal

pub loop-first-smaller : goal.loop-first-smaller
loop-first-smaller c =
    let some_first : 0 < length c.loop-first.first.now = search rules in
    let some_second : 0 < length c.loop-first.second.now = search rules in
    elim (c.in-Some.ensures.ended empty_rect) [
      | inl h ↦ omega (
        arith,
        c.from_row-first.ensures.fewer empty_rect some_first (rw (cast-in_reach _ c.in-Some.ensures.reach) h),
        c.from_row-second.ensures.fits,
      )
      | inr h ↦ omega (
        arith,
        c.from_row-second.ensures.fewer empty_rect some_second (rw (cast-in_reach _ c.in-Some.ensures.reach) h),
        c.from_row-first.ensures.fits,
      )
    ]
