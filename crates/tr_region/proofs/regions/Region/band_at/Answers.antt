use Rattle.std.proofs.Common.{sym, subst}
use Rattle.tr_base.proofs.RectLemmas.{cast-in_reach}
use Rattle.tr_region.specs.RowParts.{AreInOrder, HoldsPoints}
use Rattle.tr_region.proofs.RowLemmas.{AreInOrder-canonical, full_at, row_some}
use Rattle.tr_region.proofs.BandRows.{cut_order}
use Rattle.tr_region.proofs.regions.Region.band_at.Goals as goal

pub returns-clause-order : goal.returns-clause-order
returns-clause-order c =
    let rects = c.rects.result.now in
    let r = c.index-rects-at.result in
    let order : AreInOrder rects = rw c.rects.ensures.value (AreInOrder-canonical c.args.self.now c.rects.ensures.invariant) in
    let full : HoldsPoints r = subst HoldsPoints (sym c.index-rects-at.is) (full_at rects c.args.at r order (rw c.rects.ensures.value c.requires.place)) in
    let north = rw (cast-in_reach _ c.north.ensures.reach, c.north.ensures.value) at c.nearest_row.ensures in
    let south = rw (cast-in_reach _ c.south.ensures.reach, c.south.ensures.value) at c.nearest_row-2.ensures in
    cut_order r.north r.south c.args.north c.args.south c.nearest_row.result c.nearest_row-2.result full.1 north south

pub returns-clause-some : goal.returns-clause-some
returns-clause-some c =
    let rects = c.rects.result.now in
    let r = c.index-rects-at.result in
    let order : AreInOrder rects = rw c.rects.ensures.value (AreInOrder-canonical c.args.self.now c.rects.ensures.invariant) in
    let points = rw (cast-in_reach _ c.north-2.ensures.reach, c.north-2.ensures.value, ← c.rects.ensures.value, c.index-rects-at.is) at c.row.ensures.points in
    row_some rects c.row.result.now c.args.at r order (rw c.rects.ensures.value c.requires.place) points
